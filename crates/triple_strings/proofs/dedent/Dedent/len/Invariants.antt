-- `len` is the length of `stripped`: what is measured, with what is left, is as long as the whole. Assumes nothing.
use Rattle.std.proofs.Common.{◌≡◌, ◌+◌, length}
use Rattle.triple_strings.specs.Helpers.{stripped}
use Rattle.triple_strings.proofs.Stripping.{left}
use Rattle.triple_strings.proofs.dedent.Dedent.len.Given as goal

abbrev pub invariant-loop-rest : goal.invariant-loop-rest
invariant-loop-rest l = l.size + length (left l.self.indent.now l.rest) ≡ length (stripped l.self.indent.now l.self.body.now)

abbrev pub decreases-loop-rest : goal.decreases-loop-rest
decreases-loop-rest l = length l.rest
