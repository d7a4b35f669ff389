-- `put` stores `stripped`: what is left, stored from `end` on, makes the whole. Assumes nothing.
use Rattle.std.proofs.Common.{length}
use Rattle.base.proofs.Storings.{Storing}
use Rattle.triple_strings.specs.Helpers.{stripped}
use Rattle.triple_strings.proofs.Stripping.{left}
use Rattle.triple_strings.proofs.dedent.Dedent.put.Given as goal

abbrev pub invariant-loop-rest : goal.invariant-loop-rest
invariant-loop-rest l = Storing (stripped l.self.indent.now l.self.body.now) l.initial.out 0 (left l.self.indent.now l.rest) l.out l.end

abbrev pub decreases-loop-rest : goal.decreases-loop-rest
decreases-loop-rest l = length l.rest
