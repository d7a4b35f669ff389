-- `split_last` cuts off the last line: no newline stands from `k` on. Assumes nothing.
use Rattle.std.proofs.Common.{◌≡◌, length, false}
use Rattle.std.specs.List.{AllWithin}
use Rattle.triple_strings.proofs.Stripping.{newline}
use Rattle.triple_strings.proofs.lines.split_last.Given as goal

abbrev pub invariant-loop-k : goal.invariant-loop-k
invariant-loop-k l = AllWithin (λ b. newline b ≡ false) l.t l.k (length l.t)
