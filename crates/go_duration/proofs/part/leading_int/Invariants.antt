-- `leading_int` is `leading_int`: the digits from `used` on, after `value`, write the whole number. A number that is above 2^63 stays above it.
-- Assumes nothing.
use Rattle.go_duration.proofs.FrontDigits.{Reading}
use Rattle.go_duration.proofs.part.leading_int.Given as goal

abbrev pub invariant-loop-used : goal.invariant-loop-used
invariant-loop-used l = Reading l.s l.value l.used
