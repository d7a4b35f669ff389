-- `leading_int` is `leading_int`: the digits from `used` on, after `value`, write the whole number. A number that is above 2^63 stays above it.
-- Assumes nothing.
use Rattle.std.proofs.Common.{sym}
use Rattle.go_duration.proofs.FrontDigits.{reading_first, reading_more}
use Rattle.go_duration.proofs.part.leading_int.Goals as goal

pub loop-used-init : goal.loop-used-init
loop-used-init c = search reading_first

pub loop-used-preserved : goal.loop-used-preserved
loop-used-preserved c =
    reading_more _ _ _ c.loop-used.invariant c.loop-used-test.true (sym c.if-not-is_digit.ensures) _ c.in_ok-value.ensures
