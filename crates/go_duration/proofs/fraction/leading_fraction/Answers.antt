-- `leading_fraction` reads the digits at the front: those that are kept, one after the other, and the end of the rest. Assumes nothing.
use Rattle.std.proofs.Common.{◌≡◌}
use Rattle.go_duration.specs.Fraction.{no_digits, read_digits}
use Rattle.go_duration.specs.Digits.{acc_of}
use Rattle.go_duration.proofs.DigitsRead.{kept_read}
use Rattle.go_duration.proofs.DigitSteps.{kept_digit, kept_more, kept_over, kept_all}
use Rattle.go_duration.proofs.fraction.leading_fraction.Goals.{In_default, After-loop-kept}
use Rattle.go_duration.proofs.fraction.leading_fraction.Goals as goal

-- the digits, where one is not kept, and where all are
over : (c : In_default) → let l = c.loop-kept in acc_of l.f l.kept c.digits_end-count.result ≡ read_digits c.args.s.now no_digits
over c = kept_over _ _ _ _ c.loop-kept.invariant c.loop-kept-test.true c.in_default.ensures

all : (c : After-loop-kept) → let n = c.digits_end-count.result in acc_of c.loop-kept.f n n ≡ read_digits c.args.s.now no_digits
all c = search kept_all

pub with_digit-requires : goal.with_digit-requires
with_digit-requires c = search kept_digit

pub invariant_of-result : goal.invariant_of-result
invariant_of-result c = let r = kept_read _ _ _ _ _ (over c) in record { fits = r.0; digits = r.1 }

pub loop-kept-preserved : goal.loop-kept-preserved
loop-kept-preserved c = kept_more _ _ _ _ c.loop-kept.invariant c.loop-kept-test.true _ c.in-Some.ensures

pub invariant_of-result-2 : goal.invariant_of-result-2
invariant_of-result-2 c = let r = kept_read _ _ _ _ _ (all c) in record { fits = r.0; digits = r.1 }
