-- `leading_fraction` reads the digits at the front: those that are kept, one after the other, and the end of the rest. Assumes nothing.
use Rattle.go_duration.proofs.DigitSteps.{KeptTo}
use Rattle.go_duration.proofs.fraction.leading_fraction.Given as goal

abbrev pub invariant-loop-kept : goal.invariant-loop-kept
invariant-loop-kept l = KeptTo l.s l.count l.kept l.f
