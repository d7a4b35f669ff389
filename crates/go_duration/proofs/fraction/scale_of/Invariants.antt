-- `scale_of` is `scale_of`: an infinity stays one. Assumes nothing.
use Rattle.std.proofs.Common.{◌≡◌}
use Rattle.go_duration.specs.Fraction.{scale_of}
use Rattle.go_duration.proofs.fraction.scale_of.Given as goal

abbrev pub invariant-loop : goal.invariant-loop
invariant-loop l = l.scale ≡ scale_of l.counter
