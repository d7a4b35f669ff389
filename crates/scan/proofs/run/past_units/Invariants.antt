-- `past_units` meets its contract: the run from here has the end that the run from `at` has. Assumes nothing.
use mathlib.Core.Path.{◌≡◌}
use Prim.Native.Nat.{◌-◌}
use lib.ListN.{length}
use Rattle.base.specs.Runs.{past}
use Rattle.scan.specs.Run.{unit_piece}
use Rattle.scan.proofs.run.past_units.Given as goal

abbrev pub invariant-loop-i : goal.invariant-loop-i
invariant-loop-i l = past unit_piece l.s l.i ≡ past unit_piece l.s l.at

abbrev pub decreases-loop-i : goal.decreases-loop-i
decreases-loop-i l = length l.s - l.i
