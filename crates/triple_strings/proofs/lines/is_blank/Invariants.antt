-- `is_blank` is `blank`: from each White_Space to the next, what is left is as blank as the whole. Assumes nothing.
use Prim.Native.Nat.{◌-◌}
use lib.ListN.{length}
use Rattle.triple_strings.proofs.LineScans.{Blanking}
use Rattle.triple_strings.proofs.lines.is_blank.Given as goal

abbrev pub invariant-loop-i : goal.invariant-loop-i
invariant-loop-i l = Blanking l.t l.i

abbrev pub decreases-loop-i : goal.decreases-loop-i
decreases-loop-i l = length l.t - l.i
