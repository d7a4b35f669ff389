-- `judge` is `judge_of`: what was seen to the end of each part and what is left of the run make the whole, and tell whether it decodes. Assumes nothing.
use Prim.Native.Nat.{◌-◌}
use lib.ListN.{length}
use Rattle.base64_lenient.specs.Helpers.{SeenTo}
use Rattle.base64_lenient.proofs.judge.judge.Given as goal

abbrev pub invariant-loop-i : goal.invariant-loop-i
invariant-loop-i l = SeenTo l.run l.seen l.i

abbrev pub decreases-loop-i : goal.decreases-loop-i
decreases-loop-i l = length l.run - l.i
