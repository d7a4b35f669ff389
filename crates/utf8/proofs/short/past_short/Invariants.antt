-- `past_short` meets its contract: a window of ASCII bytes, and one of characters of one or two bytes, ends between characters. Assumes nothing.
use Prim.Native.Nat.{◌-◌}
use lib.ListN.{length}
use Rattle.utf8.specs.Onward.{Onward}
use Rattle.utf8.proofs.short.past_short.Given as goal

abbrev pub invariant-loop-i : goal.invariant-loop-i
invariant-loop-i l = Onward l.text l.at l.i

abbrev pub decreases-loop-i : goal.decreases-loop-i
decreases-loop-i l = length l.text - l.i
