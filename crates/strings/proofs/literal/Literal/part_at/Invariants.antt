-- `part_at` meets its contract: text, and then escapes of one letter, make the part longer. Assumes nothing.
use Rattle.strings.proofs.Parts.{Parting}
use lib.ListN.{length}
use Prim.Native.Nat.{◌-◌}
use Rattle.strings.proofs.literal.Literal.part_at.Given as goal

abbrev pub invariant-loop-s : goal.invariant-loop-s
invariant-loop-s l = Parting l.s l.i l.end l.count

abbrev pub decreases-loop-s : goal.decreases-loop-s
decreases-loop-s l = length l.s - l.end
