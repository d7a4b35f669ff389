-- `put_tolerant_notes` stores the reports that are left after those that are stored already: a run of bytes is passed over, and then a step. Assumes nothing.
use Rattle.strings.proofs.Notings.{Noting}
use lib.ListN.{length}
use Prim.Native.Nat.{◌-◌}
use Rattle.strings.proofs.notes.put_tolerant_notes.Given as goal

abbrev pub invariant-loop-encoded : goal.invariant-loop-encoded
invariant-loop-encoded l = Noting l.text l.start l.initial.out l.at l.s l.out l.i l.p l.place

abbrev pub decreases-loop-encoded : goal.decreases-loop-encoded
decreases-loop-encoded l = length l.s - l.i
