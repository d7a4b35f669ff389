-- `make_room` moves the numbers: those from i on stand an entry further on already. Assumes nothing.
use mathlib.Core.Path.{◌≡◌}
use Prim.Native.Nat.{◌≤◌}
use lib.ListN.{length}
use Rattle.suggestion_list.specs.Rows.{entry_width}
use Rattle.suggestion_list.proofs.Rooms.{moving}
use Rattle.suggestion_list.proofs.make_room.Given as goal

abbrev pub invariant-loop-i : goal.invariant-loop-i
invariant-loop-i l = (l.at ≤ l.i) × (l.i ≤ l.end) × (length l.list ≡ length l.initial.list) × (l.list ≡ moving entry_width l.initial.list l.end l.i)
