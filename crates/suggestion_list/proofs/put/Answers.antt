-- `put` puts the entry into its place: the numbers behind it are moved, and its own stored in the room. Assumes nothing.
use mathlib.Core.Path.{◌≡◌}
use Prim.Native.Nat.{◌*◌, ◌/◌}
use native.Mathlib.Omega.{arith}
use lib.ListN.{length, take}
use lib.Seq.{length-take-le}
use mir.Syntax.{w64}
use mir.Val.{to_z, of_z}
use mir.ValLaws.{to_z-of_z}
use borrow.Author.Rules.{rules}
use Rattle.suggestion_list.specs.Rows.{entry_width}
use Rattle.suggestion_list.proofs.Rows.{placed}
use Rattle.suggestion_list.proofs.put.Goals as goal

pub returns : goal.returns
returns c = let x = c.args.x in
    let n : to_z w64 (of_z w64 x.nanos) ≡ x.nanos = to_z-of_z w64 _ (search rules) in
    let s = length-take-le (c.args.count * entry_width) c.args.list.now (omega arith) in
    let k : length (take (c.args.count * entry_width) c.args.list.now) / entry_width ≡ c.args.count = omega (arith, s) in
    placed x c.args.count c.place_for-at.result (rw (n, k) at c.place_for-at.ensures) c.make_room.ensures (rw c.from.ensures at c.store.ensures)
