-- `make_room` moves the numbers: those from i on stand an entry further on already. Assumes nothing.
use mathlib.Core.Path.{◌≡◌, ap, ◌∙◌}
use Prim.Native.Nat.{suc, ◌-◌}
use native.Mathlib.Omega.{arith}
use lib.IntN.{pos}
use lib.ListN.{get_or, length-set}
use mir.Syntax.{w64}
use mir.Val.{SFits}
use mir.ValLaws.{to_z-of_z}
use borrow.Author.Rules.{rules}
use Rattle.suggestion_list.specs.Rows.{entry_width}
use Rattle.suggestion_list.proofs.Rooms.{moving, moving_turn, moving_end}
use Rattle.suggestion_list.proofs.make_room.Goals as goal

pub loop-i-preserved : goal.loop-i-preserved
loop-i-preserved c = let a = c.args in
    let k = c.loop-i.i - 1 in
    let f : SFits w64 (get_or c.loop-i.list k (pos 0)) = search rules in
    let e : c.loop-i.i ≡ suc k = omega arith in
    let t = moving_turn entry_width a.list.now a.end c.requires.1 (pos 0) k (omega arith) in (
      omega arith,
      omega arith,
      simp length-set c.loop-i.invariant.2,
      rw (to_z-of_z w64 _ f, c.loop-i.invariant.3 ∙ ap (moving entry_width a.list.now a.end) e) t,
    )

pub returns : goal.returns
returns c = let e : c.loop-i.i ≡ c.args.at = omega arith in
    c.loop-i.invariant.3 ∙ rw e (moving_end entry_width _ c.args.end c.requires.1 c.args.at c.requires.0)
