-- `put_bytes` stores the bytes of whole groups and then of one group more in each turn, until fewer than four values are left. Assumes nothing.
use mathlib.Core.Path.{ap}
use Prim.Native.Nat.{◌+◌, ◌*◌}
use Rattle.base.proofs.Storings.{Storing, storing_end}
use Rattle.base64_lenient.specs.Lenient.{regroup}
use Rattle.base64_lenient.specs.Helpers.{bytes_from}
use Rattle.base64_lenient.proofs.Groups.{none_at_end, taken_few, taken_small, whole_stored, group_room, group_stored}
use Rattle.base64_lenient.proofs.decode.put_bytes.Goals.{After-whole_groups-n}
use Rattle.base64_lenient.proofs.decode.put_bytes.Goals as goal

-- after them
whole : (c : After-whole_groups-n) → let a = c.args in let n = c.whole_groups-n.result in Storing (bytes_from a.run.now 0) a.out.now 0
    (bytes_from a.run.now (c.loop-i.i + n * 4)) c.whole_groups-n.new.out (c.loop-i.o + n * 3)
whole c = whole_stored _ _ c.loop-i.invariant.1 c.whole_groups-n.ensures

pub put_group-requires : goal.put_group-requires
put_group-requires c =
    let at = goal.at.put_group-requires c in
    let e = c.next_group-count.ensures in
    (taken_few e.gathered, group_room _ _ (whole at.After-whole_groups-n) e, taken_small e.gathered)

pub loop-i-preserved : goal.loop-i-preserved
loop-i-preserved c =
    let at = goal.at.loop-i-preserved c in
    let e = c.next_group-count.ensures in
    (e.gathered.inside, group_stored _ _ (whole at.After-whole_groups-n) e c.if-count-lt4.false _ c.put_group.ensures)

pub returns : goal.returns
unfolding regroup
returns c = storing_end c.loop-i.invariant.1 (ap regroup (none_at_end _ _ c.loop-i-test.false))
