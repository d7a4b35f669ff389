-- `put_simple` stores what the pairs that are left stand for after what is stored already. Assumes nothing.
use native.Mathlib.Omega.{arith}
use Rattle.base.proofs.Storings.{storing_first}
use Rattle.strings.proofs.Pairs.{pairs_are, putting_stop, counting_stop, putting_room, putting_more, putting_end, counting_end}
use Rattle.strings.proofs.literal.put_simple.Goals as goal

pub loop-k-init : goal.loop-k-init
loop-k-init c = storing_first (rw (c.as_chunks.ensures.front, ← pairs_are c.args.t.now) (omega arith))

pub loop-k-preserved : goal.loop-k-preserved
loop-k-preserved c = search putting_more

pub bounds-out-k : goal.bounds-out-k
bounds-out-k c = search putting_room

pub returns-in_default-clause-count : goal.returns-in_default-clause-count
returns-in_default-clause-count c = rw (pairs_are c.args.t.now, ← c.as_chunks.ensures.front) (search counting_stop)

pub returns-in_default-clause-stored : goal.returns-in_default-clause-stored
returns-in_default-clause-stored c = rw (pairs_are c.args.t.now, ← c.as_chunks.ensures.front) (search putting_stop)

pub returns-clause-count : goal.returns-clause-count
returns-clause-count c = rw (pairs_are c.args.t.now, ← c.as_chunks.ensures.front) (search counting_end)

pub returns-clause-stored : goal.returns-clause-stored
returns-clause-stored c = rw (pairs_are c.args.t.now, ← c.as_chunks.ensures.front) (search putting_end)
