-- `all` meets its contract: the bytes passed and the bytes left make the whole. Assumes nothing.
use native.Mathlib.Omega.{arith}
use Rattle.base.proofs.Blocks.{pairs_turn, pairs_end}
use Rattle.base.proofs.runs.all.Goals as goal

pub loop-i-preserved : goal.loop-i-preserved
loop-i-preserved g c = let l = c.loop-i in
    rw c.has-all.ensures (pairs_turn (g.R.Run.has _) _ l.all l.i l.invariant (omega (arith, l.auto.i)) c.loop-i-test.true)

pub returns : goal.returns
returns g c = pairs_end (g.R.Run.has _) _ c.loop-i.all c.loop-i.i c.loop-i.invariant c.loop-i-test.false
