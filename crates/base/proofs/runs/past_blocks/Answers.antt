-- `past_blocks` meets its contract: a block whose bytes all belong to the run stays in it. Assumes nothing.
use Rattle.base.proofs.Blocks.{ahead_pairs}
use Rattle.base.proofs.runs.past_blocks.Goals as goal

pub loop-i-preserved : goal.loop-i-preserved
loop-i-preserved g c = ahead_pairs (g.R.Run.has _) _ _ _ _ c.loop-i.invariant c.loop-i-test.true _ c.all.ensures c.if-not-all.false
