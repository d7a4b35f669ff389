-- `past_windows` meets its contract: a window whose bytes all belong to the run stays in it. Assumes nothing.
use Rattle.base.proofs.Blocks.{ahead_then}
use Rattle.base.proofs.runs.past_windows.Goals as goal

pub loop-i-preserved : goal.loop-i-preserved
loop-i-preserved g c = ahead_then (g.R.Run.has _) _ _ _ _ c.loop-i.invariant c.past_window-end.ensures
