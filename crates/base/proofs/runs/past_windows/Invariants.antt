-- `past_windows` meets its contract: a window whose bytes all belong to the run stays in it. Assumes nothing.
use Rattle.std.proofs.Common.{◌-◌, length}
use Rattle.base.specs.Blocks.{Ahead}
use Rattle.base.proofs.runs.past_windows.Given as goal

abbrev pub invariant-loop-i : goal.invariant-loop-i
invariant-loop-i g l = Ahead (g.R.Run.has l.run) l.s l.at l.i

abbrev pub decreases-loop-i : goal.decreases-loop-i
decreases-loop-i g l = length l.s - l.i
