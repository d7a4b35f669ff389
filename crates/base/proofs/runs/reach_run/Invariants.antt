-- `reach_run` meets its contract: the run from here has the end that the run from `at` has. Assumes nothing.
use Rattle.std.proofs.Common.{◌≡◌, ◌≤◌, max, length}
use Rattle.base.specs.Runs.{reach}
use Rattle.base.proofs.runs.reach_run.Given as goal

abbrev pub invariant-loop-i : goal.invariant-loop-i
invariant-loop-i g l = (reach (g.R.Run.has l.run) l.s l.i ≡ reach (g.R.Run.has l.run) l.s l.at) × (l.i ≤ max (length l.s) l.at)
