-- `reach_long` meets its contract: the run from the end of its blocks has the end that the run from `at` has. Assumes nothing.
use mathlib.Core.Path.{sym}
use native.Mathlib.Omega.{arith}
use Rattle.base.proofs.Reaches.{reach_end}
use Rattle.base.proofs.runs.reach_long.Goals as goal

pub returns-then-s-at : goal.returns-then-s-at
returns-then-s-at g c = sym (reach_end (g.R.Run.has _) _ _ (omega (arith, c.if-s-at.true)))
