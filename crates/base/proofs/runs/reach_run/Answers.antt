-- `reach_run` meets its contract: the run from here has the end that the run from `at` has. Assumes nothing.
use mathlib.Core.Path.{◌≡◌, ◌∙◌}
use native.Mathlib.Omega.{arith}
use Rattle.base.proofs.Reaches.{loop_step, loop_stop, loop_end, rest_is}
use Rattle.base.proofs.runs.reach_run.Goals as goal

pub returns-then-not-has : goal.returns-then-not-has
returns-then-not-has g c = loop_stop (g.R.Run.has _) _ _ _ c.loop-i.invariant.0 c.loop-i-test.true (cc)

pub loop-i-preserved : goal.loop-i-preserved
loop-i-preserved g c = (loop_step (g.R.Run.has _) _ _ _ c.loop-i.invariant.0 c.loop-i-test.true (cc), omega (arith, c.loop-i-test.true))

pub returns : goal.returns
returns g c =
    let l = c.loop-i in
    let e : c.max.result ≡ l.i = omega (arith, c.max.ensures, c.loop-i-test.false) in
    e ∙ loop_end (g.R.Run.has _) _ _ _ l.invariant.0 c.loop-i-test.false

pub returns-then-next-eq0 : goal.returns-then-next-eq0
returns-then-next-eq0 g c =
    (rw rest_is at c.reach_on.ensures) ∙ loop_step (g.R.Run.has _) _ _ _ c.loop-i.invariant.0 c.loop-i-test.true (cc)
