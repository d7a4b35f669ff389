-- `past_window` meets its contract: the bytes of the window that are counted stay in the run. Assumes nothing.
use mathlib.Core.Path.{◌∙◌}
use Prim.Native.Nat.{◌+◌}
use native.Mathlib.Omega.{arith}
use lib.ListN.{length-drop}
use Rattle.base.specs.Blocks.{Ahead}
use Rattle.base.proofs.Blocks.{ahead_first}
use Rattle.base.proofs.Reaches.{rest_is}
use Rattle.base.proofs.Windows.{ahead_window}
use Rattle.base.proofs.runs.past_window.Given.{Over}
use Rattle.base.proofs.runs.past_window.Goals.{After-window_count}
use Rattle.base.proofs.runs.past_window.Goals as goal

-- what the count in the window says of the run
counted : (g : Over) (c : After-window_count g) → let a = c.args in Ahead (g.R.Run.has a.run) a.s.now a.at (a.at + c.window_count.result)
counted g c =
    let p = g.R.Run.has _ in
    let s = c.args.s.now in
    let w = rw rest_is at c.in-Some.ensures.cases in
    ahead_window p s c.args.at (omega (arith, w.enough, length-drop c.args.at s)) _ _ (ahead_first p _ _ c.requires) (c.window_count.ensures ∙ rw w.same)

pub overflow_add-result : goal.overflow_add-result
overflow_add-result g c = omega (arith, (counted g (goal.at.overflow_add-result g c).After-window_count).inside)

pub returns-in-Some : goal.returns-in-Some
returns-in-Some g c = counted g (goal.at.returns-in-Some g c).After-window_count
