-- `push_all` meets its contract: the bytes pushed and the bytes left make the whole. Assumes nothing.
use mathlib.Core.Path.{sym, ◌∙◌}
use Rattle.utf8.proofs.States.{push_turn, push_end}
use Rattle.utf8.proofs.state.State.push_all.Goals as goal

pub loop-b-preserved : goal.loop-b-preserved
loop-b-preserved c = push_turn _ _ _ _ c.loop-b-test.true c.push-state.ensures ∙ c.loop-b.invariant

pub returns : goal.returns
returns c = sym (push_end _ _ _ c.loop-b-test.false) ∙ c.loop-b.invariant
