-- `push_all` meets its contract: the bytes pushed and the bytes left make the whole. Assumes nothing.
use mathlib.Core.Path.{◌≡◌}
use lib.ListN.{drop}
use Rattle.utf8.specs.State.{push_all}
use Rattle.utf8.proofs.state.State.push_all.Given as goal

abbrev pub invariant-loop-b : goal.invariant-loop-b
invariant-loop-b l = push_all l.state (drop l.b-index l.bytes) ≡ push_all l.initial.state l.bytes
