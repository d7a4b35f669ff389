-- `window_count` meets its contract: what the search has found before each byte. Assumes nothing.
use Rattle.base.proofs.Windows.{Searched}
use Rattle.base.proofs.runs.window_count.Given as goal

abbrev pub invariant-loop-j : goal.invariant-loop-j
invariant-loop-j g l = Searched (g.R.Run.has l.run) l.s 64 l.j l.m
