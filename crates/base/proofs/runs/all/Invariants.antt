-- `all` meets its contract: the bytes passed and the bytes left make the whole. Assumes nothing.
use Rattle.std.proofs.Common.{◌≡◌, ◌-◌, ◌&&◌, drop}
use Rattle.base.specs.Blocks.{all_pairs}
use Rattle.base.proofs.runs.all.Given as goal

abbrev pub invariant-loop-i : goal.invariant-loop-i
invariant-loop-i g l = (l.all && all_pairs (g.R.Run.has l.run) (drop (l.i - 1) l.s)) ≡ all_pairs (g.R.Run.has l.run) l.s
