-- `window_count` meets its contract: what the search has found before each byte. Assumes nothing.
use mathlib.Core.Path.{◌≡◌}
use native.Mathlib.Omega.{arith}
use borrow.Author.Rules.{rules}
use Rattle.base.specs.Choice.{pick}
use Rattle.base.specs.Blocks.{window_run}
use Rattle.base.proofs.Windows.{searched_first, searched_turn, searched_end}
use Rattle.base.proofs.runs.window_count.Given.{Over}
use Rattle.base.proofs.runs.window_count.Goals.{Joined-has, then-has, else-has}
use Rattle.base.proofs.runs.window_count.Goals as goal

-- the index of a byte that is not in the run, else 64
index : (g : Over) (c : Joined-has g) → pick c.has.result 64 c.loop-j.j ≡ c.if-has.k
index g c = elim c.if-has.branch [ then-has w ↦ rw (w.k-is, w.if-has.true) | else-has w ↦ rw (w.k-is, w.if-has.false) ]

pub loop-j-init : goal.loop-j-init
loop-j-init g c = searched_first _ _ 64

pub loop-j-preserved : goal.loop-j-preserved
loop-j-preserved g c =
    let l = c.loop-j in
    rw c.min-m.ensures (searched_turn (g.R.Run.has _) _ 64 l.j l.m c.if-has.k (search rules) c.loop-j-test.true l.invariant (rw (c.has.ensures, c.from-i.ensures) at (index g (goal.at.loop-j-preserved g c).Joined-has)))

pub returns : goal.returns
unfolding window_run
returns g c = let l = c.loop-j in rw c.from.ensures (searched_end (g.R.Run.has _) _ 64 l.j l.m c.loop-j-test.false (λ q. omega (arith, l.auto.j-end)) l.invariant)
