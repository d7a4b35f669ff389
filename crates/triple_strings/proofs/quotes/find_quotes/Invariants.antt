-- `find_quotes` is `until_quotes`: no three quotes begin before `i`. Assumes nothing.
use Prim.Native.Nat.{◌-◌}
use lib.ListN.{length}
use Rattle.triple_strings.proofs.QuoteSearch.{Finding}
use Rattle.triple_strings.proofs.quotes.find_quotes.Given as goal

abbrev pub invariant-loop-i : goal.invariant-loop-i
invariant-loop-i l = Finding l.t l.i

abbrev pub decreases-loop-i : goal.decreases-loop-i
decreases-loop-i l = length l.t - l.i
