-- `lines_size` counts the lines token by token. Assumes nothing.
use Prim.Native.Nat.{◌-◌}
use lib.ListN.{length}
use Rattle.listing_lines.proofs.Measures.{Measuring}
use Rattle.listing_lines.proofs.lines_size.Given as goal

abbrev pub invariant-tokens : goal.invariant-tokens
invariant-tokens l = Measuring l.text l.place l.size

abbrev pub decreases-tokens : goal.decreases-tokens
decreases-tokens l = length l.text - l.place.offset
