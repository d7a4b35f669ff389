-- `feed` meets its contract: the bytes pushed and the bytes left make the whole. Assumes nothing.
use mathlib.Core.Path.{◌≡◌}
use lib.ListN.{drop}
use Rattle.utf8.specs.State.{push_all}
use Rattle.utf8.specs.Character.{octets_of}
use Rattle.strings.proofs.literal.feed.Given as goal

abbrev pub invariant-loop-k : goal.invariant-loop-k
invariant-loop-k l = push_all l.state (drop l.k (octets_of l.encoded)) ≡ push_all l.initial.state (octets_of l.encoded)
