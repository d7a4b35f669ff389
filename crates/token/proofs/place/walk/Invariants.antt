-- `walk` gives the place of `to`: at each turn the place is that of an offset of the text up to `to`, a line further. Assumes nothing.
use Prim.Native.Nat.{◌-◌}
use Rattle.token.specs.Helpers.{Walkable}
use Rattle.token.proofs.place.walk.Given as goal

abbrev pub invariant-loop-s : goal.invariant-loop-s
invariant-loop-s l = Walkable l.s l.place l.to

abbrev pub decreases-loop-s : goal.decreases-loop-s
decreases-loop-s l = l.to - l.place.offset
