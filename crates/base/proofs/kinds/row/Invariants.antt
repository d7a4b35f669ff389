-- `row` is `mask_of`: a turn of the loop is a clause of it. Assumes nothing.
use mathlib.Core.Path.{◌≡◌}
use Rattle.base.specs.Masks.{mask_of}
use Rattle.base.proofs.kinds.row.Given as goal

abbrev pub invariant-loop-i : goal.invariant-loop-i
invariant-loop-i l = l.w ≡ mask_of l.n l.at l.i
