-- `row` is `mask_of`: a turn of the loop is a clause of it. Assumes nothing.
use mathlib.Core.Path.{◌≡◌, refl}
use Prim.Native.Nat.{suc, ◌+◌}
use native.Mathlib.Omega.{arith}
use Rattle.base.specs.Masks.{mask_of}
use Rattle.base.proofs.kinds.row.Goals as goal

pub loop-i-init : goal.loop-i-init
unfolding mask_of
loop-i-init c = refl

pub loop-i-preserved : goal.loop-i-preserved
unfolding mask_of
loop-i-preserved c = let l = c.loop-i in
    let q : l.i + 1 ≡ suc l.i = omega arith in
    rw (q, c.from.ensures, c.requires.0, l.invariant)

pub returns : goal.returns
returns c = let l = c.loop-i in
    let e : l.i ≡ 16 = omega (arith, l.auto.i-end, c.loop-i-test.false) in
    rw e at l.invariant
