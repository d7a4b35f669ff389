-- `get_little` gives the number of the bytes, read from the highest down. Assumes nothing.
use Prim.Native.Nat.{◌-◌}
use native.Mathlib.Omega.{arith}
use Rattle.token_file.proofs.Numbers.{get_start, get_fits, get_turn}
use Rattle.token_file.proofs.number.get_little.Goals as goal

pub loop-i-init : goal.loop-i-init
loop-i-init c = get_start _ _ _ (omega arith)

pub overflow_mul-n : goal.overflow_mul-n
overflow_mul-n c = omega (arith, get_fits c.loop-i.invariant c.loop-i-test.true (omega arith))

pub overflow_add-n : goal.overflow_add-n
overflow_add-n c =
    omega (arith, get_fits c.loop-i.invariant c.loop-i-test.true (omega arith), c.type_inv.file (c.loop-i.i - 1), c.from.ensures)

pub loop-i-preserved : goal.loop-i-preserved
loop-i-preserved c =
    get_turn c.loop-i.invariant c.loop-i-test.true (omega arith) (omega arith) _ c.from.ensures
    (omega (arith, c.type_inv.file (c.loop-i.i - 1), c.from.ensures))
