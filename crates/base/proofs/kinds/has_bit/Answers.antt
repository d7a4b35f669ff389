-- `has_bit` is `has_bit`: the number of a bit is below 64. Assumes nothing.
use native.Mathlib.Omega.{arith}
use lib.Bits.{and_le_r}
use Rattle.base.proofs.kinds.has_bit.Goals as goal

pub overflow_cast-result : goal.overflow_cast-result
overflow_cast-result c = let h = and_le_r c.args.b 63 in record { fits = omega (arith, h) }

pub overflow_shr-result : goal.overflow_shr-result
overflow_shr-result c = let h = and_le_r c.args.b 63 in omega (arith, h)
