-- `length_of` meets its contract: the count of leading one bits is the length, at each first byte. Assumes nothing.
use native.Mathlib.Omega.{arith}
use Rattle.utf8.proofs.Leads.{count_length, length_high}
use Rattle.utf8.proofs.state.length_of.Goals as goal

pub overflow_cast-result : goal.overflow_cast-result
overflow_cast-result c = omega (arith, count_length c.args.a c.requires.0 c.requires.1, length_high c.args.a)

pub returns : goal.returns
returns c = count_length _ c.requires.0 c.requires.1
