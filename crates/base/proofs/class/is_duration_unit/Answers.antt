-- `is_duration_unit` is `is_duration_unit`: of the first bytes of units, the ASCII ones. Assumes nothing.
use borrow.Author.Rules.{rules}
use Rattle.base.proofs.ByteKinds.{unit_ascii}
use Rattle.base.proofs.class.is_duration_unit.Goals as goal

pub returns : goal.returns
returns c = rw c.begins_unit.ensures (unit_ascii _ (search rules))
