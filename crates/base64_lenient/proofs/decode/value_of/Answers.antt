-- `value_of` meets its contract: the table has the value of each byte. Assumes nothing.
use Rattle.base64_lenient.proofs.Values.{value_at}
use Rattle.base64_lenient.proofs.decode.value_of.Goals as goal

pub returns : goal.returns
returns c = rw c.from.ensures (value_at c.args.b c.ranges.b.fits)
