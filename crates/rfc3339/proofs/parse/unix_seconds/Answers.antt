-- `unix_seconds` is its definition: the differences fit 64 bits. Assumes nothing.
use Rattle.std.proofs.Common.{arith}
use Rattle.std.proofs.lemmas.Int.{ints}
use Rattle.rfc3339.proofs.Days.{epoch_is}
use Rattle.rfc3339.proofs.parse.unix_seconds.Goals as goal

pub returns : goal.returns
returns c = grind (arith, ints, epoch_is)
