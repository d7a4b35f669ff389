-- `bytes_stop` meets its contract: the literal stops from here on where it stops from its first byte on. Assumes nothing.
use mathlib.Core.Path.{◌≡◌}
use lib.ListN.{drop}
use Rattle.scan.specs.Bytes.{bytes_stop}
use Rattle.scan.proofs.Stops.{stop_from}
use Rattle.scan.proofs.bytes.bytes_stop.Given as goal

abbrev pub invariant-loop-n : goal.invariant-loop-n
invariant-loop-n l = stop_from l.limit l.body l.n ≡ bytes_stop l.limit 0 (drop 2 l.s)
