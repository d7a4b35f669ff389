-- `put_bytes` stores the bytes of whole groups and then of one group more in each turn, until fewer than four values are left. Assumes nothing.
use Prim.Native.Nat.{◌-◌, ◌≤◌}
use lib.ListN.{length}
use Rattle.base.proofs.Storings.{Storing}
use Rattle.base64_lenient.specs.Helpers.{bytes_from}
use Rattle.base64_lenient.proofs.decode.put_bytes.Given as goal

abbrev pub invariant-loop-i : goal.invariant-loop-i
invariant-loop-i l = (l.i ≤ length l.run) × Storing (bytes_from l.run 0) l.initial.out 0 (bytes_from l.run l.i) l.out l.o

abbrev pub decreases-loop-i : goal.decreases-loop-i
decreases-loop-i l = length l.run - l.i
