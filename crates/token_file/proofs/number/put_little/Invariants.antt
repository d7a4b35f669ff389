-- `put_little` leaves the stores of the number's bytes: what is left to store, stored from here on, makes the whole. Assumes nothing.
use mathlib.Core.Path.{◌≡◌}
use Prim.Native.Nat.{◌+◌}
use lib.Seq.{sets}
use Rattle.token_file.specs.Format.{little}
use Rattle.token_file.proofs.Numbers.{putting}
use Rattle.token_file.proofs.number.put_little.Given as goal

abbrev pub invariant-loop-k : goal.invariant-loop-k
invariant-loop-k l = putting l.out (l.at + l.width) (l.at + l.k) l.rest ≡ sets l.initial.out l.at (little l.width l.n)
