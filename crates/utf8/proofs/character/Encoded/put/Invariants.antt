-- `put` leaves the stores of all the bytes: what is left to store, stored from here on, makes the whole. Assumes nothing.
use Rattle.std.proofs.Common.{◌≡◌, length, drop, ◌+◌}
use lib.Seq.{sets}
use Rattle.utf8.specs.Character.{octets_of}
use Rattle.utf8.proofs.character.Encoded.put.Given as goal

abbrev pub invariant-loop-k : goal.invariant-loop-k
invariant-loop-k l =
    (length l.out ≡ length l.initial.out) × (sets l.out (l.p + l.k) (drop l.k (octets_of l.self)) ≡ sets l.initial.out l.p (octets_of l.self))
