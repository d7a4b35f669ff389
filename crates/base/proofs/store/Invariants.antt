-- `store` leaves the stores of the whole list: what is left to store, stored from here on, makes the whole. Assumes nothing.
use Rattle.std.proofs.Common.{◌≡◌, length, drop, ◌+◌}
use lib.Seq.{sets}
use Rattle.base.proofs.store.Given as goal

abbrev pub invariant-loop-k : goal.invariant-loop-k
invariant-loop-k g l = (length l.buf ≡ length l.initial.buf) × (sets l.buf (l.at + l.k) (drop l.k l.xs) ≡ sets l.initial.buf l.at l.xs)
