-- `copy` leaves the stores of all bytes: after each block a longer front of them is stored, and the last part stores the rest, some of it again. Assumes
-- nothing.
use Rattle.std.proofs.Common.{◌≡◌, ◌*◌, take}
use lib.Seq.{sets}
use Rattle.base.proofs.copy.Given as goal

-- the first n blocks are stored
abbrev pub invariant-loop-n : goal.invariant-loop-n
invariant-loop-n l = l.buf ≡ sets l.initial.buf l.at (take (l.n * 16) l.xs)
