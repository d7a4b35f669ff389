-- `whole_groups` stores the bytes of a group in each turn, and what is left, stored from there on, makes the whole. Assumes nothing.
use Prim.Native.Nat.{◌+◌, ◌*◌}
use Rattle.base.proofs.Storings.{Storing}
use Rattle.base64_lenient.specs.Helpers.{bytes_from}
use Rattle.base64_lenient.proofs.decode.whole_groups.Given as goal

abbrev pub invariant-loop-n : goal.invariant-loop-n
invariant-loop-n l = Storing (bytes_from l.run l.at) l.initial.out l.to (bytes_from l.run (l.at + l.n * 4)) l.out (l.to + l.n * 3)
