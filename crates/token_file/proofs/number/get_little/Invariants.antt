-- `get_little` gives the number of the bytes, read from the highest down. Assumes nothing.
use Prim.Native.Nat.{◌+◌}
use Rattle.token_file.proofs.Numbers.{Getting}
use Rattle.token_file.proofs.number.get_little.Given as goal

abbrev pub invariant-loop-i : goal.invariant-loop-i
invariant-loop-i l = Getting l.file l.at (l.at + l.width) l.i l.n
