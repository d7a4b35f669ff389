-- `code_escape` is `code_piece`: the digits read so far with those that are left make the whole number. Assumes nothing.
use Rattle.strings.proofs.Escapes.{Run}
use Rattle.strings.proofs.piece.code_escape.Given as goal

abbrev pub invariant-loop-k : goal.invariant-loop-k
invariant-loop-k l = Run l.n l.l l.r l.k
