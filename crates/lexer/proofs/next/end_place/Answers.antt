-- `end_place` gives the place of the end: on one line only the column grows, and no column is past the text. Assumes nothing.
use native.Mathlib.Omega.{arith}
use Rattle.token.proofs.Places.{walk_bounded}
use Rattle.lexer.proofs.next.end_place.Goals as goal

pub overflow_add-column : goal.overflow_add-column
overflow_add-column c =
    let w = c.requires.walkable in
    let b = walk_bounded _ _ _ w in
    record { fits = omega (arith, b.column, w.inside, w.short) }
