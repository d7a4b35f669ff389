-- `past_blanks` moves along the line: blanks have no newline, and no column is past the text. Assumes nothing.
use native.Mathlib.Omega.{arith}
use Rattle.token.proofs.Places.{walk_bounded}
use Rattle.lexer.proofs.FoundToken.{over_blanks}
use Rattle.lexer.proofs.cursor.Cursor.past_blanks.Goals as goal

pub overflow_add-column : goal.overflow_add-column
overflow_add-column c =
    let w = over_blanks c.args.self.walkable in
    let b = walk_bounded _ _ _ w in
    record { fits = omega (arith, c.skip_spaces-offset.ensures, b.column, w.forward, w.inside, w.short) }
