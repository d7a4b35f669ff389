-- `placed` counts a lexeme's numbers from the text's start. Assumes nothing.
use mir.Syntax.{w64}
use mir.Val.{SFits}
use mir.ValLaws.{to_z-of_z}
use borrow.Author.Rules.{rules}
use Rattle.lexer.proofs.next.placed.Goals as goal

pub returns : goal.returns
returns c = let x = c.args.x in
    let f : SFits w64 x.nanos = (search rules) in
    rw (to_z-of_z w64 x.nanos f, c.precision_at-precision.ensures)
