-- `is_minus` is `is_minus`, by the run of blanks. Assumes nothing.
use Rattle.lexer.specs.Token.{start_at}
use Rattle.suggest.specs.Helpers.{is_minus}
use Rattle.suggest.proofs.pieces.is_minus.Goals as goal

pub returns : goal.returns
unfolding is_minus start_at
returns c = rw (← c.reach_run.ensures, ← c.peek.ensures)
