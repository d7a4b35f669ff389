-- `next_token` is the token that starts past the blanks. Assumes nothing.
use mathlib.Core.Path.{◌∙◌}
use Rattle.lexer.proofs.FoundToken.{past_place, past_next}
use Rattle.lexer.proofs.cursor.Cursor.next_token.Goals as goal

pub invariant_of-start : goal.invariant_of-start
invariant_of-start c = let s = c.args.self in record { walkable = past_place s.walkable c.past_blanks-place.ensures; well_formed = s.well_formed }

pub returns : goal.returns
returns c = let a = c.args in c.token_here.ensures ∙ past_next a.self.walkable c.past_blanks-place.ensures a.how.mode a.how.limit
