-- `each_token` is the token that starts past the blanks: a mark by its byte alone, any other by the lexers. Assumes nothing.
use mathlib.Core.Path.{◌≡◌, ◌∙◌}
use Rattle.std.specs.Prelude.{Some}
use Rattle.base.specs.Bytes.{byte}
use Rattle.lexer.specs.Helpers.{mark_of}
use Rattle.lexer.proofs.FoundToken.{past_place, past_next}
use Rattle.lexer.proofs.Marks.{mark_steppable, mark_placing, mark_token}
use Rattle.lexer.proofs.cursor.Cursor.each_token.Goals.{In-Some}
use Rattle.lexer.proofs.cursor.Cursor.each_token.Goals as goal

-- the branch for marks
is_mark : (c : In-Some) → mark_of (byte c.args.self.text.now c.past_blanks-place.result.offset) ≡ Some c.in-Some.kind
is_mark c = rw (← c.peek-b.ensures, ← c.mark.ensures) c.in-Some.is

pub step-requires : goal.step-requires
step-requires c =
    let at = goal.at.step-requires c in
    mark_steppable (past_place c.args.self.walkable c.past_blanks-place.ensures) _ (is_mark at.In-Some)

pub placed-requires : goal.placed-requires
placed-requires c =
    let at = goal.at.placed-requires c in
    let a = c.args in
    rw c.mark_lexeme.ensures
    (mark_placing (past_place a.self.walkable c.past_blanks-place.ensures) _ (is_mark at.In-Some) a.how.mode a.how.limit)

pub returns-in-Some : goal.returns-in-Some
returns-in-Some c =
    let at = goal.at.returns-in-Some c in
    let a = c.args in
    let p = c.past_blanks-place.ensures in
    c.placed.ensures
    ∙ rw (c.step.ensures, c.mark_lexeme.ensures, c.peek-b.ensures)
    (mark_token (past_place a.self.walkable p) _ (is_mark at.In-Some) a.how.mode a.how.limit)
    ∙ past_next a.self.walkable p a.how.mode a.how.limit

pub invariant_of-start : goal.invariant_of-start
invariant_of-start c = let s = c.args.self in record { walkable = past_place s.walkable c.past_blanks-place.ensures; well_formed = s.well_formed }

pub returns : goal.returns
returns c = let a = c.args in c.token_here.ensures ∙ past_next a.self.walkable c.past_blanks-place.ensures a.how.mode a.how.limit
