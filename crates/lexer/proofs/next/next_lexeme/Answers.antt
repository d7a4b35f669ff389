-- `next_lexeme` skips the blanks; a mark is a token by its byte alone, any other is lexed from there. Assumes nothing.
use mathlib.Core.Path.{◌≡◌}
use Rattle.std.specs.Prelude.{Some}
use Prim.Native.Nat.{◌≤◌}
use lib.ListN.{length}
use Rattle.base.specs.Bytes.{byte}
use Rattle.base.proofs.Reaches.{rest_is}
use Rattle.lexer.specs.Helpers.{mark_of}
use Rattle.lexer.specs.Token.{found_at}
use Rattle.lexer.proofs.FoundToken.{start_le, from_quote}
use Rattle.lexer.proofs.Marks.{mark_is}
use Rattle.lexer.proofs.next.next_lexeme.Goals.{After-skip_spaces-start}
use Rattle.lexer.proofs.next.next_lexeme.Goals as goal

-- the token starts in the text
start_in : (c : After-skip_spaces-start) → c.skip_spaces-start.result ≤ length c.args.text.now
start_in c = rw c.skip_spaces-start.ensures (start_le _ _ c.requires.0)

pub returns-in-Some : goal.returns-in-Some
unfolding found_at
returns-in-Some c =
    let a = c.args in
    let is_mark : mark_of (byte a.text.now c.skip_spaces-start.result) ≡ Some c.in-Some.kind = rw (← c.peek.ensures, ← c.mark.ensures) c.in-Some.is in
    rw (← c.skip_spaces-start.ensures, mark_is a.text.now c.skip_spaces-start.result _ is_mark a.how.mode a.how.limit, ← c.mark_lexeme-lexeme.ensures)

pub slice_bounds-lex_in-count : goal.slice_bounds-lex_in-count
slice_bounds-lex_in-count c =
    let at = goal.at.slice_bounds-lex_in-count c in
    start_in at.After-skip_spaces-start

pub slice_bounds-lex_in-start : goal.slice_bounds-lex_in-start
slice_bounds-lex_in-start c =
    let at = goal.at.slice_bounds-lex_in-start c in
    start_in at.After-skip_spaces-start

pub lex_in-lexeme-requires : goal.lex_in-lexeme-requires
lex_in-lexeme-requires c =
    let at = goal.at.lex_in-lexeme-requires c in
    from_quote _ _ c.requires.1 (start_in at.After-skip_spaces-start)

pub returns : goal.returns
unfolding found_at
returns c = rw (← c.skip_spaces-start.ensures, rw rest_is at c.lex_in-lexeme.ensures)
