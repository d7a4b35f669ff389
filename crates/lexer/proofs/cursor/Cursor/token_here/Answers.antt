-- `token_here` puts places round the token that `lex_in` gives. Assumes nothing.
use mathlib.Core.Path.{◌∙◌}
use Rattle.utf8.proofs.Valid.{valid_octets}
use Rattle.lexer.proofs.FoundToken.{from_quote, lexed_here, here_ending, here_placing, here_token}
use Rattle.lexer.proofs.cursor.Cursor.token_here.Goals as goal

pub lex_in-x-requires : goal.lex_in-x-requires
lex_in-x-requires c = let s = c.args.self in from_quote _ _ (valid_octets _ s.well_formed) s.walkable.inside

pub end_place-end-requires : goal.end_place-end-requires
end_place-end-requires c =
    let w = c.args.self.walkable in
    here_ending _ _ w (lexed_here c.args.how.mode c.args.how.limit w c.lex_in-x.ensures)

pub placed-requires : goal.placed-requires
placed-requires c =
    let w = c.args.self.walkable in
    here_placing _ _ w (lexed_here c.args.how.mode c.args.how.limit w c.lex_in-x.ensures)

pub returns : goal.returns
returns c =
    let w = c.args.self.walkable in
    c.placed.ensures ∙ here_token _ _ w (lexed_here c.args.how.mode c.args.how.limit w c.lex_in-x.ensures) c.end_place-end.ensures
