-- `lines_size` counts the lines token by token. Assumes nothing.
use mathlib.Core.Path.{◌≡◌, sym, ◌∙◌}
use native.Mathlib.Omega.{arith}
use lib.ListN.{length}
use borrow.Author.Tests.{eqb-true, eqb-false}
use Rattle.utf8.proofs.Valid.{octets_valid}
use Rattle.limits.specs.Limits.{max_bytes_literal_length}
use Rattle.lexer.specs.declared.reading.Reading.TheVariants.{Strict}
use Rattle.lexer.specs.Token.{next_token}
use Rattle.reading.specs.Buffers.{record_of}
use Rattle.listing_lines.specs.Lines.{line_text, line_numbers}
use Rattle.listing_lines.proofs.Measures.{measuring_start, token_fits, line_few, measuring_end, measuring_less, measuring_turn}
use Rattle.listing_lines.proofs.lines_size.Goals.{After-line_size-size, After-next_token-t}
use Rattle.listing_lines.proofs.lines_size.Goals as goal

-- the token, with the default limit
token_is : (c : After-next_token-t) → c.next_token-t.result ≡ next_token Strict max_bytes_literal_length c.args.text.now c.tokens.place.offset
token_is c = rw (c.strictly-how.ensures.mode, c.strictly-how.ensures.limit) at c.next_token-t.ensures

-- the size of its line
size_is : (c : After-line_size-size) → c.line_size-size.result ≡ length (line_text (line_numbers (record_of 0 c.next_token-t.result)))
size_is c = rw c.token_numbers.ensures at c.line_size-size.ensures

pub tokens-init : goal.tokens-init
tokens-init c = search measuring_start

pub invariant_of-here : goal.invariant_of-here
invariant_of-here c = record { walkable = c.tokens.invariant.walkable; well_formed = octets_valid c.requires.1 }

pub token_numbers-requires : goal.token_numbers-requires
token_numbers-requires c =
    let at = goal.at.token_numbers-requires c in
    token_fits c.tokens.invariant (token_is at.After-next_token-t) (λ k. (c.type_inv.text k).fits)

pub overflow_add-size : goal.overflow_add-size
overflow_add-size c =
    let at = goal.at.overflow_add-size c in
    let w = c.tokens.invariant in
    record {
      fits = omega (
        arith,
        (size_is at.After-line_size-size),
        line_few w (token_is at.After-next_token-t),
        w.few,
        w.walkable.inside,
        w.walkable.short,
      );
    }

pub returns-then-is_eof : goal.returns-then-is_eof
returns-then-is_eof c =
    let at = goal.at.returns-then-is_eof c in
    measuring_end c.tokens.invariant (token_is at.After-next_token-t) (size_is at.After-line_size-size)
    (eqb-true _ _ (sym c.is_eof.ensures ∙ c.if-is_eof.true))

pub tokens-smaller : goal.tokens-smaller
tokens-smaller c =
    let at = goal.at.tokens-smaller c in
    measuring_less c.tokens.invariant (token_is at.After-next_token-t) (eqb-false _ _ (sym c.is_eof.ensures ∙ c.if-is_eof.false))

pub tokens-preserved : goal.tokens-preserved
tokens-preserved c =
    let at = goal.at.tokens-preserved c in
    measuring_turn c.tokens.invariant (token_is at.After-next_token-t) (eqb-false _ _ (sym c.is_eof.ensures ∙ c.if-is_eof.false))
    (size_is at.After-line_size-size)
