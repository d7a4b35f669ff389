-- `put_string` lays `string_in`: three quotes choose the writer of triple-quoted strings. Assumes nothing.
use mathlib.Core.Bool.{true, false}
use mathlib.Core.Path.{◌≡◌, sym, ap, ◌∙◌}
use native.Mathlib.Omega.{arith}
use lib.ListN.{length}
use Rattle.triple_strings.specs.Triple.{quotes}
use Rattle.triple_strings.proofs.QuoteSearch.{quotes_long}
use Rattle.lexer.proofs.Puts.{string_in_lem, triple_value, literal_value, literal_sized}
use Rattle.lexer.proofs.put.put_string.Goals.{Else-at_quotes, Then-at_quotes}
use Rattle.lexer.proofs.put.put_string.Goals as goal

-- whether three quotes stand at the front
three : (c : Then-at_quotes) → quotes c.args.s.now ≡ true
three c = sym c.at_quotes.ensures ∙ c.if-at_quotes.true

one : (c : Else-at_quotes) → quotes c.args.s.now ≡ false
one c = sym c.at_quotes.ensures ∙ c.if-at_quotes.false

pub put_triple_string-requires : goal.put_triple_string-requires
put_triple_string-requires c =
    let at = goal.at.put_triple_string-requires c in
    let p = c.requires in
    let q = (three at.Then-at_quotes) in
    (quotes_long _ q, omega (arith, p.1, p.0.counted, ap length (triple_value _ _ p.0.some q)))

pub returns-then-at_quotes : goal.returns-then-at_quotes
returns-then-at_quotes c =
    let at = goal.at.returns-then-at_quotes c in
    rw (triple_value _ _ c.requires.0.some (three at.Then-at_quotes)) c.put_triple_string.ensures

pub put_string-requires : goal.put_string-requires
put_string-requires c =
    let at = goal.at.put_string-requires c in
    let p = c.requires in
    let f = p.0 in (
      string_in_lem _ _ f.some,
      p.1,
      rw c.from.ensures (rw (f.counted, f.ends) at (literal_sized _ _ f.some (one at.Else-at_quotes) f.limit)),
    )

pub returns : goal.returns
returns c =
    let at = goal.at.returns c in
    rw (literal_value _ _ c.requires.0.some (one at.Else-at_quotes), ← c.from.ensures)
    c.put_string.ensures
