-- `see` is `seen_of`: the first byte that is no blank, and the number and the blanks from there. Assumes nothing.
use mathlib.Core.Path.{◌≡◌, refl, ◌∙◌}
use mathlib.Core.Bool.{true, false}
use mathlib.Core.List.{List}
use Prim.Native.Nat.{ℕ, ◌<◌}
use native.Mathlib.Nat.{add-zero}
use native.Mathlib.Omega.{arith}
use lib.ListN.{length, drop, length-drop}
use lib.Seq.{get_or-drop}
use Rattle.base.specs.Bytes.{byte}
use Rattle.base.proofs.Reaches.{rest_is}
use Rattle.base.specs.Classes.{is_digit}
use Rattle.base.proofs.Tests.{true_false, in_text, told}
use Rattle.scan.specs.Number.{lex_number}
use Rattle.lexer.specs.Helpers.{FromQuote}
use Rattle.lexer.specs.Token.{start_at}
use Rattle.suggest.specs.Helpers.{starts_number, seen_of}
use Rattle.suggest.proofs.FirstTokens.{starts_zero, number_lexeme, number_inside}
use Rattle.suggest.proofs.seen.see.Goals.{Else-not-starts_number, After-lex_in-x}
use Rattle.suggest.proofs.seen.see.Goals as goal

-- what begins with it is no quote, and is read as a number
no_quote : (s : List ℕ) → starts_number (byte s 0) ≡ true → FromQuote s
unfolding starts_number is_digit
no_quote s e q = let f = rw q at e in true_false false f refl

pub returns-then-not-starts_number : goal.returns-then-not-starts_number
unfolding seen_of start_at
returns-then-not-starts_number c = let r = c.reach_run-start in
    let f = told _ c.starts_number.ensures c.if-not-starts_number.true in
    rw (← r.ensures, ← c.peek.ensures, f)

-- what begins there
begins : (c : Else-not-starts_number) → starts_number (byte c.args.text.now c.reach_run-start.result) ≡ true
begins c = rw (← c.peek.ensures) (told _ c.starts_number.ensures c.if-not-starts_number.false)

inside : (c : Else-not-starts_number) → c.reach_run-start.result < length c.args.text.now
inside c = in_text starts_number _ _ starts_zero (begins c)

begins_rest : (c : Else-not-starts_number) → starts_number (byte (drop c.reach_run-start.result c.args.text.now) 0) ≡ true
begins_rest c = rw (get_or-drop c.reach_run-start.result c.args.text.now 0 0, add-zero) (begins c)

-- the number that is read
number_is : (c : After-lex_in-x) → c.lex_in-x.result ≡ lex_number (drop c.reach_run-start.result c.args.text.now)
number_is c =
    let at = goal.at.After-lex_in-x c in
    rw rest_is at c.lex_in-x.ensures ∙ number_lexeme 0 _ (begins_rest at.Else-not-starts_number)

pub slice_bounds-lex_in-count : goal.slice_bounds-lex_in-count
slice_bounds-lex_in-count c = let at = goal.at.slice_bounds-lex_in-count c in omega (arith, inside at.Else-not-starts_number)

pub slice_bounds-lex_in-start : goal.slice_bounds-lex_in-start
slice_bounds-lex_in-start c = let at = goal.at.slice_bounds-lex_in-start c in omega (arith, inside at.Else-not-starts_number)

pub lex_in-x-requires : goal.lex_in-x-requires
lex_in-x-requires c = let at = goal.at.lex_in-x-requires c in rw rest_is (no_quote _ (begins_rest at.Else-not-starts_number))

pub overflow_add-end : goal.overflow_add-end
overflow_add-end c =
    let at = goal.at.overflow_add-end c in
    let text : List ℕ = c.args.text.now in
    let start : ℕ = c.reach_run-start.result in
    let n = number_inside (drop start text) (begins_rest at.Else-not-starts_number) in
    let l = length-drop start text in
    rw (number_is at.After-lex_in-x) (omega (arith, inside at.Else-not-starts_number))

pub returns : goal.returns
unfolding seen_of start_at
returns c =
    let at = goal.at.returns c in
    rw (← c.reach_run-start.ensures, (begins at.Else-not-starts_number), ← (number_is at.After-lex_in-x), ← c.reach_run.ensures) c.see_by.ensures
