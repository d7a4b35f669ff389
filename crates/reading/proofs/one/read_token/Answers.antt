-- `read_token` answers by the first check that fails, before anything is stored; else it stores the token. Assumes nothing.
use mathlib.Core.Bool.{true}
use mathlib.Core.Path.{◌≡◌, refl, sym, ◌∙◌}
use Rattle.std.specs.Prelude.{Ok}
use Rattle.utf8.proofs.Valid.{octets_valid}
use Rattle.reading.specs.Refusals.{judge_of}
use Rattle.reading.specs.Answers.{is_place}
use Rattle.reading.proofs.Refusals.{fitting, well_octets, refusal_is}
use Rattle.reading.proofs.TokenAnswers.{walkable, few, counted, unfit, no_place, short, no_record, Passed, room, stored, done}
use Rattle.reading.proofs.Rows.{held_by}
use Rattle.reading.proofs.Turns.{none_is}
use Rattle.reading.proofs.one.read_token.Goals.{Else-not-is_place, In_ok-hold}
use borrow.Author.Rules.{rules}
use Rattle.reading.proofs.one.read_token.Goals as goal

-- the text fits, and the place is one of it
fit : (c : Else-not-is_place) → judge_of c.args.text.now ≡ Ok tt
fit c = sym c.in_ok-judge.ensures

placed : (c : Else-not-is_place) → let a = c.args in is_place a.text.now a.place ≡ true
placed c = sym c.is_place.ensures ∙ c.if-not-is_place.false

-- what has passed all checks
passed : (c : In_ok-hold) → let a = c.args in Passed a.how.mode a.how.limit a.text.now a.place a.tokens.now a.strings.now a.reports.now
    c.next_token-t.result c.string_size.result
passed c =
    let j : judge_of c.args.text.now ≡ Ok tt = sym c.in_ok-judge.ensures in
    let f : let a = c.args in is_place a.text.now a.place ≡ true = sym c.is_place.ensures ∙ c.if-not-is_place.false in
    record {
      fit = j;
      place = f;
      token = c.next_token-t.ensures;
      size = c.string_size.ensures;
      room = rw (counted _ _ _ _ j f c.next_token-t.ensures c.string_size.ensures) at (sym c.hold.ensures ∙ c.in_ok-hold.was);
    }

pub returns-in_err-judge : goal.returns-in_err-judge
returns-in_err-judge c = rw (refusal_is c.from_residual.ensures.1) (unfit (sym c.in_err-judge.ensures))

pub returns-then-not-is_place : goal.returns-then-not-is_place
returns-then-not-is_place c = no_place (sym c.in_ok-judge.ensures) (sym c.is_place.ensures ∙ c.if-not-is_place.true)

pub returns-then-tokens-lt-RECORD_WIDTH : goal.returns-then-tokens-lt-RECORD_WIDTH
returns-then-tokens-lt-RECORD_WIDTH c = no_record (sym c.in_ok-judge.ensures) (sym c.is_place.ensures ∙ c.if-not-is_place.false) (search rules)

pub invariant_of-here : goal.invariant_of-here
invariant_of-here c =
    let at = goal.at.invariant_of-here c in
    let a = c.args in
    let j = fit at.Else-not-is_place in
    record {
      walkable = walkable a.how.mode a.how.limit a.text.now a.place j (placed at.Else-not-is_place);
      well_formed = octets_valid (well_octets _ (fitting _ j).1);
    }

pub hold-requires : goal.hold-requires
hold-requires c =
    let at = goal.at.hold-requires c in
    few _ _ _ _ (fit at.Else-not-is_place) (placed at.Else-not-is_place) c.next_token-t.ensures

pub returns-in_err-hold : goal.returns-in_err-hold
returns-in_err-hold c =
    let at = goal.at.returns-in_err-hold c in
    let j = fit at.Else-not-is_place in
    let f = placed at.Else-not-is_place in
    rw (refusal_is c.from_residual-in_err-hold.ensures.1)
    (short j f (rw (counted _ _ _ _ j f c.next_token-t.ensures c.string_size.ensures) at (sym c.hold.ensures ∙ c.in_err-hold.was)))

pub put-requires : goal.put-requires
put-requires c =
    let at = goal.at.put-requires c in
    rw (none_is c.default.ensures) (room (passed at.In_ok-hold) (λ k. (c.type_inv.text k).fits) refl refl refl)

pub returns : goal.returns
returns c =
    let at = goal.at.returns c in
    let w = passed at.In_ok-hold in
    done w (held_by (stored w (rw (none_is c.default.ensures) at c.put.ensures.put)) (search rules) (search rules) (search rules))
