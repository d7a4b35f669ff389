-- The answers of the calls on a text, accepted or refused, by document 01's numbers and values.
use Rattle.std.specs.Prelude.{Bool, ◌&&◌, List, [], ◌∷◌, ℕ, eqb, length, Result, Ok, Err}
use Rattle.base.specs.Answers.{answer_number}
use Rattle.base.specs.Choice.{pick}
use Rattle.token.specs.Place.{place_at}
use Rattle.token.specs.declared.place.Place.{Place}
use Rattle.lexer.specs.Token.{next_token}
use Rattle.lexer.specs.declared.reading.Reading.{Reading}
use Rattle.reading.specs.Buffers.{counts_of, whole_laid, one_laid}
use Rattle.reading.specs.Refusals.{refusal_number, refusal_values, judge_of, after_judge, good_offset, after_room}
use Rattle.reading.specs.declared.counts.Counts.{Counts}
use Rattle.reading.specs.declared.one.OneToken.{OneToken}
use Rattle.reading.specs.declared.refusal.Refusal.{Refusal}
use Rattle.reading.specs.declared.refusal.Refusal.TheVariants.{NoPlace}

-- Types of the code (src/one.rt). `OneToken`: `strings` and `reports`, how much was written beside the one token, and `end`, the place at its end.
-- Types that other files explain: `Place` in token/specs/Place.antt; `Reading` in lexer/specs/Reading.antt; `Counts` in Buffers.antt; `Refusal` in
-- Refusals.antt.

-- the values of an answer, by those of what it can give and by those of its refusals
abbrev pub answer_values : {T E : Type 0} → (T → List ℕ) → (E → List ℕ) → Result T E → List ℕ
answer_values f g (Ok x) = f x
answer_values f g (Err e) = g e

-- ---- the whole reading; 3 does not arise

-- the answer where buffers of nt numbers, ns bytes and nr numbers are lent: "Text calls check 1, 2, 3, 4, 5, 6"
unfoldable pub read_text_answer : Reading → ℕ → List ℕ → ℕ → ℕ → ℕ → Result Counts Refusal
read_text_answer m limit text nt ns nr =
    let l = whole_laid m limit text in
    after_judge (judge_of text) Err (after_room l nt ns nr Err (Ok (counts_of l)))

-- document 01's number of the answer, 0 where the call is accepted
abbrev pub read_text_number : Result Counts Refusal → ℕ
read_text_number r = answer_number refusal_number r

-- its values: "the counts of tokens, string bytes and reports written"
abbrev pub counts_values : Counts → List ℕ
counts_values c = c.tokens ∷ c.strings ∷ c.reports ∷ []

abbrev pub read_text_values : Result Counts Refusal → List ℕ
read_text_values r = answer_values counts_values refusal_values r

-- ---- one token from a place

-- refusal 3: "an offset beyond the text or inside a character, or a place whose line or column is untrue for its offset"
unfoldable pub is_place : List ℕ → Place → Bool
is_place text p =
    good_offset text p.offset && (eqb p.line (place_at text p.offset).line && eqb p.column (place_at text p.offset).column)

-- the answer from the place p, where such buffers are lent
unfoldable pub read_token_answer : Reading → ℕ → List ℕ → Place → ℕ → ℕ → ℕ → Result OneToken Refusal
read_token_answer m limit text p nt ns nr =
    let l = one_laid m limit text p.offset in
    after_judge (judge_of text) Err
    (pick (is_place text p)
    (after_room l nt ns nr Err
    (Ok (record { strings = length l.strings; reports = length l.reports; end = (next_token m limit text p.offset).end })))
    (Err NoPlace))

-- its number
abbrev pub read_token_number : Result OneToken Refusal → ℕ
read_token_number r = answer_number refusal_number r

-- "one token from a place, which gives these too and the place at the token's end"
abbrev pub token_values : OneToken → List ℕ
token_values t = 1 ∷ t.strings ∷ t.reports ∷ t.end.offset ∷ t.end.line ∷ t.end.column ∷ []

abbrev pub read_token_values : Result OneToken Refusal → List ℕ
read_token_values r = answer_values token_values refusal_values r

-- ---- the place of an offset

-- the answer; no buffer is lent, so checks 1, 2 and 3 are all
unfoldable pub place_of_answer : List ℕ → ℕ → Result Place Refusal
place_of_answer text offset = after_judge (judge_of text) Err (pick (good_offset text offset) (Ok (place_at text offset)) (Err NoPlace))

-- its number
abbrev pub place_of_number : Result Place Refusal → ℕ
place_of_number r = answer_number refusal_number r

-- its values: the place's numbers
abbrev pub place_values : Place → List ℕ
place_values p = p.offset ∷ p.line ∷ p.column ∷ []

abbrev pub place_of_values : Result Place Refusal → List ℕ
place_of_values r = answer_values place_values refusal_values r
