-- What a caller learns from an answer, for the crates `pxf`, `cases` and `listing_lines`: no number that it gives is past 67,108,865, and what an
-- accepted call counts lies in its buffers. By cases on the tests. Assumes nothing.
use mathlib.Core.Path.{◌≡◌, refl, sym, ap, ◌∙◌}
use mathlib.Core.List.{List, [], ◌∷◌}
use Prim.Native.Nat.{ℕ, ◌+◌, ◌*◌, ◌≤◌}
use native.Mathlib.Omega.{arith}
use lib.IntN.{ℤ}
use lib.ListN.{length}
use Rattle.std.specs.Prelude.{Result, Ok, Err}
use Rattle.base.proofs.Tests.{pick_case}
use Rattle.limits.specs.Limits.{max_message_size}
use Rattle.token.specs.Layout.{record_width, report_width}
use Rattle.token.specs.Place.{place_at}
use Rattle.token.specs.declared.place.Place.{Place}
use Rattle.token.proofs.Places.{place_moved}
use Rattle.std.specs.Prelude.{Err}
use Rattle.utf8.proofs.Valid.{checked}
use Rattle.lexer.specs.Token.{next_token}
use Rattle.lexer.specs.declared.next.Token.{Token}
use Rattle.lexer.specs.declared.reading.Reading.{Reading}
use Rattle.reading.specs.Tokens.{tokens}
use Rattle.reading.specs.Buffers.{counts_of, whole_laid, one_laid}
use Rattle.reading.specs.Refusals.{refusal_values, judge_of, good_offset}
use Rattle.reading.specs.Answers.{is_place, read_text_answer, read_text_values, read_token_answer, read_token_values, place_of_answer, place_of_values}
use Rattle.reading.specs.Claim as claim
use Rattle.reading.specs.Claim.{Each}
use Rattle.reading.specs.Calls.{ReadsText, ReadsToken}
use Rattle.reading.specs.declared.counts.Counts.{Counts}
use Rattle.reading.specs.declared.one.OneToken.{OneToken}
use Rattle.reading.specs.declared.refusal.Refusal.{Refusal}
use Rattle.reading.proofs.NextToken.{end_bounded, string_few, reads}
use Rattle.reading.proofs.TokenAnswers.{one_of}
use Rattle.reading.proofs.Fits.{strings_fit, reports_fit, tokens_fit}
use Rattle.reading.proofs.Places.{place_is, good_in}
use Rattle.reading.proofs.Refusals.{judge_case, fitting, judged_case, room_case}
use Rattle.reading.proofs.Rows.{records_length, one_strings, one_count, lies_inside}

-- at most 67,108,865
abbrev pub AtMost : ℕ → Type 0
AtMost v = v ≤ max_message_size + 1

three : (a b c : ℕ) {vs : List ℕ} → AtMost a → AtMost b → AtMost c → Each AtMost vs → Each AtMost (a ∷ b ∷ c ∷ vs)
three a b c i j k s = claim.more i (claim.more j (claim.more k s))

-- ---- the numbers that a call gives

-- the offset of an ill-formed sequence of a text that is not too long
unfit_small : (text : List ℕ) (x : Refusal) → judge_of text ≡ Err x → Each AtMost (refusal_values x)
unfit_small text x =
    judge_case text (λ (j : Result (Unit {0}) Refusal). j ≡ Err x → Each AtMost (refusal_values x)) (λ _ e. rw (sym (given e)) claim.none)
    (λ n h g e.
    let w = (checked text (Err (record { valid_up_to = n })) (sym g)).first (record { valid_up_to = n }) refl in
    let i : AtMost n = omega (arith, w.inside) in
    rw (sym (given e)) (claim.more i claim.none))
    (λ _ _ e. absurd cc)
  where
    given : {a b : Refusal} → ◌≡◌ {A = Result (Unit {0}) Refusal} (Err a) (Err b) → a ≡ b
    given e = cc

module _ (m : Reading) (limit : ℕ) (text : List ℕ) (nt ns nr : ℕ) where
  pub text_small : Each AtMost (read_text_values (read_text_answer m limit text nt ns nr))
  unfolding read_text_answer
  text_small =
      let l = whole_laid m limit text in
      let P : Result Counts Refusal → Type 0 = λ (r : Result Counts Refusal). Each AtMost (read_text_values r) in
      judged_case P Err text (unfit_small text)
      (λ j. room_case P Err l nt ns nr (λ _. claim.none) (λ _. claim.none) (λ _. claim.none)
      (λ _.
      let h = (fitting text j).0 in
      three (length l.records) (length l.strings) (length l.reports)
      (omega (arith, records_length 0 (tokens m limit text), tokens_fit m limit text)) (omega (arith, strings_fit m limit text))
      (omega (arith, reports_fit m limit text)) claim.none))

  pub token_small : (p : Place) → Each AtMost (read_token_values (read_token_answer m limit text p nt ns nr))
  unfolding read_token_answer
  token_small p =
      let l = one_laid m limit text p.offset in
      let P : Result OneToken Refusal → Type 0 = λ (r : Result OneToken Refusal). Each AtMost (read_token_values r) in
      judged_case P Err text (unfit_small text)
      (λ j. pick_case P (is_place text p)
      (λ g. room_case P Err l nt ns nr (λ _. claim.none) (λ _. claim.none) (λ _. claim.none)
      (λ _.
      let t : Token = next_token m limit text p.offset in
      let h = (fitting text j).0 in
      let r = reads m limit text p.offset (place_is text p g).inside in
      let b = end_bounded r in
      let z = string_few r in
      three 1 (length l.strings) (length l.reports) (omega arith)
      (omega (arith, ap length (one_strings m limit text t))) (omega (arith, one_count m limit text t))
      (three t.end.offset t.end.line t.end.column (omega arith) (omega arith) (omega arith) claim.none)))
      (λ _. claim.none))

-- the place of an offset
pub place_small : (text : List ℕ) (i : ℕ) → Each AtMost (place_of_values (place_of_answer text i))
unfolding place_of_answer
place_small text i =
    let P : Result Place Refusal → Type 0 = λ (r : Result Place Refusal). Each AtMost (place_of_values r) in
    judged_case P Err text (unfit_small text)
    (λ j. pick_case P (good_offset text i)
    (λ f.
    let h = (fitting text j).0 in
    let l = good_in text i f in
    let w = place_moved text i l in
    three (place_at text i).offset (place_at text i).line (place_at text i).column (omega arith) (omega arith) (omega arith) claim.none)
    (λ _. claim.none))

-- ---- what an accepted call counts lies in its buffers

-- an accepted answer of the whole reading counts what is laid
module _ {m : Reading} {limit : ℕ} {text : List ℕ} {T : List ℤ} {S : List ℕ} {R : List ℤ} {r : Result Counts Refusal} {T' : List ℤ} {S' : List ℕ}
    {R' : List ℤ} {c : Counts} (w : ReadsText m limit text T S R r T' S' R') (e : r ≡ Ok c) where
  pub counted : c ≡ counts_of (whole_laid m limit text)
  unfolding read_text_answer
  counted =
      let P : Result Counts Refusal → Type 0 = λ (x : Result Counts Refusal). Ok c ≡ x → c ≡ counts_of (whole_laid m limit text) in
      judged_case P Err text (λ _ _ q. cc)
      (λ _. room_case P Err (whole_laid m limit text) (length T) (length S) (length R) (λ _ q. cc) (λ _ q. cc) (λ _ q. cc) (λ _ q. cc))
      (sym e ∙ w.answer)

  pub text_inside : (c.tokens * record_width ≤ length T') × (c.strings ≤ length S') × (c.reports * report_width ≤ length R')
  text_inside = lies_inside (rw e at w.lays) counted

-- an accepted answer for one token counts what is laid, and gives its end
module _ {m : Reading} {limit : ℕ} {text : List ℕ} {p : Place} {T : List ℤ} {S : List ℕ} {R : List ℤ} {r : Result OneToken Refusal} {T' : List ℤ}
    {S' : List ℕ} {R' : List ℤ} {o : OneToken} (w : ReadsToken m limit text p T S R r T' S' R') (e : r ≡ Ok o) where
  one_answer : o ≡ one_of m limit text p
  unfolding read_token_answer
  one_answer =
      let l = one_laid m limit text p.offset in
      let P : Result OneToken Refusal → Type 0 = λ (x : Result OneToken Refusal). Ok o ≡ x → o ≡ one_of m limit text p in
      judged_case P Err text (λ _ _ h. cc)
      (λ _. pick_case P (is_place text p)
      (λ _. room_case P Err l (length T) (length S) (length R) (λ _ h. cc) (λ _ h. cc) (λ _ h. cc) (λ _ h. cc)) (λ _ h. cc))
      (sym e ∙ w.answer)

  pub one_end : o.end ≡ (next_token m limit text p.offset).end
  one_end = cc one_answer

  pub one_counted : ◌≡◌ {A = Counts} (record { tokens = 1; strings = o.strings; reports = o.reports }) (counts_of (one_laid m limit text p.offset))
  one_counted =
      let of_tokens = records_length 0 (next_token m limit text p.offset ∷ []) in
      let of_strings = ap (λ (x : OneToken). x.strings) one_answer in
      let of_reports = ap (λ (x : OneToken). x.reports) one_answer in
      cc

  pub one_inside : (1 * record_width ≤ length T') × (o.strings ≤ length S') × (o.reports * report_width ≤ length R')
  one_inside = lies_inside (rw e at w.lays) one_counted
