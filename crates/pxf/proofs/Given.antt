-- For `pxf_read_text`, `pxf_read_token` and `pxf_place_of`: what a call's contract says of its result holds of document 01's numbers. By the equation
-- of the answer. Assumes nothing.
use mathlib.Core.Path.{◌≡◌}
use mathlib.Core.List.{List}
use Prim.Native.Nat.{ℕ}
use native.Mathlib.Omega.{arith}
use lib.IntN.{ℤ}
use Rattle.std.specs.Prelude.{Result}
use Rattle.token.specs.declared.place.Place.{Place}
use Rattle.lexer.specs.declared.reading.Reading.{Reading}
use Rattle.lexer.specs.declared.reading.Settings.{Settings}
use Rattle.reading.specs.Answers.{read_text_answer, read_text_number, read_text_values, read_token_answer, read_token_number, read_token_values}
use Rattle.reading.specs.Answers.{place_of_answer, place_of_number, place_of_values}
use Rattle.reading.specs.Calls.{ReadsText, ReadsToken}
use Rattle.reading.specs.Claim.{Each, none, more}
use Rattle.reading.specs.declared.counts.Counts.{Counts}
use Rattle.reading.specs.declared.one.OneToken.{OneToken}
use Rattle.reading.specs.declared.refusal.Refusal.{Refusal}
use Rattle.reading.proofs.AnswerBounds.{AtMost, text_small, token_small, place_small}
use Rattle.pxf.specs.Texts.{six_of, place_of, TextRead, TokenRead, PlaceGiven}
use Rattle.pxf.specs.Helpers.{settings_of, Fit63}

-- numbers of at most 67,108,865 fit
fit : {vs : List ℕ} → Each AtMost vs → Fit63 vs
fit none = tt
fit (more h s) = (omega arith, fit s)

-- so do the values of an answer
pub text_fit : (m : Reading) (limit : ℕ) (text : List ℕ) (nt ns nr : ℕ) {r : Result Counts Refusal} → r ≡ read_text_answer m limit text nt ns nr
    → Fit63 (read_text_values r)
text_fit m limit text nt ns nr e = rw e (fit (text_small m limit text nt ns nr))

pub token_fit : (m : Reading) (limit : ℕ) (text : List ℕ) (p : Place) (nt ns nr : ℕ) {r : Result OneToken Refusal}
    → r ≡ read_token_answer m limit text p nt ns nr → Fit63 (read_token_values r)
token_fit m limit text p nt ns nr e = rw e (fit (token_small m limit text nt ns nr p))

pub place_fit : (text : List ℕ) (i : ℕ) {r : Result Place Refusal} → r ≡ place_of_answer text i → Fit63 (place_of_values r)
place_fit text i e = rw e (fit (place_small text i))

-- and they are what the call's contract asks
module _ {limit : ℕ} {text : List ℕ} {T : List ℤ} {S : List ℕ} {R T' : List ℤ} {S' : List ℕ} {R' : List ℤ}
    {how : Settings} {mode : ℕ} (eh : how ≡ settings_of mode limit) where
  pub text_read : {r : Result Counts Refusal} → ReadsText how.mode how.limit text T S R r T' S' R' → {n : ℕ} {A : List ℤ}
      → n ≡ read_text_number r → A ≡ six_of (read_text_values r) → TextRead mode limit text T S R n T' S' R' A
  text_read w en ea =
      let e = rw eh at w.answer in
      record { number = rw e at en; answer = rw e at ea; reads = rw (eh, e) at w }

  pub token_read : {offset line column : ℕ} {r : Result OneToken Refusal}
      → ReadsToken how.mode how.limit text (place_of offset line column) T S R r T' S' R' → {n : ℕ} {A : List ℤ}
      → n ≡ read_token_number r → A ≡ six_of (read_token_values r) → TokenRead offset line column mode limit text T S R n T' S' R' A
  token_read w en ea =
      let e = rw eh at w.answer in
      record { number = rw e at en; answer = rw e at ea; reads = rw (eh, e) at w }

pub place_given : {text : List ℕ} {i : ℕ} {r : Result Place Refusal} → r ≡ place_of_answer text i → {n : ℕ} {A : List ℤ} → n ≡ place_of_number r
    → A ≡ six_of (place_of_values r) → PlaceGiven i text n A
place_given e en ea = record { number = rw e at en; answer = rw e at ea }
