-- `text_suffices` and `token_suffices`, results of their own: "A string buffer as long as the text always suffices", of the answers of both calls. By
-- cases on the tests, of which only one answers `StringsShort`. Assumes nothing.
use mathlib.Core.Path.{◌≡◌, ap, ◌∙◌}
use mathlib.Core.List.{List}
use Prim.Native.Nat.{ℕ, ◌≤◌}
use native.Mathlib.Omega.{arith}
use lib.ListN.{length}
use Rattle.std.specs.Prelude.{Result, Err}
use Rattle.base.proofs.Tests.{pick_case}
use Rattle.token.specs.declared.place.Place.{Place}
use Rattle.lexer.specs.Token.{next_token}
use Rattle.lexer.specs.declared.next.Token.{Token}
use Rattle.lexer.specs.declared.reading.Reading.{Reading}
use Rattle.reading.specs.Buffers.{whole_laid, one_laid}
use Rattle.reading.specs.Refusals.{judge_of}
use Rattle.reading.specs.Answers.{is_place, read_text_answer, read_token_answer}
use Rattle.reading.specs.declared.refusal.Refusal.{Refusal}
use Rattle.reading.specs.declared.refusal.Refusal.TheVariants.{StringsShort}
use Rattle.reading.proofs.NextToken.{reads, string_few}
use Rattle.reading.proofs.Fits.{strings_fit}
use Rattle.reading.proofs.Places.{place_is}
use Rattle.reading.proofs.Refusals.{judge_case, judged_case, room_case}
use Rattle.reading.proofs.Rows.{one_strings}

-- an answer is another
abbrev Not : {T : Type 0} → Result T Refusal → Type 0
Not r = r ≡ Err StringsShort → ⊥

-- the checks of the text do not answer it
not_judged : (text : List ℕ) → Not (judge_of text)
not_judged text = judge_case text Not (λ _ e. cc) (λ n _ _ e. cc) (λ _ _ e. cc)

module _ (m : Reading) (limit : ℕ) (text : List ℕ) (nt ns nr : ℕ) (h : length text ≤ ns) where
  pub text_suffices : read_text_answer m limit text nt ns nr ≡ Err StringsShort → ⊥
  unfolding read_text_answer
  text_suffices =
      judged_case Not Err text (λ x j e. not_judged text (j ∙ cc))
      (λ _. room_case Not Err (whole_laid m limit text) nt ns nr (λ _ e. cc) (λ k e. omega (arith, strings_fit m limit text)) (λ _ e. cc) (λ _ e. cc))

  pub token_suffices : (p : Place) → read_token_answer m limit text p nt ns nr ≡ Err StringsShort → ⊥
  unfolding read_token_answer
  token_suffices p =
      judged_case Not Err text (λ x j e. not_judged text (j ∙ cc))
      (λ _. pick_case Not (is_place text p)
      (λ f. room_case Not Err (one_laid m limit text p.offset) nt ns nr (λ _ e. cc)
      (λ k e.
      let t : Token = next_token m limit text p.offset in
      let r = reads m limit text p.offset (place_is text p f).inside in
      omega (arith, ap length (one_strings m limit text t), string_few r))
      (λ _ e. cc) (λ _ e. cc))
      (λ _ e. cc))
