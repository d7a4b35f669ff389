-- For `next_lexeme` and `each_token`: a mark is a token by its byte alone. By cases on the tests of `mark_of`, each one of `class_of`. Assumes nothing.
use mathlib.Core.Path.{◌≡◌, refl, sym, ◌∙◌}
use mathlib.Core.Bool.{true}
use mathlib.Core.List.{List, ◌∷◌}
use Rattle.std.specs.Prelude.{Option, Some, None, is_some}
use Prim.Native.Nat.{ℕ, suc, ◌+◌, ◌<◌}
use native.Mathlib.Omega.{arith}
use lib.Dec.{eqb}
use lib.ListN.{length, drop}
use lib.Seq.{drop-cons}
use borrow.Author.Tests.{eqb-true, ne_eqb}
use Rattle.base.specs.Bytes.{byte}
use Rattle.base.proofs.Tests.{in_text, pick_case}
use Rattle.token.specs.Kind.{kind_number}
use Rattle.token.specs.Helpers.{is_newline, Walkable, Steppable}
use Rattle.token.specs.Place.{place_at, step_place}
use Rattle.token.specs.declared.kind.TokenKind.{TokenKind}
use Rattle.token.specs.declared.place.Place.{Place}
use Rattle.token.proofs.Places.{place_step, place_steppable}
use Rattle.lexeme.specs.declared.Lexeme.{Lexeme}
use Rattle.lexeme.specs.declared.Mode.{Mode}
use Rattle.lexer.specs.Reading.{mode_of, lexeme_in}
use Rattle.lexer.specs.declared.reading.Reading.{Reading}
use Rattle.lexer.specs.Token.{found_from, placed, token_of}
use Rattle.lexer.specs.Helpers.{Placing, single_of, mark_of, mark_lexeme}
use Rattle.lexer.proofs.FoundToken.{here_placing, here_token}
use Rattle.lexer.specs.Lexer.{class_of, class_at, lex_by, lexeme_of}

module _ (m : Mode) (limit : ℕ) (a : ℕ) (s : List ℕ) where
  -- where the byte is a mark, the token at the front is the mark of its kind
  Marked : Option TokenKind → Type 0
  Marked (Some k) = lexeme_of m limit (a ∷ s) ≡ mark_lexeme k
  Marked None = Unit {0}

  is : (n : ℕ) {x : Lexeme} → eqb a n ≡ true → lex_by (class_at (n ∷ s)) m limit (n ∷ s) ≡ x → lexeme_of m limit (a ∷ s) ≡ x
  unfolding lexeme_of
  is n e f = rw (ne_eqb (length (a ∷ s)) 0 (λ q. omega arith), eqb-true a n e) f

  front : Marked (mark_of a)
  unfolding Marked mark_of single_of mark_lexeme class_at class_of lex_by kind_number
  front =
      pick_case Marked (eqb a 10) (λ e. is 10 e refl)
      (λ _. pick_case Marked (eqb a 123) (λ e. is 123 e refl)
      (λ _. pick_case Marked (eqb a 125) (λ e. is 125 e refl)
      (λ _. pick_case Marked (eqb a 91) (λ e. is 91 e refl)
      (λ _. pick_case Marked (eqb a 93) (λ e. is 93 e refl)
      (λ _. pick_case Marked (eqb a 40) (λ e. is 40 e refl)
      (λ _. pick_case Marked (eqb a 41) (λ e. is 41 e refl)
      (λ _. pick_case Marked (eqb a 61) (λ e. is 61 e refl)
      (λ _. pick_case Marked (eqb a 58) (λ e. is 58 e refl)
      (λ _. pick_case Marked (eqb a 44) (λ e. is 44 e refl) (λ _. tt))))))))))

  front_is : (k : TokenKind) → mark_of a ≡ Some k → lexeme_of m limit (a ∷ s) ≡ mark_lexeme k
  unfolding Marked
  front_is k e = rw e at front

-- a byte of the text that is a mark is one of its bytes, and the token that starts with it
module _ (text : List ℕ) (i : ℕ) (k : TokenKind) (e : mark_of (byte text i) ≡ Some k) where
  pub mark_in : i < length text
  unfolding mark_of single_of
  mark_in = in_text (λ a. is_some (mark_of a)) text i refl (rw e)

  pub mark_is : (m : Reading) (limit : ℕ) → lexeme_in m limit (drop i text) ≡ mark_lexeme k
  unfolding lexeme_in
  mark_is m limit = rw (drop-cons text i 0 mark_in) (front_is (mode_of m) limit (byte text i) (drop (suc i) text) k e)

-- a mark is one byte
mark_len : (k : TokenKind) → (mark_lexeme k).len ≡ 1
unfolding mark_lexeme
mark_len k = pick_case (λ (x : Lexeme). x.len ≡ 1) (is_newline k) (λ _. refl) (λ _. refl)

-- the mark that stands at a place of the text
module _ {text : List ℕ} {p : Place} (w : Walkable text p p.offset) (k : TokenKind) (e : mark_of (byte text p.offset) ≡ Some k) where
  pub mark_steppable : Steppable p
  mark_steppable = place_steppable text p.offset p w.true_place (mark_in text p.offset k e) w.short

  pub mark_placing : (m : Reading) (limit : ℕ) → Placing p (mark_lexeme k)
  mark_placing m limit = here_placing m limit w (sym (mark_is text p.offset k e m limit))

  pub mark_token : (m : Reading) (limit : ℕ)
      → placed p.offset p (step_place p (byte text p.offset)) (mark_lexeme k) ≡ token_of text (found_from m limit text p.offset)
  mark_token m limit =
      let f : step_place p (byte text p.offset) ≡ place_at text (p.offset + (mark_lexeme k).len) =
      place_step text p.offset p w.true_place (mark_in text p.offset k e) ∙ rw (mark_len k) in
      here_token m limit w (sym (mark_is text p.offset k e m limit)) f
