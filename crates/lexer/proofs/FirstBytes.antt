-- For `lex_by`, `Lexed` and `Puts`: what the class of a token says of its first bytes. By cases on the tests of `class_of`. Assumes nothing.
use mathlib.Core.Path.{◌≡◌, sym, subst, ◌∙◌}
use mathlib.Core.Bool.{true, ◌&&◌, ◌||◌}
use mathlib.Core.Logic.{◌⊎◌, inl, inr}
use mathlib.Core.List.{List}
use Prim.Native.Nat.{ℕ, ◌≤◌}
use Prim.Native.Char.{code}
use lib.Dec.{eqb}
use lib.ListN.{length}
use borrow.Author.Tests.{eqb-true}
use Rattle.base.specs.Bytes.{byte}
use Rattle.base.specs.Classes.{is_digit, is_ident_start}
use Rattle.base.proofs.Tests.{and_left, and_right, pick_case}
use Rattle.token.specs.declared.kind.TokenKind.{TokenKind}
use Rattle.token.specs.declared.kind.TokenKind.TheVariants as K
use Rattle.scan.specs.Number.{is_sign}
use Rattle.triple_strings.specs.Triple.{quotes}
use Rattle.triple_strings.proofs.QuoteSearch.{quotes_long}
use Rattle.lexer.specs.Lexer.{class_of, class_at}
use Rattle.lexer.specs.declared.class.Class.{Class}
use Rattle.lexer.specs.declared.class.Class.TheVariants as C

-- the marks of one byte
pub data Mark : ℕ → TokenKind → Type 0 where
  l_brace : Mark (code "{") K.LBrace
  r_brace : Mark (code "}") K.RBrace
  l_bracket : Mark (code "[") K.LBracket
  r_bracket : Mark (code "]") K.RBracket
  l_paren : Mark (code "(") K.LParen
  r_paren : Mark (code ")") K.RParen
  equals : Mark (code "=") K.Equals
  colon : Mark (code ":") K.Colon
  comma : Mark (code ",") K.Comma

-- what holds of the first three bytes of a token of the class
abbrev pub FirstBytes : ℕ → ℕ → ℕ → Class → Type 0
FirstBytes a b c C.Newline = a ≡ code "\n"
FirstBytes a b c C.LineComment = (a ≡ code "#") ⊎ ((a ≡ code "/") × (b ≡ code "/"))
FirstBytes a b c C.BlockComment = (a ≡ code "/") × (b ≡ code "*")
FirstBytes a b c C.Triple = (a ≡ code "\"") × ((b ≡ code "\"") × (c ≡ code "\""))
FirstBytes a b c C.Quote = a ≡ code "\""
FirstBytes a b c C.Bytes = (a ≡ code "b") × (b ≡ code "\"")
FirstBytes a b c (C.Single k) = Mark a k
FirstBytes a b c C.Directive = a ≡ code "@"
FirstBytes a b c C.Number = is_sign a || is_digit a ≡ true
FirstBytes a b c C.Name = (a ≡ code "b") ⊎ (is_ident_start a ≡ true)
FirstBytes a b c C.Other = Unit {0}

module _ (a b c : ℕ) where
  P : Class → Type 0
  P k = FirstBytes a b c k

  is : (n : ℕ) → eqb a n ≡ true → a ≡ n
  is n e = eqb-true a n e

  pub first_bytes : FirstBytes a b c (class_of a b c)
  unfolding class_of P
  first_bytes =
      pick_case P (eqb a (code "\n")) (λ e. is _ e)
      (λ _. pick_case P (eqb a (code "#")) (λ e. inl (is _ e))
      (λ _. pick_case P (eqb a (code "/"))
      (λ e. pick_case P (eqb b (code "/")) (λ f. inr (is _ e, eqb-true _ _ f))
      (λ _. pick_case P (eqb b (code "*")) (λ f. (is _ e, eqb-true _ _ f)) (λ _. tt)))
      (λ _. pick_case P (eqb a (code "\""))
      (λ e. pick_case P (eqb b (code "\"") && eqb c (code "\""))
      (λ f. (is _ e, (eqb-true _ _ (and_left (eqb b (code "\"")) (eqb c (code "\"")) f), eqb-true _ _ (and_right (eqb b (code "\"")) (eqb c (code "\"")) f))))
      (λ _. is _ e))
      (λ _. pick_case P (eqb a (code "b")) (λ e. pick_case P (eqb b (code "\"")) (λ f. (is _ e, eqb-true _ _ f)) (λ _. inl (is _ e)))
      (λ _. pick_case P (eqb a (code "{")) (λ e. rw (is _ e) l_brace)
      (λ _. pick_case P (eqb a (code "}")) (λ e. rw (is _ e) r_brace)
      (λ _. pick_case P (eqb a (code "[")) (λ e. rw (is _ e) l_bracket)
      (λ _. pick_case P (eqb a (code "]")) (λ e. rw (is _ e) r_bracket)
      (λ _. pick_case P (eqb a (code "(")) (λ e. rw (is _ e) l_paren)
      (λ _. pick_case P (eqb a (code ")")) (λ e. rw (is _ e) r_paren)
      (λ _. pick_case P (eqb a (code "=")) (λ e. rw (is _ e) equals)
      (λ _. pick_case P (eqb a (code ":")) (λ e. rw (is _ e) colon)
      (λ _. pick_case P (eqb a (code ",")) (λ e. rw (is _ e) comma)
      (λ _. pick_case P (eqb a (code "@")) (λ e. is _ e)
      (λ _. pick_case P (eqb a (code "+")) (λ e. rw e)
      (λ p. pick_case P (eqb a (code "-")) (λ e. rw (p, e))
      (λ q. pick_case P (is_digit a) (λ e. rw (p, q, e))
      (λ _. pick_case P (is_ident_start a) (λ e. inr e) (λ _. tt)))))))))))))))))))

-- the same of the front of a list
pub first_bytes_at : (s : List ℕ) → FirstBytes (byte s 0) (byte s 1) (byte s 2) (class_at s)
unfolding class_at
first_bytes_at s = first_bytes (byte s 0) (byte s 1) (byte s 2)

-- three quotes are three bytes
pub triple_long : (s : List ℕ) (k : Class) → k ≡ class_at s → k ≡ C.Triple → 3 ≤ length s
unfolding quotes
triple_long s k e q =
    let w = subst (FirstBytes (byte s 0) (byte s 1) (byte s 2)) (sym e ∙ q) (first_bytes_at s) in
    quotes_long s (rw (w.0, w.1.0, w.1.1))

-- a string begins with a quote
pub quote_first : (s : List ℕ) (k : Class) → k ≡ class_at s → k ≡ C.Quote → byte s 0 ≡ 34
quote_first s k e q = subst (FirstBytes (byte s 0) (byte s 1) (byte s 2)) (sym e ∙ q) (first_bytes_at s)
