-- For all laws of many tokens: the tokens from an offset on are one that ends them, or a token and those from its end on, and what holds step by step
-- holds of all. By induction on the bound on their number, which a token of at least a byte lets fall. Assumes nothing.
use mathlib.Core.Path.{◌≡◌, refl}
use mathlib.Core.Bool.{Bool, true, false}
use mathlib.Core.List.{List, [], ◌∷◌}
use Prim.Native.Nat.{ℕ, zero, suc, ◌-◌, ◌≤◌, ◌<◌}
use native.Mathlib.Omega.{arith}
use lib.ListN.{length}
use borrow.Author.Tests.{eq-eqb, ne_eqb, eqb-true, eqb-false}
use Rattle.base.proofs.Tests.{by_cases, true_false}
use Rattle.token.proofs.KindNumbers.{IsEof}
use Rattle.lexer.specs.Token.{next_token}
use Rattle.lexer.specs.declared.next.Token.{Token}
use Rattle.lexer.specs.declared.reading.Reading.{Reading}
use Rattle.reading.specs.Tokens.{and_then, tokens_for, tokens_to, eof_token, tokens_from}
use Rattle.reading.proofs.NextToken.{Read, reads}

-- ---- to the first token that meets a test which the Eof meets

module _ (ends : Token → Bool) (eof-ends : (t : Token) → IsEof t.kind → ends t ≡ true) (m : Reading) (limit : ℕ) (text : List ℕ) where
  -- a token that does not end them has a byte
  forward : (at : ℕ) → at ≤ length text → ends (next_token m limit text at) ≡ false
      → (next_token m limit text at).start.offset < (next_token m limit text at).end.offset
  forward at h c = (reads m limit text at h).forward (λ k. true_false _ (eof-ends _ k) c)

  -- two bounds above the bytes left give the same tokens
  same : (n k at : ℕ) → at ≤ length text → length text - at < n → length text - at < k
      → tokens_for ends m limit n text at ≡ tokens_for ends m limit k text at
  unfolding tokens_for and_then
  same zero k at h a b = absurd (omega arith)
  same (suc n) zero at h a b = absurd (omega arith)
  same (suc n) (suc k) at h a b =
      let r = reads m limit text at h in
      by_cases (ends (next_token m limit text at)) (λ e. rw e)
      (λ c.
      let g = forward at h c in
      rw (c, same n k (next_token m limit text at).end.offset r.inside (omega arith) (omega arith)))

  module _ (at : ℕ) (h : at ≤ length text) where
    pub to_end : ends (next_token m limit text at) ≡ true → tokens_to ends m limit text at ≡ next_token m limit text at ∷ []
    unfolding tokens_to tokens_for and_then
    to_end e = rw e

    pub to_more : ends (next_token m limit text at) ≡ false
        → tokens_to ends m limit text at ≡ next_token m limit text at ∷ tokens_to ends m limit text (next_token m limit text at).end.offset
    unfolding tokens_to tokens_for and_then
    to_more c =
        let r = reads m limit text at h in
        let e = (next_token m limit text at).end.offset in
        let g = forward at h c in
        rw (c, same (length text - at) (suc (length text - e)) e r.inside (omega arith) (omega arith))

    -- there is a first
    pub to_head : (ts : List Token) × (tokens_to ends m limit text at ≡ next_token m limit text at ∷ ts)
    unfolding tokens_to tokens_for and_then
    to_head = (_, refl)

  -- what holds of a last token alone, and of a token before tokens of which it holds, holds of all tokens from an offset on
  module _ (P : ℕ → List Token → Type 0)
      (last : (at : ℕ) → at ≤ length text → ends (next_token m limit text at) ≡ true → P at (next_token m limit text at ∷ []))
      (more : (at : ℕ) (ts : List Token) → at ≤ length text → ends (next_token m limit text at) ≡ false
      → P (next_token m limit text at).end.offset ts → P at (next_token m limit text at ∷ ts)) where
    by_bound : (n at : ℕ) → at ≤ length text → length text - at < n → P at (tokens_to ends m limit text at)
    by_bound zero at h l = absurd (omega arith)
    by_bound (suc n) at h l =
        let r = reads m limit text at h in
        by_cases (ends (next_token m limit text at)) (λ e. rw (to_end at h e) (last at h e))
        (λ c.
        let g = forward at h c in
        rw (to_more at h c) (more at _ h c (by_bound n (next_token m limit text at).end.offset r.inside (omega arith))))

    pub by_tokens_to : (at : ℕ) → at ≤ length text → P at (tokens_to ends m limit text at)
    by_tokens_to at h = by_bound (suc (length text)) at h (omega arith)

-- ---- to the Eof

eof_is : (t : Token) → IsEof t.kind → eof_token t ≡ true
eof_is t e = eq-eqb _ _ e

module _ (m : Reading) (limit : ℕ) (text : List ℕ) where
  module _ (at : ℕ) (h : at ≤ length text) where
    pub from_eof : IsEof (next_token m limit text at).kind → tokens_from m limit text at ≡ next_token m limit text at ∷ []
    from_eof e = to_end eof_token eof_is m limit text at h (eq-eqb _ _ e)

    pub from_more : (IsEof (next_token m limit text at).kind → ⊥)
        → tokens_from m limit text at ≡ next_token m limit text at ∷ tokens_from m limit text (next_token m limit text at).end.offset
    from_more c = to_more eof_token eof_is m limit text at h (ne_eqb _ _ c)

    pub from_head : (ts : List Token) × (tokens_from m limit text at ≡ next_token m limit text at ∷ ts)
    from_head = to_head eof_token eof_is m limit text at h

  module _ (P : ℕ → List Token → Type 0) where
    pub by_tokens : ((at : ℕ) → at ≤ length text → IsEof (next_token m limit text at).kind → P at (next_token m limit text at ∷ []))
        → ((at : ℕ) (ts : List Token) → at ≤ length text → (IsEof (next_token m limit text at).kind → ⊥)
        → P (next_token m limit text at).end.offset ts → P at (next_token m limit text at ∷ ts))
        → (at : ℕ) → at ≤ length text → P at (tokens_from m limit text at)
    by_tokens eof more =
        by_tokens_to eof_token eof_is m limit text P (λ at h e. eof at h (eqb-true _ _ e)) (λ at ts h e. more at ts h (eqb-false _ _ e))

    -- the same where the Eof is as any other token before those of which it holds: at the end of the text, of none
    pub by_each : P (length text) []
        → ((at : ℕ) (t : Token) (ts : List Token) → Read m limit text at t → P t.end.offset ts → P at (t ∷ ts))
        → (at : ℕ) → at ≤ length text → P at (tokens_from m limit text at)
    by_each none each =
        by_tokens (λ at h e. let r = reads m limit text at h in each at _ [] r (rw (r.eof_end e) none))
        (λ at ts h c. each at _ ts (reads m limit text at h))
