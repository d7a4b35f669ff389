-- For `at_quotes`, `find_quotes` and the laws of the whole: three quotes, the search for them, and what stands where it ends. By induction on the
-- rest of the text. Assumes nothing.
use mathlib.Core.Path.{◌≡◌, refl, ap, sym, ◌∙◌}
use mathlib.Core.Bool.{Bool, true, false, ◌&&◌, and-true}
use mathlib.Core.List.{List, [], ◌∷◌}
use Prim.Native.Nat.{ℕ, suc, ◌+◌, ◌-◌, ◌≤◌, ◌<◌}
use native.Mathlib.Omega.{arith}
use borrow.Author.Tests.{eqb-true, eq-eqb, ne_eqb}
use lib.Dec.{eqb}
use Rattle.std.specs.List.{starts_with}
use lib.ListN.{length, take, drop, length-drop, get_or-eq_default}
use lib.Seq.{drop-cons, get_or-drop}
use Rattle.base.specs.Choice.{pick}
use Rattle.base.specs.Bytes.{byte}
use Rattle.base.proofs.Tests.{and_left, and_right, and-false, by_cases, true_false, in_text, pick_le}
use Rattle.base.proofs.Reaches.{rest_is}
use Rattle.triple_strings.specs.Triple.{quotes, until_quotes}

-- ---- `quotes`

module _ (t : List ℕ) where
  -- another byte among the three
  pub no_quote_0 : (byte t 0 ≡ 0x22 → ⊥) → quotes t ≡ false
  unfolding quotes
  no_quote_0 e = simp (ne_eqb (byte t 0) 0x22 e)

  pub no_quote_1 : (byte t 1 ≡ 0x22 → ⊥) → quotes t ≡ false
  unfolding quotes
  no_quote_1 e = simp (ne_eqb (byte t 1) 0x22 e, and-false)

  pub no_quote_2 : (byte t 2 ≡ 0x22 → ⊥) → quotes t ≡ false
  unfolding quotes
  no_quote_2 e = simp (ne_eqb (byte t 2) 0x22 e, and-false)

  pub quotes_short : length t < 3 → quotes t ≡ false
  quotes_short h =
      let z : byte t 2 ≡ 0 = get_or-eq_default t 0 {n = 2} (omega arith) in
      no_quote_2 (λ e. omega arith)

  module _ (h : quotes t ≡ true) where
    late : eqb (byte t 1) 0x22 && eqb (byte t 2) 0x22 ≡ true
    unfolding quotes
    late = and_right (eqb (byte t 0) 0x22) (eqb (byte t 1) 0x22 && eqb (byte t 2) 0x22) h

    pub quote_0 : byte t 0 ≡ 0x22
    unfolding quotes
    quote_0 = eqb-true (byte t 0) 0x22 (and_left (eqb (byte t 0) 0x22) (eqb (byte t 1) 0x22 && eqb (byte t 2) 0x22) h)

    pub quote_1 : byte t 1 ≡ 0x22
    quote_1 = eqb-true (byte t 1) 0x22 (and_left (eqb (byte t 1) 0x22) (eqb (byte t 2) 0x22) late)

    pub quote_2 : byte t 2 ≡ 0x22
    quote_2 = eqb-true (byte t 2) 0x22 (and_right (eqb (byte t 1) 0x22) (eqb (byte t 2) 0x22) late)

    pub quotes_long : 3 ≤ length t
    quotes_long = in_text (λ x. eqb x 0x22) t 2 refl (and_right (eqb (byte t 1) 0x22) (eqb (byte t 2) 0x22) late)

-- ---- `until_quotes`

pub until_le : (t : List ℕ) → until_quotes t ≤ length t
unfolding until_quotes
until_le [] = omega arith
until_le (x ∷ t) = let l = until_le t in pick_le (quotes (x ∷ t)) (omega arith) (omega arith)

-- where it ends before the text does, three quotes stand
pub until_found : (t : List ℕ) → until_quotes t < length t → quotes (drop (until_quotes t) t) ≡ true
unfolding until_quotes
until_found [] h = absurd (omega arith)
until_found (x ∷ t) h = go (quotes (x ∷ t)) refl h (until_found t)
  where
    go : (b : Bool) → quotes (x ∷ t) ≡ b → pick b 0 (suc (until_quotes t)) < suc (length t)
        → (until_quotes t < length t → quotes (drop (until_quotes t) t) ≡ true) → quotes (drop (pick b 0 (suc (until_quotes t))) (x ∷ t)) ≡ true
    go true e l ih = e
    go false e l ih = ih (omega arith)

until_cons : (x : ℕ) (t : List ℕ) → quotes (x ∷ t) ≡ false → until_quotes (x ∷ t) ≡ suc (until_quotes t)
unfolding until_quotes
until_cons x t e = rw e

until_short : (t : List ℕ) → length t ≤ 2 → until_quotes t ≡ length t
until_short [] h = let l = until_le [] in omega arith
until_short (x ∷ t) h = until_cons x t (quotes_short (x ∷ t) (omega arith)) ∙ ap suc (until_short t (omega arith))

pub turned : (a b : ℕ) → eqb a b ≡ eqb b a
turned a b = by_cases (eqb b a) (λ e. rw e (eq-eqb a b (sym (eqb-true b a e)))) (λ e. rw e (ne_eqb a b (λ q. true_false (eqb b a) (eq-eqb b a (sym q)) e)))

-- the library's test of the front of a slice
pub starts_quotes : (t : List ℕ) → starts_with eqb t (0x22 ∷ 0x22 ∷ 0x22 ∷ []) ≡ quotes t
unfolding quotes
starts_quotes [] = refl
starts_quotes (a ∷ []) = rw (turned 0x22 a)
starts_quotes (a ∷ b ∷ []) = rw (turned 0x22 a, turned 0x22 b)
starts_quotes (a ∷ b ∷ c ∷ t) = rw (turned 0x22 a, turned 0x22 b, turned 0x22 c, and-true)

-- ---- `find_quotes` at i: no three quotes before it

pub record Finding (t : List ℕ) (i : ℕ) : Type 0 where
  pub inside : i ≤ length t
  pub is : until_quotes t ≡ i + until_quotes (drop i t)

module _ (t : List ℕ) (i : ℕ) (u : Finding t i) where
  step : i < length t → quotes (drop i t) ≡ false → Finding t (suc i)
  step h e =
      let c : drop i t ≡ byte t i ∷ drop (suc i) t = drop-cons t i 0 h in
      let n : until_quotes (drop i t) ≡ suc (until_quotes (drop (suc i) t)) = rw c (until_cons (byte t i) (drop (suc i) t) (rw c at e)) in
      record { inside = h; is = omega (arith, u.is) }

  pub finding_end : length t - i ≤ 2 → length t ≡ until_quotes t
  finding_end h = omega (arith, u.is, u.inside, until_short (drop i t) (omega (arith, length-drop i t)), length-drop i t)

  module _ (h : 2 < length t - i) where
    module _ (b : Bool) (e : b ≡ quotes (take (length t - i) (drop i t))) where
      here : b ≡ quotes (drop i t)
      here = rw rest_is at e

      pub finding_here : b ≡ true → i ≡ until_quotes t
      unfolding until_quotes
      finding_here y =
          let c : drop i t ≡ byte t i ∷ drop (suc i) t = drop-cons t i 0 (omega arith) in
          let q : quotes (byte t i ∷ drop (suc i) t) ≡ true = rw c at (sym here ∙ y) in
          let z : until_quotes (drop i t) ≡ 0 = rw (c, q) in
          omega (arith, u.is)

      pub finding_on : b ≡ false → Finding t (i + 1)
      finding_on n =
          let z : i + 1 ≡ suc i = omega arith in
          rw z (step (omega arith) (sym here ∙ n))

-- a byte that is no quote rules out three starts
pub finding_over : (t : List ℕ) (i : ℕ) → Finding t i → 2 < length t - i → (byte t (i + 2) ≡ 0x22 → ⊥) → Finding t (i + 3)
finding_over t i u h e =
    let z : i + 3 ≡ suc (suc (suc i)) = omega arith in
    let one : suc i + 1 ≡ i + 2 = omega arith in
    let none : suc (suc i) + 0 ≡ i + 2 = omega arith in
    let v = step t i u (omega arith) (no_quote_2 (drop i t) (rw get_or-drop e)) in
    let w = step t (suc i) v (omega arith) (no_quote_1 (drop (suc i) t) (rw (get_or-drop, one) e)) in
    rw z (step t (suc (suc i)) w (omega arith) (no_quote_0 (drop (suc (suc i)) t) (rw (get_or-drop, none) e)))

-- what `find_quotes` needs at each turn and each return
pub ruleset finding = (finding_here, finding_on, finding_over, finding_end)
