-- For `all`, `past_blocks` and `past_windows`: runs a block at a time. Bytes that all pass, each with the byte after it, stay in the run, by one byte after
-- the other. Assumes nothing.
use mathlib.Core.Path.{◌≡◌, refl, sym, ◌∙◌}
use mathlib.Core.Bool.{Bool, true, ◌&&◌, and_assoc, and-true}
use mathlib.Core.List.{List, [], ◌∷◌}
use Prim.Native.Nat.{ℕ, zero, suc, ◌+◌, ◌-◌, ◌≤◌, ◌<◌}
use native.Mathlib.Nat.{add-zero, le_of_suc-le-suc, not-suc-le-zero}
use native.Mathlib.Numerals.{add-one}
use native.Mathlib.Omega.{arith}
use lib.ListN.{length, take, drop, length-drop, drop_of_length-le}
use lib.Seq.{drop-cons}
use Rattle.base.specs.Bytes.{byte}
use Rattle.base.specs.Runs.{reach}
use Rattle.base.specs.Blocks.{all_pass, all_pairs, Ahead}
use Rattle.base.proofs.Reaches.{reach_step}
use Rattle.base.proofs.Tests.{and_left, and_right}

-- a loop over all bytes: what is passed and what is left make the whole
module _ (t : ℕ → Bool) (s : List ℕ) (all : Bool) (i : ℕ) (u : all && all_pass t (drop i s) ≡ all_pass t s) where
  pub all_turn : i < length s → (all && t (byte s i)) && all_pass t (drop (i + 1) s) ≡ all_pass t s
  unfolding all_pass
  all_turn h = rw (add-one i, and_assoc all (t (byte s i)) (all_pass t (drop (suc i) s))) (rw (drop-cons s i 0 h) at u)

  pub all_end : length s ≤ i → all ≡ all_pass t s
  unfolding all_pass
  all_end h = sym (and-true all) ∙ (rw (drop_of_length-le s h) at u)

-- one byte has no pair
short : (p : ℕ → ℕ → Bool) (s : List ℕ) → length s ≤ 1 → all_pairs p s ≡ true
unfolding all_pairs
short p [] h = refl
short p (a ∷ []) h = refl
short p (a ∷ b ∷ s) h = absurd (not-suc-le-zero (le_of_suc-le-suc h))

-- the same of pairs: the byte before i begins what is left
module _ (p : ℕ → ℕ → Bool) (s : List ℕ) (all : Bool) (i : ℕ) (u : all && all_pairs p (drop (i - 1) s) ≡ all_pairs p s) where
  pub pairs_turn : 0 < i → i < length s → (all && p (byte s (i - 1)) (byte s i)) && all_pairs p (drop (i + 1 - 1) s) ≡ all_pairs p s
  unfolding all_pairs
  pairs_turn g h =
      let a : suc (i - 1) ≡ i = omega arith in
      let b : i + 1 - 1 ≡ i = omega arith in
      let c : drop i s ≡ byte s i ∷ drop (suc i) s = drop-cons s i 0 h in
      let d : drop (i - 1) s ≡ byte s (i - 1) ∷ byte s i ∷ drop (suc i) s = drop-cons s (i - 1) 0 (omega arith) ∙ rw (a, c) in
      rw (b, c, and_assoc all (p (byte s (i - 1)) (byte s i)) (all_pairs p (byte s i ∷ drop (suc i) s))) (rw d at u)

  pub pairs_end : length s ≤ i → all ≡ all_pairs p s
  pairs_end h = sym (and-true all) ∙ (rw (short p (drop (i - 1) s) (omega (arith, length-drop (i - 1) s))) at u)

pub ahead_first : (p : ℕ → ℕ → Bool) (s : List ℕ) (i : ℕ) → i ≤ length s → Ahead p s i i
ahead_first p s i h = record { later = omega arith; inside = h; same = refl }

pub ahead_then : (p : ℕ → ℕ → Bool) (s : List ℕ) (i e r : ℕ) → Ahead p s i e → Ahead p s e r → Ahead p s i r
ahead_then p s i e r u v = record { later = omega (arith, u.later, v.later); inside = v.inside; same = v.same ∙ u.same }

-- pairs that all pass stay in the run
module _ (p : ℕ → ℕ → Bool) (s : List ℕ) where
  -- n bytes from i on, each with the one after it: what stays the same over one byte that passes stays so over all of them
  pub over_pairs : (g : ℕ → ℕ) → ((i : ℕ) → i + 1 < length s → p (byte s i) (byte s (i + 1)) ≡ true → g (i + 1) ≡ g i)
      → (n i : ℕ) → i + n < length s → all_pairs p (take (suc n) (drop i s)) ≡ true → g (i + n) ≡ g i
  unfolding all_pairs
  over_pairs g step zero i h e = rw (add-zero i)
  over_pairs g step (suc n) i h e =
      let l : suc i < length s = omega arith in
      let c : drop (suc i) s ≡ byte s (suc i) ∷ drop (suc (suc i)) s = drop-cons s (suc i) 0 l in
      let d : drop i s ≡ byte s i ∷ byte s (suc i) ∷ drop (suc (suc i)) s = drop-cons s i 0 (omega arith) ∙ rw c in
      let a : Bool = p (byte s i) (byte s (i + 1)) in
      let f : a && all_pairs p (take (suc n) (drop (i + 1) s)) ≡ true = rw (add-one i, c) (rw d at e) in
      let q : i + suc n ≡ i + 1 + n = omega arith in
      let o = and_left a (all_pairs p (take (suc n) (drop (i + 1) s))) f in
      rw q (over_pairs g step n (i + 1) (omega arith) (and_right a (all_pairs p (take (suc n) (drop (i + 1) s))) f) ∙ step i (omega arith) o)

  pub ahead_pairs : (at i n : ℕ) → Ahead p s at i → n < length s - i → (b : Bool) → b ≡ all_pairs p (take (i + n + 1 - i) (drop i s)) → b ≡ true
      → Ahead p s at (i + n)
  ahead_pairs at i n u h b e y =
      let z : i + n + 1 - i ≡ suc n = omega arith in
      let f : all_pairs p (take (suc n) (drop i s)) ≡ true = sym (rw z at e) ∙ y in
      let g = over_pairs (reach p s) (λ j l o. reach_step p s j (omega arith) o) n i (omega (arith, u.inside)) f in
      record { later = omega (arith, u.later); inside = omega (arith, u.inside); same = g ∙ u.same }
