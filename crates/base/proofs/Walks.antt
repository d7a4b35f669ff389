-- For utf8 and scan: runs of pieces, such as characters. Where a piece stands at i, the run from its end has the same end. By induction on
-- the rest. Assumes nothing.
use mathlib.Core.Path.{◌≡◌, ap, ◌∙◌}
use mathlib.Core.List.{List, [], ◌∷◌}
use Prim.Native.Nat.{ℕ, zero, suc, ◌+◌, ◌-◌, ◌≤◌, ◌<◌, zero-le, suc-le-suc}
use native.Mathlib.Nat.{le_of_suc-le-suc, not-suc-le-zero}
use native.Mathlib.Numerals.{sub-one}
use native.Mathlib.Omega.{arith}
use lib.Dec.{eqb, eqb-suc-zero}
use lib.ListN.{length, drop, length-drop, drop_of_length-le}
use lib.Seq.{drop-cons, drop-drop}
use Rattle.base.specs.Bytes.{byte}
use Rattle.base.specs.Runs.{walk, past}
use Rattle.base.proofs.Tests.{pick_le}

skip : (f : List ℕ → ℕ) (k : ℕ) (s : List ℕ) → k ≤ length s → walk f k s ≡ k + walk f 0 (drop k s)
unfolding walk
skip f zero s h = omega arith
skip f (suc k) [] h = absurd (not-suc-le-zero h)
skip f (suc k) (a ∷ s) h = omega (arith, skip f k s (le_of_suc-le-suc h))

walk_le : (f : List ℕ → ℕ) (k : ℕ) (s : List ℕ) → walk f k s ≤ length s
unfolding walk
walk_le f k [] = zero-le
walk_le f zero (a ∷ s) = pick_le (eqb (f (a ∷ s)) 0) zero-le (suc-le-suc (walk_le f (f (a ∷ s) - 1) s))
walk_le f (suc k) (a ∷ s) = suc-le-suc (walk_le f k s)

module _ (f : List ℕ → ℕ) (s : List ℕ) (i : ℕ) where
  walk_at : (k : ℕ) → i < length s → f (drop i s) ≡ suc k → walk f 0 (drop i s) ≡ suc (walk f k (drop (suc i) s))
  unfolding walk
  walk_at k h e =
      let q = drop-cons s i 0 h in
      let g : f (byte s i ∷ drop (suc i) s) ≡ suc k = rw q at e in
      rw (q, g, eqb-suc-zero, sub-one)

  -- where a piece of k + 1 bytes stands at i, the run from its end has the same end
  pub past_step : (k : ℕ) → i + suc k ≤ length s → f (drop i s) ≡ suc k → past f s (i + suc k) ≡ past f s i
  unfolding past
  past_step k h e =
      let a = walk_at k (omega arith) e in
      let b = skip f k (drop (suc i) s) (omega (arith, length-drop (suc i) s)) in
      let n : suc i + k ≡ i + suc k = omega arith in
      let d : drop k (drop (suc i) s) ≡ drop (i + suc k) s = drop-drop k (suc i) s ∙ ap (λ (m : ℕ). drop m s) n in
      let w = ap (walk f 0) d in
      omega arith

  pub past_stop : i < length s → f (drop i s) ≡ 0 → past f s i ≡ i
  unfolding past walk
  past_stop h e =
      let q = drop-cons s i 0 h in
      let g : f (byte s i ∷ drop (suc i) s) ≡ 0 = rw q at e in
      let w : walk f 0 (drop i s) ≡ 0 = rw (q, g) in
      omega arith

  pub past_end : length s ≤ i → past f s i ≡ i
  unfolding past walk
  past_end h =
      let w : walk f 0 (drop i s) ≡ 0 = rw (drop_of_length-le s h) in
      omega arith

  pub past_le : i ≤ length s → past f s i ≤ length s
  unfolding past
  past_le h = omega (arith, walk_le f 0 (drop i s), length-drop i s)

  pub past_ge : i ≤ past f s i
  unfolding past
  past_ge = omega arith
