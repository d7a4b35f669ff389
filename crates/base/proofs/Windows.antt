-- For `window_count` and `past_window`: the first byte of a window that is not in a run, searched by the least index, and runs a window at a time.
-- By cases on the two tests of a turn. Assumes nothing.
use mathlib.Core.Path.{◌≡◌, refl, ◌∙◌}
use mathlib.Core.Bool.{Bool, true, false}
use mathlib.Core.List.{List}
use Prim.Native.Nat.{ℕ, zero, suc, ◌+◌, ◌-◌, ◌≤◌, ◌<◌, min}
use native.Mathlib.Nat.{add-zero, add_assoc}
use native.Mathlib.Omega.{arith}
use borrow.Author.Tests.{lt-ltb, le-ltb, ltb-true, ltb-false}
use lib.Dec.{ltb}
use lib.ListN.{length, take, drop}
use lib.Seq.{get_or-take, get_or-drop}
use Rattle.base.specs.Choice.{pick}
use Rattle.base.specs.Bytes.{byte}
use Rattle.base.specs.Runs.{run, reach}
use Rattle.base.specs.Blocks.{window_run, Ahead}
use Rattle.base.proofs.Tests.{by_cases, true_false}
use Rattle.base.proofs.Reaches.{run_fails, run_all, reach_step}

module _ (p : ℕ → ℕ → Bool) (s : List ℕ) (n : ℕ) where
  -- what the search of n bytes has found before the byte at j: where the run ends, or n if it is not ended yet
  abbrev pub Searched : ℕ → ℕ → Type 0
  Searched j m = m ≡ pick (ltb (run p s) j) (run p s) n

  pub searched_first : Searched 0 n
  searched_first = rw (le-ltb (run p s) 0 (omega arith))

  over : (w : ℕ) → {j : ℕ} → j ≤ w → (w ≡ j → ⊥) → j + 1 ≤ w
  over w h n = omega (arith, n)

  same : (w : ℕ) → {j : ℕ} → j ≤ w → (j < w → ⊥) → w ≡ j
  same w h n = omega (arith, n)

  pub searched_turn : (j m k : ℕ) → n ≤ length s → j < n → Searched j m → pick (p (byte s j) (byte s (j + 1))) n j ≡ k → Searched (j + 1) (min m k)
  searched_turn j m k l h u v = rw (u, ← v) (go (ltb w j) refl (p (byte s j) (byte s (j + 1))) refl)
    where
      w : ℕ
      w = run p s

      go : (x : Bool) → ltb w j ≡ x → (b : Bool) → p (byte s j) (byte s (j + 1)) ≡ b → min (pick x w n) (pick b n j) ≡ pick (ltb w (j + 1)) w n
      go true e true f = rw (lt-ltb w (j + 1) (omega (arith, ltb-true w j e))) (omega (arith, ltb-true w j e))
      go true e false f = rw (lt-ltb w (j + 1) (omega (arith, ltb-true w j e))) (omega (arith, ltb-true w j e))
      go false e true f =
          let z : (w ≡ j → ⊥) = λ q. true_false (p (byte s j) (byte s (j + 1))) f (rw q at (run_fails p s (omega arith))) in
          rw (le-ltb w (j + 1) (over w (ltb-false w j e) z)) (omega arith)
      go false e false f =
          let z : (j < w → ⊥) = λ q. true_false (p (byte s j) (byte s (j + 1))) (run_all p s j q) f in
          rw (same w (ltb-false w j e) z, lt-ltb j (j + 1) (omega arith)) (omega arith)

  -- at the end of the n bytes, or after it where the run ends within them
  pub searched_end : (j m : ℕ) → n ≤ j → (run p s < j → run p s ≤ n) → Searched j m → m ≡ min (run p s) n
  searched_end j m h k u =
      let w : ℕ = run p s in
      u ∙ by_cases (ltb w j) (λ e. rw e (omega (arith, k (ltb-true w j e)))) (λ e. rw e (omega (arith, ltb-false w j e)))

-- the bytes of a window, the first `window_run` of them, stay in the run
module _ (p : ℕ → ℕ → Bool) (s : List ℕ) (i : ℕ) (l : 64 < length s - i) where
  window : List ℕ
  window = take 65 (drop i s)

  in_window : (k : ℕ) → k < 65 → byte window k ≡ byte s (i + k)
  unfolding window
  in_window k h = get_or-take 65 (drop i s) k 0 h ∙ get_or-drop i s k 0

  steps : (n : ℕ) → n ≤ 64 → n ≤ run p window → reach p s (i + n) ≡ reach p s i
  steps zero h f = rw (add-zero i)
  steps (suc n) h f =
      let q : i + suc n ≡ i + n + 1 = omega arith in
      let a : byte window n ≡ byte s (i + n) = in_window n (omega arith) in
      let b : byte window (n + 1) ≡ byte s (i + n + 1) = rw (add_assoc i n 1) (in_window (n + 1) (omega arith)) in
      let o : p (byte s (i + n)) (byte s (i + n + 1)) ≡ true = rw (a, b) at (run_all p window n f) in
      rw q (reach_step p s (i + n) (omega arith) o ∙ steps n (omega arith) (omega arith))

  pub ahead_window : (at n : ℕ) → Ahead p s at i → n ≡ window_run p (take 65 (drop i s)) → Ahead p s at (i + n)
  unfolding window window_run
  ahead_window at n u f =
      let h : n ≤ 64 = rw f (omega arith) in
      let g : n ≤ run p window = rw f (omega arith) in
      record { later = omega (arith, u.later); inside = omega arith; same = steps n h g ∙ u.same }
