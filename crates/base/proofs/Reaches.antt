-- For every loop along a run of bytes, in all crates: an index into the text against the rest that starts there. By induction on the rest. Assumes nothing.
use mathlib.Core.Path.{◌≡◌, refl, sym, ◌∙◌}
use mathlib.Core.Bool.{Bool, true, false}
use mathlib.Core.List.{List, [], ◌∷◌}
use Prim.Native.Nat.{ℕ, zero, suc, ◌+◌, ◌-◌, ◌≤◌, ◌<◌, zero-le, suc-le-suc}
use native.Mathlib.Nat.{add-zero, zero-add, le_of_suc-le-suc, not-suc-le-zero, add_assoc}
use native.Mathlib.Numerals.{add-one}
use native.Mathlib.Omega.{arith}
use lib.ListN.{length, take, drop, length-drop, drop_of_length-le}
use lib.Seq.{drop-cons, get_or-drop, take_all}
use Rattle.base.specs.Choice.{pick}
use Rattle.base.specs.Bytes.{byte}
use Rattle.base.specs.Runs.{run, reach}
use Rattle.base.proofs.Tests.{by_cases, pick_le}

module _ (p : ℕ → ℕ → Bool) where
  pub run_le : (s : List ℕ) → run p s ≤ length s
  unfolding run
  run_le [] = zero-le
  run_le (a ∷ s) = pick_le (p a (byte s 0)) (suc-le-suc (run_le s)) zero-le

module _ (p : ℕ → ℕ → Bool) (s : List ℕ) (i : ℕ) where
  -- the rest from i, as a byte and the rest from i + 1
  cut : i < length s → drop i s ≡ byte s i ∷ drop (i + 1) s
  cut h = rw (add-one, drop-cons s i 0)

  next_byte : byte (drop (i + 1) s) 0 ≡ byte s (i + 1)
  next_byte = rw (get_or-drop, add-zero)

  -- where the byte at i passes, the run from i + 1 has the same end
  pub reach_step : i < length s → p (byte s i) (byte s (i + 1)) ≡ true → reach p s (i + 1) ≡ reach p s i
  unfolding reach run
  reach_step h e =
      let q : run p (drop i s) ≡ suc (run p (drop (i + 1) s)) = rw (cut h, next_byte, e) in
      omega arith

  -- where it fails, the run from i ends
  pub reach_stop : i < length s → p (byte s i) (byte s (i + 1)) ≡ false → reach p s i ≡ i
  unfolding reach run
  reach_stop h e =
      let q : run p (drop i s) ≡ 0 = rw (cut h, next_byte, e) in
      omega arith

  -- and so it does at the end of the text
  pub reach_end : length s ≤ i → reach p s i ≡ i
  unfolding reach run
  reach_end h =
      let q : run p (drop i s) ≡ 0 = rw (drop_of_length-le s h) in
      omega arith

  -- a byte that passes is in the run
  pub reach_one : i < length s → p (byte s i) (byte s (i + 1)) ≡ true → i + 1 ≤ reach p s i
  unfolding reach
  reach_one h e = omega (arith, reach_step h e)

  pub reach_ge : i ≤ reach p s i
  unfolding reach
  reach_ge = omega arith

  pub reach_le : i ≤ length s → reach p s i ≤ length s
  unfolding reach
  reach_le h = omega (arith, run_le p (drop i s), length-drop i s)

-- a loop along a run: the run from i has the end n
module _ (p : ℕ → ℕ → Bool) (s : List ℕ) (i n : ℕ) (u : reach p s i ≡ n) where
  pub loop_step : i < length s → p (byte s i) (byte s (i + 1)) ≡ true → reach p s (i + 1) ≡ n
  loop_step h e = reach_step p s i h e ∙ u

  pub loop_stop : i < length s → p (byte s i) (byte s (i + 1)) ≡ false → i ≡ n
  loop_stop h e = sym (reach_stop p s i h e) ∙ u

  pub loop_end : length s ≤ i → i ≡ n
  loop_end h = sym (reach_end p s i h) ∙ u

-- where a run ends before the end of the text, the byte there fails
pub run_fails : (p : ℕ → ℕ → Bool) (s : List ℕ) → run p s < length s → p (byte s (run p s)) (byte s (run p s + 1)) ≡ false
unfolding run
run_fails p [] h = absurd (not-suc-le-zero h)
run_fails p (a ∷ s) h =
    by_cases (p a (byte s 0)) (λ q. rw (q, add-one (suc (run p s))) (rw add-one at (run_fails p s (le_of_suc-le-suc (rw q at h)))))
    (λ q. rw q q)

pub reach_fails : (p : ℕ → ℕ → Bool) (s : List ℕ) (i : ℕ) → reach p s i < length s
    → p (byte s (reach p s i)) (byte s (reach p s i + 1)) ≡ false
unfolding reach
reach_fails p s i h =
    let f = run_fails p (drop i s) (omega (arith, length-drop i s)) in
    rw (add_assoc, ← get_or-drop i s (run p (drop i s)) 0, ← get_or-drop i s (run p (drop i s) + 1) 0) f

-- a part of a slice from i to the end, as the code has it, is the rest from i
pub rest_is : (s : List ℕ) (i : ℕ) → take (length s - i) (drop i s) ≡ drop i s
rest_is s i = take_all (length s - i) (drop i s) (omega (arith, length-drop i s))

-- each byte of a run passes
pub run_all : (p : ℕ → ℕ → Bool) (s : List ℕ) (k : ℕ) → k < run p s → p (byte s k) (byte s (k + 1)) ≡ true
unfolding run
run_all p [] k h = absurd (not-suc-le-zero h)
run_all p (a ∷ s) k h = go (p a (byte s 0)) refl k h (run_all p s)
  where
    go : (b : Bool) → p a (byte s 0) ≡ b → (k : ℕ) → k < pick b (suc (run p s)) 0
        → ((j : ℕ) → j < run p s → p (byte s j) (byte s (j + 1)) ≡ true) → p (byte (a ∷ s) k) (byte (a ∷ s) (k + 1)) ≡ true
    go true q zero l ih = q
    go true q (suc k) l ih = rw (add-one (suc k)) (rw add-one at (ih k (le_of_suc-le-suc l)))
    go false q k l ih = absurd (not-suc-le-zero l)

pub reach_all : (p : ℕ → ℕ → Bool) (s : List ℕ) (i k : ℕ) → i ≤ k → k < reach p s i → p (byte s k) (byte s (k + 1)) ≡ true
unfolding reach
reach_all p s i k h l =
    let f = run_all p (drop i s) (k - i) (omega arith) in
    let e : i + (k - i) ≡ k = omega arith in
    let e' : i + (k - i + 1) ≡ k + 1 = omega arith in
    rw (get_or-drop i s (k - i) 0, get_or-drop i s (k - i + 1) 0, e, e') at f

-- a run from i, as that of the rest
pub reach_rest : (p : ℕ → ℕ → Bool) (s : List ℕ) (i : ℕ) → reach p s i ≡ i + reach p (drop i s) 0
unfolding reach
reach_rest p s i = rw (zero-add (run p (drop i s)))
