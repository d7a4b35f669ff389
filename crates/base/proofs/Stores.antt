-- For `store`, `copy` and the crates that write to a lent buffer: stores into lists, one element after the other. Two runs of stores are one, also where the
-- second stores the end of the first again, and a copy is a run of stores. By induction on the values. Assumes nothing.
use mathlib.Core.Path.{◌≡◌, refl, sym, ap, ◌∙◌}
use mathlib.Core.List.{List, [], ◌∷◌, ◌++◌, append-nil}
use Prim.Native.Nat.{ℕ, zero, suc, ◌+◌, ◌≤◌, ◌<◌, ◌-◌}
use native.Mathlib.Nat.{add-zero, zero-add, add-suc, suc-add}
use native.Mathlib.Omega.{arith}
use lib.ListN.{length, set, take, drop}
use lib.Seq.{sets, sets-eq, set-set, set_comm, length-take-le, take-add, take-take, drop-length}
use Rattle.base.specs.Buffers.{overlay}

module _ {A : Type 0} where
  -- two runs of stores are one
  pub sets_append : (l : List A) (i : ℕ) (vs ws : List A) → sets l i (vs ++ ws) ≡ sets (sets l i vs) (i + length vs) ws
  sets_append l i [] ws = rw add-zero
  sets_append l i (v ∷ vs) ws =
      sets_append (set l i v) (suc i) vs ws
      ∙ ap (λ (k : ℕ). sets (sets (set l i v) (suc i) vs) k ws) (suc-add i (length vs) ∙ sym (add-suc i (length vs)))

  -- a run of stores from the front is the values, and then the rest as it was
  pub overlaid : (vs l : List A) → length vs ≤ length l → sets l 0 vs ≡ overlay vs l
  overlaid vs l h = sets-eq vs l 0 (omega arith) ∙ simp zero-add

  -- as many values as the list has are all that it holds after
  pub overlaid_all : (vs l : List A) → length vs ≡ length l → sets l 0 vs ≡ vs
  overlaid_all vs l h = overlaid vs l (omega arith) ∙ rw (h, drop-length l) (append-nil vs)

  -- a store comes before or after a run of stores past its index
  set_sets : (l : List A) (i j : ℕ) (v : A) (vs : List A) → i < j → set (sets l j vs) i v ≡ sets (set l i v) j vs
  set_sets l i j v [] h = refl
  set_sets l i j v (w ∷ vs) h =
      set_sets (set l j w) i (suc j) v vs (omega arith) ∙ rw (set_comm l j i w v (λ e. omega arith))

  -- values stored over their own front
  pub sets_again : (l : List A) (i k : ℕ) (vs : List A) → sets (sets l i (take k vs)) i vs ≡ sets l i vs
  sets_again l i zero vs = refl
  sets_again l i (suc k) [] = refl
  sets_again l i (suc k) (v ∷ vs) =
      rw (set_sets (set l i v) i (suc i) v (take k vs) (omega arith), set-set l i v v) (sets_again (set l i v) (suc i) k vs)

  -- a front of the values and those that follow it
  sets_front : (l : List A) (i : ℕ) (vs : List A) (j n : ℕ) → j ≤ length vs
      → sets l i (take (j + n) vs) ≡ sets (sets l i (take j vs)) (i + j) (take n (drop j vs))
  sets_front l i vs j n h = rw (take-add j n vs) (rw (length-take-le j vs h) at (sets_append l i (take j vs) (take n (drop j vs))))

  -- a front of k values, then n of them from the j-th on, some of which are stored again
  pub sets_part : (l : List A) (i : ℕ) (vs : List A) (j k n : ℕ) → j ≤ k → k ≤ j + n → j ≤ length vs
      → sets (sets l i (take k vs)) (i + j) (take n (drop j vs)) ≡ sets l i (take (j + n) vs)
  sets_part l i vs j k n g h r =
      let e : j + (k - j) ≡ k = omega arith in
      let f : sets l i (take k vs) ≡ sets (sets l i (take j vs)) (i + j) (take (k - j) (drop j vs)) = rw e at (sets_front l i vs j (k - j) r) in
      let t : take (k - j) (take n (drop j vs)) ≡ take (k - j) (drop j vs) = take-take (k - j) n (drop j vs) (omega arith) in
      rw f (rw t at (sets_again (sets l i (take j vs)) (i + j) (k - j) (take n (drop j vs)))) ∙ sym (sets_front l i vs j n r)

-- a list is another one with values stored from an index on
pub record Stored {A : Type 0} (l : List A) (i : ℕ) (vs l' : List A) : Type 0 where
  pub is : l' ≡ sets l i vs

-- two runs of stores, the second from the end of the first
pub stored_then : {A : Type 0} {l l₁ l₂ : List A} {i j : ℕ} {vs ws : List A} → Stored l i vs l₁ → j ≡ i + length vs → Stored l₁ j ws l₂
    → Stored l i (vs ++ ws) l₂
stored_then {l = l} {i = i} {vs = vs} {ws = ws} p e q = record { is = q.is ∙ rw (e, p.is) (sym (sets_append l i vs ws)) }

-- a list of no elements is empty
pub empty : {A : Type 0} (l : List A) → length l ≡ 0 → l ≡ []
empty [] e = refl
empty (a ∷ l) e = absurd (omega arith)
