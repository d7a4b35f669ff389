-- For `zeros` and `unit_size`: the place of the first byte that a test finds is the end of the run of the others. By induction on the list. Assumes nothing.
use Rattle.std.proofs.Common.{◌≡◌, ℕ, Bool, not, cond, Option, Some, None, ltb, ltb-false, List, [], ◌∷◌, length, refl, zero-add, arith, unwrap_or}
use Rattle.std.specs.List.{position_or_len}
use Rattle.base.specs.Runs.{run, reach}
use Rattle.base.proofs.Tests.{by_cases}
use Rattle.base.proofs.Reaches.{run_le}

module _ (p : ℕ → ℕ → Bool) (t : ℕ → Bool) (same : (a b : ℕ) → p a b ≡ not (t a)) where
  first_is : (s : List ℕ) → run p s ≡ position_or_len t s
  unfolding run
  first_is [] = refl
  first_is (a ∷ s) = by_cases (t a) (λ e. rw (same, e)) (λ e. rw (same, e, first_is s) (omega arith))

  -- r: that place, or none where there is no such byte
  pub found_end : (s : List ℕ) (r : Option ℕ) → r ≡ cond (ltb (position_or_len t s) (length s)) (Some (position_or_len t s)) None
      → unwrap_or r (length s) ≡ reach p s 0
  unfolding reach
  found_end s r e =
      rw (e, ← first_is s)
      (by_cases (ltb (run p s) (length s)) (λ q. rw (q, zero-add)) (λ q. rw q (let l = ltb-false _ _ q in omega (arith, run_le p s))))
