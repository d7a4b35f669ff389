-- For `signed`, `unsigned_run` and `parse`: the finished sum under its sign, and the run after its sign, by the patterns of the code. By cases on the
-- list. Assumes nothing.
use Rattle.std.proofs.Common.{◌≡◌, ℕ, suc, ◌<◌, ◌≤◌, Bool, true, false, ◌&&◌, Some, None, Result, Ok, Err, eqb, ltb, List, [], ◌∷◌, length, drop, ℤ, pos, ◌-ℤ◌, refl, ap, ◌∙◌, arith, ne_eqb, eqb-true, ltb-true, ltb-false, w64}
use Rattle.std.specs.Result.{OkIff, result_ok}
use Rattle.std.proofs.lemmas.Int.{ints}
use mir.Val.{SFits}
use Rattle.base.specs.Choice.{pick}
use Rattle.base.specs.Bytes.{byte, same_bytes}
use Rattle.base.proofs.Tests.{by_cases, and-true, and-false}
use Rattle.go_duration.specs.Fraction.{most}
use Rattle.go_duration.specs.Parse.{sum_from, sign_of, with_sign, unsigned, parse_of}
use Rattle.go_duration.specs.Stages.{parse_unsigned}
use Rattle.std.proofs.lemmas.Bool.Decides.{nat_tests}
use Rattle.go_duration.proofs.WrittenRuns.{sum_fits}

-- ---- the sign: a 64-bit number holds what `with_sign` gives
under_minus : (d : ℕ) → d ≤ most → SFits w64 (pos 0 -ℤ pos d)
under_minus d h = omega (arith, ints)

below_most : (d : ℕ) → d < most → SFits w64 (pos d)
below_most d h = omega (arith, ints)

not_most : (d : ℕ) → most ≤ d → SFits w64 (pos d) → ⊥
not_most d h f = omega (arith, ints)

pub signed_is : {E : Type 0} (neg : Bool) (d : ℕ) → d ≤ most → (z : ℤ) → z ≡ sign_of neg d → (r : Result ℤ E) → OkIff r (SFits w64 z) z
    → result_ok r ≡ with_sign neg (Some d)
unfolding with_sign
signed_is true d h z e (Ok x) o = ap Some (o.1 ∙ e)
signed_is true d h z e (Err x) o = absurd (o (rw e (under_minus d h)))
signed_is false d h z e (Ok x) o =
    by_cases (ltb d most) (λ q. rw q (ap Some (o.1 ∙ e))) (λ q. absurd (not_most d (ltb-false d most q) (rw e at o.0)))
signed_is false d h z e (Err x) o =
    by_cases (ltb d most) (λ q. absurd (o (rw e (below_most d (ltb-true d most q))))) (λ q. rw q)

-- ---- the run after its sign: a byte's list is told by its length and its byte
same_one : (s : List ℕ) (b : ℕ) → same_bytes s (b ∷ []) ≡ eqb (length s) 1 && eqb (byte s 0) b
unfolding same_bytes
same_one [] b = refl
same_one (a ∷ []) b = and-true (eqb a b)
same_one (a ∷ c ∷ s) b = simp (and-false, ne_eqb (suc (suc (length s))) 1 (λ e. omega arith))

module _ (neg : Bool) (s : List ℕ) where
  pub run_empty : length s ≡ 0 → None ≡ parse_unsigned neg s
  unfolding parse_unsigned
  run_empty e = rw (same_one, e)

  pub run_zero : length s ≡ 1 → byte s 0 ≡ 48 → Some (pos 0) ≡ parse_unsigned neg s
  unfolding parse_unsigned
  run_zero e b = rw (same_one, e, b)

  pub run_sum : (length s ≡ 0 → ⊥) → (length s ≡ 1 → byte s 0 ≡ 48 → ⊥) → with_sign neg (sum_from 0 0 s) ≡ parse_unsigned neg s
  unfolding parse_unsigned
  run_sum z e =
      rw (same_one, ne_eqb (length s) 0 z)
      (by_cases (eqb (length s) 1) (λ p. rw (p, ne_eqb (byte s 0) 48 (e (eqb-true (length s) 1 p)))) (λ p. rw p))

-- ---- the sign
module _ (run : List ℕ) where
  pub run_signed : (neg : Bool) → byte run 0 ≡ pick neg 45 43 → parse_unsigned neg (drop 1 run) ≡ parse_of run
  unfolding parse_of parse_unsigned unsigned
  run_signed true e = rw e
  run_signed false e = rw e

  pub run_plain : (byte run 0 ≡ 45 → ⊥) → (byte run 0 ≡ 43 → ⊥) → parse_unsigned false run ≡ parse_of run
  unfolding parse_of parse_unsigned unsigned
  run_plain m p = rw (ne_eqb (byte run 0) 45 m, ne_eqb (byte run 0) 43 p)

pub run_none : (run : List ℕ) → length run < 1 → parse_unsigned false run ≡ parse_of run
run_none [] h = run_plain [] (λ e. omega arith) (λ e. omega arith)
run_none (b ∷ run) h = absurd (omega arith)

-- what `parse` needs at each return, and `unsigned_run`
pub ruleset signs = (run_plain, run_none, nat_tests)

pub ruleset runs = (run_empty, run_zero, sum_fits)
