-- For `scale_of`, `leading_fraction` and Distance: the scale step by step, what stays true of it once it holds, and that at each k below 36 it is near
-- 10 ^ k, at least 1 and at most 2 ^ 120, by one computed test. Assumes nothing.
use Rattle.std.proofs.Common.{◌≡◌, ℕ, zero, suc, ◌+◌, ◌*◌, ◌^◌, ◌<◌, ◌≤◌, Bool, false, ◌&&◌, T, leb, sym, refl, ap, ◌∙◌, inl, inr, le_of_suc-le-suc, eq-or-lt_of_le, add-one, arith, leb→le}
use lib.Ieee.{Float, inf, binary64, mul, of_bits}
use lib.Ieee.Positive.{num, den, positive}
use Rattle.base.proofs.Tables.{all, all_below}
use Rattle.base.proofs.Tests.{both_left, both_right}
use Rattle.go_duration.specs.Fraction.{scale_of, ten}
use Rattle.go_duration.proofs.FloatChain.{D, Close}

-- 10.0 as MIR has it, by its bit pattern
pub scale_step : (x : Float) (i : ℕ) → x ≡ scale_of i → mul binary64 x (of_bits binary64 0x4024_0000_0000_0000) ≡ scale_of (i + 1)
unfolding of_bits scale_of
scale_step x i e = rw (add-one, e)

-- ---- from n on
pub scale_from : (P : Float → Type 0) (n : ℕ) → P (scale_of n) → ((x : Float) → P x → P (mul binary64 x ten)) → (k : ℕ) → n ≤ k → P (scale_of k)
unfolding scale_of
scale_from P n h f zero l =
    let z : n ≡ 0 = omega arith in
    rw z at h
scale_from P n h f (suc k) l =
    elim (eq-or-lt_of_le l) [
      | inl e ↦ rw e at h
      | inr m ↦ f (scale_of k) (scale_from P n h f k (le_of_suc-le-suc m))
    ]

infinite_309 : scale_of 309 ≡ inf false
unfolding scale_of mul
infinite_309 = refl

infinite : (k : ℕ) → 309 ≤ k → scale_of k ≡ inf false
unfolding mul
infinite = scale_from (λ x. x ≡ inf false) 309 infinite_309 (λ x e. rw e)

pub scale_stays : (i k : ℕ) → i ≤ k → (i < k → 309 ≤ i) → scale_of i ≡ scale_of k
scale_stays i k h f =
    elim (eq-or-lt_of_le h) [
      | inl e ↦ ap scale_of e
      | inr m ↦ infinite i (f m) ∙ sym (infinite k (omega (arith, f m)))
    ]

-- ---- below 36
abbrev ok : Float → ℕ → Bool
ok x t =
    positive x
    && (leb (num x * 1 * D) (t * den x * (D + 1))
    && (leb (t * den x * D) (num x * 1 * (D + 1)) && (leb (den x) (num x) && leb (num x) (den x * 2 ^ 120))))

pub record Scale (x : Float) (t : ℕ) : Type 0 where
  pub above : T (positive x)
  pub near : Close 1 (num x) (den x) t 1
  pub least : den x ≤ num x
  pub top : num x ≤ den x * 2 ^ 120

ok→ : (x : Float) (t : ℕ) → T (ok x t) → Scale x t
ok→ x t h = search (both_left, both_right, leb→le)

unfoldable ok_at : ℕ → Bool
ok_at k = ok (scale_of k) (10 ^ k)

all_36 : T (all ok_at 36)
unfolding ok_at scale_of mul
all_36 = tt

pub scale_small : (k : ℕ) → k < 36 → Scale (scale_of k) (10 ^ k)
unfolding ok_at
scale_small k h = ok→ (scale_of k) (10 ^ k) (all_below ok_at 36 all_36 k h)

-- what `scale_of` needs at each turn and at the return
pub ruleset scaling = (scale_step, scale_stays)
