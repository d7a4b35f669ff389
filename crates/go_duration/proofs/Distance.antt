-- For `nanos_of` and DigitsRead: the truncated float product and the whole part of the exact value of all the digits differ by at most one, and the
-- product is in the range of the cast. By the cases k < 36 and 36 ≤ k. Assumes nothing.
use Rattle.std.proofs.Common.{◌≡◌, ℕ, ◌+◌, ◌-◌, ◌*◌, ◌/◌, ◌^◌, ◌<◌, ◌≤◌, Bool, true, false, not, T, leb, pos, sym, refl, ap, ◌∙◌, inl, inr, true≢false, le_refl, le_of_lt, mul-le-mul_right, div-lt_iff_lt-mul, add-sub_of_le, mul-le-mul, mul-le-mul_left, mul-lt-mul_of_pos_right, one-mul, lt_of_not-le, div-mul-le_self, div-one, arith, lit<, lit≤, lt→ltb, leb→le, pow-add}
use native.Mathlib.Nat.{min-eq_left, pow-le-pow_right, one-le-pow}
use native.Mathlib.Numerals.{lt-add-one}
use lib.Dec.{nleb→lt}
use lib.Ieee.{Float, nan, inf, fin, binary64, up, down, lt, mul, div, of_int, to_unsigned}
use lib.Ieee.Fits.{down_pos}
use lib.Ieee.Exact.{HasValue}
use lib.Ieee.Nearest.{div_same}
use Rattle.go_duration.specs.Fraction.{most, scale_of, product_of, nanos_of}
use Rattle.go_duration.specs.Digits.{Kept, UnitNanos, Proper}
use Rattle.go_duration.specs.Written.{ByOne}
use Rattle.go_duration.proofs.FloatChain.{D, Close, close_times, close_trans, whole_close}
use Rattle.go_duration.proofs.FloatErrors.{L}
use Rattle.go_duration.proofs.FloatValues.{product}
use Rattle.go_duration.proofs.Scales.{scale_small}
use Rattle.go_duration.proofs.SmallScales.{small_product}
use Rattle.go_duration.proofs.LargeScales.{large_product, scale_large}

-- ---- what is known of the product x: what `truncating_f64_to_u64` requires, and its whole part
pub record Good (x : Float) (e : ℕ) : Type 0 where
  pub over : T (lt (fin true 1 (pos 0)) x)
  pub under : T (lt x (fin false 1 (pos 64)))
  pub near : ByOne (to_unsigned 64 x) e

-- it holds of a value g / l whose whole part is near e
good_of : (x : Float) (g l e : ℕ) → 0 < l → HasValue x false g l → e < 3600000000000 → ByOne (g / l) e → Good x e
unfolding lt to_unsigned
good_of nan g l e X h s b = absurd h
good_of (inf t) g l e X h s b = absurd h
good_of (fin true m i) g l e X h s b = absurd (true≢false h.0)
good_of (fin false m i) g l e X h s b =
    let n = m * up i in
    let d = down i in
    let P : 0 < d = down_pos i in
    let w : n / d ≡ g / l = div_same n d g l P X h.1 in
    let r : n / d < 18446744073709551615 = omega arith in
    let u : n < 18446744073709551615 * d = (div-lt_iff_lt-mul P).0 r in
    record {
      over = lt→ltb 0 (1 * d + n * 1) (omega arith);
      under = lt→ltb (n * 1) (18446744073709551616 * d) (omega arith);
      near = rw (min-eq_left (le_of_lt r), w) b;
    }

-- ---- over any exact fraction N / M that is near f / 10 ^ k
module _ (f k u N M : ℕ) (F : 0 < f) (Fm : f ≤ most) (v : UnitNanos u) (proper : N < M) (c : Close 1 f (10 ^ k) N M) where
  M-pos : 0 < M
  M-pos = omega arith

  value_lt : N * u / M < 3600000000000
  value_lt = (div-lt_iff_lt-mul M-pos).1 (below N u M proper v.some v.top)
    where
      below : (n u m : ℕ) → n < m → 0 < u → u ≤ 3600000000000 → n * u < 3600000000000 * m
      below n u m h U k = omega (arith, mul-lt-mul_of_pos_right h U, mul-le-mul_left m k)

  at_small : k < 36 → Good (product f u (scale_of k)) (N * u / M)
  at_small h =
      let p = small_product f u (scale_of k) (10 ^ k) F Fm v (scale_small k h) in
      let n : Close 9 p.g L (N * u) M = close_trans (lit≤ tt) p.holds (one-le-pow k 10 (lit< tt)) (close_times c u) in
      good_of (product f u (scale_of k)) p.g L (N * u / M) (lit< tt) p.value value_lt (whole_close (lit< tt) M-pos value_lt n)

  -- from k = 36 on the exact value is below 1 too
  value_lt_one : 36 ≤ k → N * u < M
  value_lt_one h =
      below N u (10 ^ k) f M most 3600000000000 (10 ^ 36) M-pos (lit< tt) (pow-le-pow_right (lit< tt) h) (double (N * 10 ^ k) (f * M) c.lo) Fm v.top
    where
      double : (x y : ℕ) → x * D ≤ y * (D + 1) → x ≤ y * 2
      double x y h = omega arith

      below : (n u t f m a b y : ℕ) → 0 < m → a * b * 2 < y → y ≤ t → n * t ≤ f * m * 2 → f ≤ a → u ≤ b → n * u < m
      below n u t f m a b y P s h k p q =
          let x = mul-lt-mul_of_pos_right s P in
          let z = mul-le-mul_right m (mul-le-mul p q) in
          lt_of_not-le (λ (w : m ≤ n * u). omega (arith, mul-le-mul_right y w, mul-le-mul_left (n * u) h, mul-le-mul_right u k))

  at_large : 36 ≤ k → Good (product f u (scale_of k)) (N * u / M)
  at_large h =
      let p = large_product f u (scale_of k) F Fm v (scale_large k h) in
      let a : p.g / L < 1 = (div-lt_iff_lt-mul {k = L} (lit< tt)).1 p.holds in
      let b : N * u / M < 1 = (div-lt_iff_lt-mul M-pos).1 (rw (one-mul M) (value_lt_one h)) in
      good_of (product f u (scale_of k)) p.g L (N * u / M) (lit< tt) p.value value_lt (zeros (p.g / L) (N * u / M) a b)
    where
      zeros : (a b : ℕ) → a < 1 → b < 1 → ByOne a b
      zeros a b h k = omega arith

  pub good : Good (product_of f k u) (N * u / M)
  unfolding product_of
  good = go (leb 36 k) (leb→le 36 k) (nleb→lt 36 k)
    where
      go : (b : Bool) → (T b → 36 ≤ k) → (T (not b) → k < 36) → Good (product f u (scale_of k)) (N * u / M)
      go true h l = at_large (h tt)
      go false h l = at_small (l tt)

-- ---- the exact fraction of all the digits, w / 10 ^ n, of which the first k are kept

-- where none is dropped, they are the kept ones
pub first_all : (f k w n : ℕ) → f ≡ w / 10 ^ (n - k) → k ≡ n → f ≡ w
first_all f k w n h e =
    let z : n - k ≡ 0 = omega arith in
    (rw z at h) ∙ div-one w

pub power_split : (k n : ℕ) → k ≤ n → 10 ^ n ≡ 10 ^ k * 10 ^ (n - k)
power_split k n h = ap (λ (z : ℕ). 10 ^ z) (sym (add-sub_of_le h)) ∙ pow-add 10 k (n - k)

kept_close : (f k w n : ℕ) → Kept f k w n → Close 1 f (10 ^ k) w (10 ^ n)
kept_close f k w n h =
    let p = 10 ^ (n - k) in
    let q = 10 ^ k in
    let a : f * p ≤ w = rw h.first (div-mul-le_self w p) in
    let b : w ≤ (f + 1) * p = rw h.first (le_of_lt ((div-lt_iff_lt-mul (one-le-pow (n - k) 10 (lit< tt))).0 (lt-add-one (w / p)))) in
    rw (power_split k n h.count) (record {
      up = above f w p q D a;
      lo = elim h.full [
        | inl s ↦ same f w p q D (one-le-pow (n - k) 10 (lit< tt)) (first_all f k w n h.first s)
        | inr l ↦ below f w p q D b (enough f l)
      ];
    })
  where
    above : (f w p q x : ℕ) → f * p ≤ w → f * (q * p) * x ≤ w * q * (x + 1)
    above f w p q x h = omega (arith, mul-le-mul_right (q * x) h)

    same : (f w p q x : ℕ) → 0 < p → f ≡ w → w * q * x ≤ f * (q * p) * (x + 1)
    same f w p q x P e = rw e (omega (arith, mul-le-mul_left (w * q * x) P))

    below : (f w p q x : ℕ) → w ≤ (f + 1) * p → (f + 1) * x ≤ f * (x + 1) → w * q * x ≤ f * (q * p) * (x + 1)
    below f w p q x h k = omega (arith, mul-le-mul_right (q * x) h, mul-le-mul_right (p * q) k)

    enough : (f : ℕ) → most < f * 10 + 9 → (f + 1) * D ≤ f * (D + 1)
    enough f h = omega arith

module _ (f k w n u : ℕ) (h : Kept f k w n) (v : UnitNanos u) where
  kept_good : Good (product_of f k u) (w * u / 10 ^ n)
  kept_good = good f k u w (10 ^ n) h.some h.fits v h.proper (kept_close f k w n h)

  pub distance : ByOne (nanos_of f k u) (w * u / 10 ^ n)
  unfolding nanos_of
  distance = kept_good.near

-- ---- `nanos_of`: x, y and t are the floats that the code has of f, u and the scale, and all the digits are kept
module _ (f k u : ℕ) (x y t : Float) (p : x ≡ of_int binary64 (pos f)) (q : y ≡ of_int binary64 (pos u)) (r : t ≡ scale_of k) where
  -- what `truncating_f64_to_u64` requires
  pub product_range : Proper f k → UnitNanos u
      → T (lt (fin true 1 (pos 0)) (mul binary64 x (div binary64 y t))) × T (lt (mul binary64 x (div binary64 y t)) (fin false 1 (pos 64)))
  unfolding product_of
  product_range h v = let g = kept_good f k f k u all_kept v in rw (p, q, r) (g.over, g.under)
    where
      same : (f k : ℕ) → f ≡ f / 10 ^ (k - k)
      same f k =
          let z : k - k ≡ 0 = omega arith in
          rw z (sym (div-one f))

      all_kept : Kept f k f k
      all_kept = record { some = h.some; fits = h.fits; count = le_refl k; proper = h.digits; first = same f k; full = inl refl }

  pub product_nanos : (n : ℕ) → n ≡ to_unsigned 64 (mul binary64 x (div binary64 y t)) → n ≡ nanos_of f k u
  unfolding nanos_of product_of
  product_nanos n e = rw (p, q, r) at e
