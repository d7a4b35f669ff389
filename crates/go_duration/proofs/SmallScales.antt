-- For Distance: at a k below 36 the product is near f * u / 10 ^ k, by the errors of three roundings and of the scale. Assumes nothing.
use Rattle.std.proofs.Common.{ℕ, ◌+◌, ◌*◌, ◌^◌, ◌<◌, ◌≤◌, false, pos, le_trans, lt_of_lt_of_le, mul-le-mul_right, mul-le-mul, mul-le-mul_left, mul-pos, one-mul, le_of_mul-le-mul_right, arith, lit<, lit≤, pow_pos}
use lib.Ieee.{Float, binary64, low, div, of_int}
use lib.Ieee.Exact.{HasValue}
use lib.Ieee.Scale.{grid}
use lib.Ieee.Positive.{num, den, den_pos}
use Rattle.go_duration.specs.Fraction.{most}
use Rattle.go_duration.specs.Digits.{UnitNanos}
use Rattle.go_duration.proofs.FloatChain.{D, Close, close_mul, close_trans, close_times, close_inv}
use Rattle.go_duration.proofs.FloatErrors.{L, B, le_mul, Rounded, round_fine}
use Rattle.go_duration.proofs.FloatValues.{product, InUnits, whole_unit, quotient, number_rounded, number_times}
use Rattle.go_duration.proofs.Scales.{Scale}

abbrev E : ℕ
E = D + 1

-- ---- crude bounds: of a value near a / c, where a / c is 1 / b at least, and of a product
crude : {g l a c : ℕ} (b : ℕ) → 0 < a → Close 1 g l a c → c ≤ a * b → l ≤ g * (b * E)
crude {g} {l} {a} {c} b A r k = go a l D g c E b A (lit< tt) r.lo k
  where
    go : (a l x g c y b : ℕ) → 0 < a → 0 < x → a * l * x ≤ g * c * y → c ≤ a * b → l ≤ g * (b * y)
    go a l x g c y b A X h k = le_of_mul-le-mul_right (omega (arith, le_mul (a * l) x X, mul-le-mul_left (g * y) k)) A

products : (m n x y a b p : ℕ) → m ≤ x * a → n ≤ y * b → a * b ≤ p → m * n ≤ x * y * p
products m n x y a b p h k r = omega (arith, mul-le-mul h k, mul-le-mul_left (x * y) r)

-- ---- the errors put together: g / L of gF / L * gV / L
together : (gF gV g f u sd sn t : ℕ) → 0 < sn → Close 1 gF L f 1 → Close 1 gV L (sd * u) sn → Close 1 sn sd t 1 → Close 1 g L (gF * gV) (L * L)
    → Close 7 g L (f * u) t
together gF gV g f u sd sn t N cF cV cS cR =
    let v : Close 3 gV L (1 * u) t = close_trans (lit≤ tt) cV N (close_times (close_inv cS) u) in
    let p : Close 5 (gF * gV) (L * L) (f * u) (1 * t) = close_mul (lit≤ tt) cF (rw (one-mul u) at v) in
    close_trans (lit≤ tt) cR (mul-pos (pow_pos (low binary64)) (pow_pos (low binary64))) (rw (one-mul t) at p)

pub small_product : (f u : ℕ) (S : Float) (t : ℕ) → 0 < f → f ≤ most → UnitNanos u → Scale S t → InUnits (product f u S) (λ g. Close 7 g L (f * u) t)
small_product f u S t F Fm v s =
    let sd = den S in
    let sn = num S in
    let N : 0 < sn = lt_of_lt_of_le (den_pos S) s.least in
    let gF = grid binary64 f 1 in
    let gV = grid binary64 (sd * u) sn in
    let g = grid binary64 (gF * gV) (L * L) in
    let f1 : f ≤ 1 * most = omega arith in
    let f2 : 1 ≤ f * 1 = omega arith in
    let h1 : sn ≤ sd * u * 2 ^ 120 = le_trans s.top (mul-le-mul_right (2 ^ 120) (le_mul sd u v.some)) in
    let h2 : sd * u ≤ sn * 3600000000000 = mul-le-mul s.least v.top in
    let rF : Rounded f 1 gF = number_rounded f F Fm in
    let rV : Rounded (sd * u) sn gV =
    round_fine (sd * u) sn N (le_trans h1 (mul-le-mul_left (sd * u) (lit≤ tt))) (le_trans h2 (mul-le-mul_left sn (lit≤ tt))) in
    let fl : L ≤ gF * (1 * E) = crude 1 F rF.near f2 in
    let fu : gF ≤ L * (most * E) = crude most (lit< tt) (close_inv rF.near) f1 in
    let vl : L ≤ gV * (2 ^ 120 * E) = crude (2 ^ 120) (mul-pos (den_pos S) v.some) rV.near h1 in
    let vu : gV ≤ L * (3600000000000 * E) = crude 3600000000000 N (close_inv rV.near) h2 in
    let rR : Rounded (gF * gV) (L * L) g =
    round_fine (gF * gV) (L * L) (lit< tt) (products L L gF gV (1 * E) (2 ^ 120 * E) B fl vl (lit≤ tt))
    (products gF gV L L (most * E) (3600000000000 * E) B fu vu (lit≤ tt)) in
    let q : HasValue (div binary64 (of_int binary64 (pos u)) S) false gV L =
    rw (quotient (of_int binary64 (pos u)) S u (whole_unit u v.top) s.above N) rV.value in
    record {
      g = g;
      value = rw (number_times f F Fm (div binary64 (of_int binary64 (pos u)) S) gV q) rR.value;
      holds = together gF gV g f u sd sn t N rF.near rV.near s.near rR.near;
    }
