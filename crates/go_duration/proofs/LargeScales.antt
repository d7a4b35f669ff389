-- For Distance: at a k of 36 or more, where the scale may be an infinity, the product is below 1. From the scale, 2 ^ 119 at least. Assumes nothing.
use Rattle.std.proofs.Common.{◌≡◌, ℕ, ◌+◌, ◌*◌, ◌^◌, ◌<◌, ◌≤◌, true, false, T, pos, refl, subst, true≢false, le_trans, lt_trans, lt_of_lt_of_le, lt_of_le_of_lt, mul-le-mul_right, mul-le-mul, mul-le-mul_left, mul-pos, le_of_mul-le-mul_right, arith, lit<, lit≤}
use lib.Ieee.{Float, nan, inf, fin, binary64, le, mul, div, of_int, round}
use lib.Ieee.Exact.{HasValue}
use lib.Ieee.Order.{round_mono}
use lib.Ieee.Scale.{grid, round_val}
use lib.Ieee.Positive.{num, den, den_pos, positive, le→cross, above_of_le, first_pos}
use Rattle.go_duration.specs.Fraction.{most, scale_of, ten}
use Rattle.go_duration.specs.Digits.{UnitNanos}
use Rattle.go_duration.proofs.FloatErrors.{L, le_mul, grid_le}
use Rattle.go_duration.proofs.Scales.{scale_from}
use Rattle.go_duration.proofs.FloatValues.{product, InUnits, whole_unit, quotient, number_times}

-- ---- the scale is 2 ^ 119 at least from k = 36 on
abbrev big : Float
big = fin false 1 (pos 119)

big_is : round binary64 false (2 ^ 119) 1 ≡ big
unfolding round
big_is = refl

big_36 : T (le big (scale_of 36))
unfolding scale_of le mul
big_36 = tt

grown : (x : Float) → T (le big x) → T (positive x) → T (le big (round binary64 false (num x * 10) (den x * 1)))
grown x h p =
    subst (λ (z : Float). T (le z (round binary64 false (num x * 10) (den x * 1)))) big_is
    (round_mono binary64 (2 ^ 119) 1 (num x * 10) (den x * 1) (lit< tt) (mul-pos (den_pos x) (lit< tt)) (more (num x) (den x) (le→cross big x tt p h)))
  where
    more : (n d : ℕ) → 2 ^ 119 * d ≤ n * 1 → 2 ^ 119 * (d * 1) ≤ n * 10 * 1
    more n d h = omega arith

step : (x : Float) → T (le big x) → T (le big (mul binary64 x ten))
unfolding mul le
step nan h = absurd h
step (inf true) h = absurd h
step (inf false) h = tt
step (fin true m e) h = absurd (above_of_le big (fin true m e) tt h)
step (fin false m e) h = grown (fin false m e) h (above_of_le big (fin false m e) tt h)

pub scale_large : (k : ℕ) → 36 ≤ k → T (le big (scale_of k))
scale_large = scale_from (λ x. T (le big x)) 36 big_36 step

-- ---- g * c ≤ 2 * a * l + c, as `grid_le` has it, where a / c is at most 1 / b
shrink : (g c a l b : ℕ) → 0 < c → g * c ≤ a * l * 2 + c → a * b ≤ c → g * b ≤ l * 2 + b
shrink g c a l b C h k = le_of_mul-le-mul_right (omega (arith, mul-le-mul_right b h, mul-le-mul_right (l * 2) k)) C

-- ---- the quotient is at most 2 ^ -75
abbrev Tiny : Float → Type 0
Tiny x = InUnits x (λ g. g * 2 ^ 77 ≤ L * 4)

tiny : (a c : ℕ) → 0 < c → a * 2 ^ 77 ≤ c → Tiny (round binary64 false a c)
tiny a c C h =
    let g = grid binary64 a c in
    let s : g * 2 ^ 77 ≤ L * 4 = le_trans (shrink g c a L (2 ^ 77) C (grid_le a c C) h) (lit≤ tt) in
    record { g = g; value = round_val binary64 a c (lt_of_le_of_lt (le_trans (le_mul g (2 ^ 77) (lit≤ tt)) s) (lit< tt)); holds = s }

over_inf : (x : Float) (u : ℕ) → HasValue x false u 1 → div binary64 x (inf false) ≡ fin false 0 (pos 0)
unfolding div
over_inf nan u h = absurd h
over_inf (inf s) u h = absurd h
over_inf (fin true m e) u h = absurd (true≢false h.0)
over_inf (fin false m e) u h = refl

module _ (u : ℕ) (v : UnitNanos u) where
  quot_finite : (S : Float) → T (le big S) → T (positive S) → Tiny (div binary64 (of_int binary64 (pos u)) S)
  quot_finite S h p =
      let c = le→cross big S tt p h in
      let N : 0 < num S = first_pos (num S) 1 (lt_of_lt_of_le (mul-pos {m = 2 ^ 119} (lit< tt) (den_pos S)) c) in
      rw (quotient (of_int binary64 (pos u)) S u (whole_unit u v.top) p N)
      (tiny (den S * u) (num S) N (far (den S) u (num S) 3600000000000 (2 ^ 77) (2 ^ 119) (lit≤ tt) c v.top))
    where
      -- over variables: with the numerals `omega` stops, "a number on its way has more than 38 digits"
      far : (d u n b p y : ℕ) → b * p ≤ y → y * d ≤ n * 1 → u ≤ b → d * u * p ≤ n
      far d u n b p y h k l = omega (arith, mul-le-mul_left d h, mul-le-mul_left (d * p) l)

  quot_tiny : (S : Float) → T (le big S) → Tiny (div binary64 (of_int binary64 (pos u)) S)
  quot_tiny nan h = absurd (above_of_le big nan tt h)
  quot_tiny (inf true) h = absurd (above_of_le big (inf true) tt h)
  quot_tiny (inf false) h =
      rw (over_inf (of_int binary64 (pos u)) u (whole_unit u v.top)) (record { g = 0; value = (refl, refl); holds = lit≤ tt })
  quot_tiny (fin true m e) h = absurd (above_of_le big (fin true m e) tt h)
  quot_tiny (fin false m e) h = quot_finite (fin false m e) h (above_of_le big (fin false m e) tt h)

-- ---- the product is below 1
pub large_product : (f u : ℕ) (S : Float) → 0 < f → f ≤ most → UnitNanos u → T (le big S) → InUnits (product f u S) (λ g. g < L)
large_product f u S F Fm v h =
    let t = quot_tiny u v S h in
    let gF = grid binary64 f 1 in
    let a = gF * t.g in
    let g = grid binary64 a (L * L) in
    let s : a * 2 ^ 10 ≤ L * L = small gF t.g L (units gF f L (lit< tt) (grid_le f 1 (lit< tt)) Fm) t.holds in
    let b : g < L = less g L (lit< tt) (shrink g (L * L) a L (2 ^ 10) (lit< tt) (grid_le a (L * L) (lit< tt)) s) in
    record {
      g = g;
      value = rw (number_times f F Fm (div binary64 (of_int binary64 (pos u)) S) t.g t.value) (round_val binary64 a (L * L) (lt_trans b (lit< tt)));
      holds = b;
    }
  where
    units : (g f l : ℕ) → 0 < l → g * 1 ≤ f * l * 2 + 1 → f ≤ most → g ≤ l * 2 ^ 65
    units g f l P h k = omega (arith, mul-le-mul_right l k)

    small : (g h l : ℕ) → g ≤ l * 2 ^ 65 → h * 2 ^ 77 ≤ l * 4 → g * h * 2 ^ 10 ≤ l * l
    small g h l p q = omega (arith, mul-le-mul p q)

    less : (g l : ℕ) → 1 < l → g * 2 ^ 10 ≤ l * 2 + 2 ^ 10 → g < l
    less g l h k = omega arith
