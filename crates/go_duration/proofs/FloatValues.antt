-- For SmallScales and LargeScales: what the float operations give on values that are not negative, as the rounding of one fraction. By cases on the
-- floats. Assumes nothing.
use Rattle.std.proofs.Common.{◌≡◌, ℕ, ◌*◌, ◌<◌, ◌≤◌, true, false, T, pos, ap, true≢false, le_trans, mul-pos, arith, lit<, lit≤, ltb→lt, ne_eqb}
use native.Mathlib.Nat.{mul-mul-mul_comm}
use lib.Ieee.{Float, nan, inf, fin, binary64, up, down, mul, div, of_int, round}
use lib.Ieee.Fits.{down_pos}
use lib.Ieee.Exact.{HasValue}
use lib.Ieee.Back.{round_whole}
use lib.Ieee.Scale.{grid, round_same}
use lib.Ieee.Positive.{num, den, positive}
use Rattle.go_duration.specs.Fraction.{most}
use Rattle.go_duration.proofs.FloatErrors.{L, Rounded, round_fine}

-- what is truncated, for a scale S
abbrev pub product : ℕ → ℕ → Float → Float
product f u S = mul binary64 (of_int binary64 (pos f)) (div binary64 (of_int binary64 (pos u)) S)

-- x is g units of 2 ^ -1074, and g is as P says
pub record InUnits (x : Float) (P : ℕ → Type 0) : Type 0 where
  pub g : ℕ
  pub value : HasValue x false g L
  pub holds : P g

-- ---- the quotient of a whole number and a positive value
pub whole_unit : (u : ℕ) → u ≤ 3600000000000 → HasValue (of_int binary64 (pos u)) false u 1
unfolding of_int
whole_unit u h = round_whole binary64 false u (le_trans h (lit≤ tt))

pub quotient : (x y : Float) (u : ℕ) → HasValue x false u 1 → T (positive y) → 0 < num y
    → div binary64 x y ≡ round binary64 false (den y * u) (num y)
unfolding div
quotient nan y u v p N = absurd v
quotient (inf s) y u v p N = absurd v
quotient (fin true m e) y u v p N = absurd (true≢false v.0)
quotient (fin false m e) nan u v p N = absurd p
quotient (fin false m e) (inf t) u v p N = absurd p
quotient (fin false m e) (fin true n d) u v p N = absurd p
quotient (fin false m e) (fin false n d) u v p N =
    rw (ne_eqb n 0 (λ z. let h = ltb→lt 0 n p in omega arith))
    (round_same binary64 false (m * up e * down d) (n * up d * down e) (down d * u) (n * up d) (mul-pos N (down_pos e)) N
    (cross (m * up e) (down d) (n * up d) u (down e) v.1))
  where
    cross : (a d n u c : ℕ) → a * 1 ≡ u * c → a * d * n ≡ d * u * (n * c)
    cross a d n u c e = omega (arith, ap (λ (z : ℕ). z * (d * n)) e)

-- ---- a product, zero included
mul_value : (x y : Float) (a c b d : ℕ) → 0 < c → 0 < d → HasValue x false a c → HasValue y false b d
    → mul binary64 x y ≡ round binary64 false (a * b) (c * d)
unfolding mul
mul_value nan y a c b d C D h k = absurd h
mul_value (inf s) y a c b d C D h k = absurd h
mul_value (fin true m e) y a c b d C D h k = absurd (true≢false h.0)
mul_value (fin false m e) nan a c b d C D h k = absurd k
mul_value (fin false m e) (inf t) a c b d C D h k = absurd k
mul_value (fin false m e) (fin true n i) a c b d C D h k = absurd (true≢false k.0)
mul_value (fin false m e) (fin false n i) a c b d C D h k =
    round_same binary64 false (m * up e * (n * up i)) (down e * down i) (a * b) (c * d) (mul-pos (down_pos e) (down_pos i)) (mul-pos C D)
    (cross (m * up e) (n * up i) c d a (down e) b (down i) h.1 k.1)
  where
    cross : (x y c d a p b q : ℕ) → x * c ≡ a * p → y * d ≡ b * q → x * y * (c * d) ≡ a * b * (p * q)
    cross x y c d a p b q e k = rw (mul-mul-mul_comm x y c d, e, k) (mul-mul-mul_comm a p b q)

-- ---- the number of the kept digits, rounded, and its product with a value of g units
module _ (f : ℕ) (F : 0 < f) (Fm : f ≤ most) where
  pub number_rounded : Rounded f 1 (grid binary64 f 1)
  number_rounded = round_fine f 1 (lit< tt) (mul-pos F (lit< tt)) (le_trans Fm (lit≤ tt))

  pub number_times : (x : Float) (g : ℕ) → HasValue x false g L
      → mul binary64 (of_int binary64 (pos f)) x ≡ round binary64 false (grid binary64 f 1 * g) (L * L)
  unfolding of_int
  number_times x g v = mul_value (round binary64 false f 1) x (grid binary64 f 1) L g L (lit< tt) (lit< tt) number_rounded.value v
