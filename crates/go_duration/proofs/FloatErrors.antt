-- For SmallScales and LargeScales: one rounding of binary64. In the normal range its relative error is at most 2 ^ -47, and below it the error is at
-- most one unit. From the nearest whole number, which is within a half. Assumes nothing.
use Rattle.std.proofs.Common.{◌≡◌, ℕ, ◌+◌, ◌-◌, ◌*◌, ◌/◌, ◌%◌, ◌^◌, ◌<◌, ◌≤◌, Bool, true, false, not, T, eqb, leb, sym, subst, le_trans, lt_of_le_of_lt, mul-le-mul_right, mod-lt, mul-le-mul_left, mul-pos, div-add-mod', le-div_iff_mul-le, le_of_mul-le-mul_right, arith, lit<, lit≤, eqb→eq, leb→le, pow_pos, pow-add}
use Prim.Native.Nat.{compare, Ordering}
use lib.Dec.{is_le, compare_is_eq, nleb→lt, eqb_refl}
use lib.Arith.{lt_of_le-ne}
use lib.Ieee.{binary64, low, size, nearest, round}
use lib.Ieee.Digits.{size_reaches}
use lib.Ieee.Exact.{HasValue}
use lib.Ieee.Nearest.{closest}
use lib.Ieee.Order.{drop}
use lib.Ieee.Scale.{grid, round_val, normal_of_fraction}
use Rattle.go_duration.proofs.FloatChain.{D, Close}

-- ---- what `compare` says (lib.Ieee.Nearest has it, not pub)
abbrev Cmp : Ordering → ℕ → ℕ → Type 0
Cmp Ordering.lt a b = a < b
Cmp Ordering.eq a b = a ≡ b
Cmp Ordering.gt a b = b < a

cmp : (a b : ℕ) → Cmp (compare a b) a b
cmp a b = go (compare a b) (leb→le a b) (nleb→lt a b) (eqb→eq a b) (λ (e : a ≡ b). subst (λ (x : ℕ). T (eqb a x)) e (eqb_refl a))
  where
    go : (o : Ordering) → (T (is_le o) → a ≤ b) → (T (not (is_le o)) → b < a) → (T (compare_is_eq o) → a ≡ b) → (a ≡ b → T (compare_is_eq o)) → Cmp o a b
    go Ordering.lt h k e n = lt_of_le-ne (h tt) n
    go Ordering.eq h k e n = e tt
    go Ordering.gt h k e n = k tt

-- ---- the nearest whole number is within a half
abbrev Half : ℕ → ℕ → ℕ → Type 0
Half q w n = (q * w * 2 ≤ n * 2 + w) × (n * 2 ≤ q * w * 2 + w)

half : (q w r n : ℕ) (o : Ordering) → q * w + r ≡ n → r < w → Cmp o (r * 2) w → Half (nearest q o) w n
half q w r n Ordering.lt e l c = omega arith
half q w r n Ordering.eq e l c =
    let b : q % 2 ≤ 1 = omega arith in
    omega (arith, mul-le-mul_right w b)
half q w r n Ordering.gt e l c = omega arith

closest_half : (n w : ℕ) → 0 < w → Half (closest n w) w n
closest_half n w W = half (n / w) w (n % w) n (compare (n % w * 2) w) (div-add-mod' n w) (mod-lt n W) (cmp (n % w * 2) w)

-- ---- in the normal range, in units of 2 ^ -1074

-- half a step w is a small part of n
errors : (g n w x : ℕ) → 0 < x → (g * 2 ≤ n * 2 + w) × (n * 2 ≤ g * 2 + w) → w * x ≤ n → (g * x ≤ n * (x + 1)) × (n * x ≤ g * (x + 1))
errors g n w x X h k =
    let m : w ≤ w * x = omega (arith, mul-le-mul_left w X) in
    (omega (arith, mul-le-mul_right x h.0), omega (arith, mul-le-mul_right x h.1))

round_err : (a c : ℕ) → 0 < c → 53 ≤ size (a * 2 ^ low binary64 / c) → Close 1 (grid binary64 a c) (2 ^ low binary64) a c
round_err a c C N =
    let n = a * 2 ^ low binary64 in
    let d = drop 53 n c in
    let w = c * 2 ^ d in
    let q = closest n w in
    let r : 2 ^ (52 + d) ≤ n / c = size_reaches (n / c) (52 + d) (below_size (size (n / c)) N) in
    let s : 2 ^ (52 + d) * c ≤ n = (le-div_iff_mul-le C).0 r in
    let t : w * D ≤ n = step_small c (2 ^ d) n (rw (pow-add 2 52 d) at s) in
    let e = errors (q * w) n w D (lit< tt) (closest_half n w (mul-pos C (pow_pos d))) t in
    let g : q * 2 ^ d * c ≡ q * w = regroup q (2 ^ d) c in
    record { up = rw g e.0; lo = rw g e.1 }
  where
    regroup : (q p c : ℕ) → q * p * c ≡ q * (c * p)
    regroup q p c = omega arith

    below_size : (z : ℕ) → 53 ≤ z → 52 + (z - 53) < z
    below_size z h = omega arith

    step_small : (c p n : ℕ) → 2 ^ 52 * p * c ≤ n → c * p * D ≤ n
    step_small c p n h = omega arith

-- ---- a fraction a / c between 2 ^ -400 and 2 ^ 400, rounded, is finite and near a / c
abbrev pub B : ℕ
B = 2 ^ 400

abbrev pub L : ℕ
L = 2 ^ low binary64

pub record Rounded (a c g : ℕ) : Type 0 where
  pub value : HasValue (round binary64 false a c) false g L
  pub near : Close 1 g L a c

pub le_mul : (x y : ℕ) → 1 ≤ y → x ≤ x * y
le_mul x y h = omega (arith, mul-le-mul_left x h)

pub round_fine : (a c : ℕ) → 0 < c → c ≤ a * B → a ≤ c * B → Rounded a c (grid binary64 a c)
round_fine a c C h k =
    let g = grid binary64 a c in
    let e = round_err a c C (normal_of_fraction binary64 a c C (normal c a (2 ^ 52) B L h (lit≤ tt))) in
    let m : g * D ≤ B * L * (D + 1) = cancel g c a L B D (D + 1) C e.up k in
    record { value = round_val binary64 a c (lt_of_le_of_lt (le_trans (le_mul g D (lit≤ tt)) m) (lit< tt)); near = e }
  where
    normal : (c a p b l : ℕ) → c ≤ a * b → b * p ≤ l → p * c ≤ a * l
    normal c a p b l h k = omega (arith, mul-le-mul_right p h, mul-le-mul_left a k)

    cancel : (g c a l b x y : ℕ) → 0 < c → g * c * x ≤ a * l * y → a ≤ c * b → g * x ≤ b * l * y
    cancel g c a l b x y C h k = le_of_mul-le-mul_right (omega (arith, mul-le-mul_right (l * y) k)) C

-- ---- with no lower end, the rounded value is at most 2 * a / c and one unit
pub grid_le : (a c : ℕ) → 0 < c → grid binary64 a c * c ≤ a * L * 2 + c
grid_le a c C = go (leb 53 (size (a * L / c))) (leb→le 53 (size (a * L / c))) (nleb→lt 53 (size (a * L / c)))
  where
    double : (G n c : ℕ) → G * D ≤ n * (D + 1) → G ≤ n * 2 + c
    double G n c h = omega arith

    few : (z : ℕ) → z < 53 → z - 53 ≡ 0
    few z h = omega arith

    whole : (n c : ℕ) → 0 < c → closest n (c * 1) * 1 * c ≤ n * 2 + c
    whole n c C = omega (arith, closest_half n (c * 1) (mul-pos C (lit< tt)))

    go : (b : Bool) → (T b → 53 ≤ size (a * L / c)) → (T (not b) → size (a * L / c) < 53) → grid binary64 a c * c ≤ a * L * 2 + c
    go true h k = double (grid binary64 a c * c) (a * L) c (round_err a c C (h tt)).up
    go false h k =
        subst (λ (d : ℕ). closest (a * L) (c * 2 ^ d) * 2 ^ d * c ≤ a * L * 2 + c) (sym (few (size (a * L / c)) (k tt))) (whole (a * L) c C)
