-- For FloatErrors, Scales, SmallScales and Distance: errors put together, and the whole parts of two fractions that are near each other. By products
-- of bounds and `omega`; nothing here is about floats. Assumes nothing.
use Rattle.std.proofs.Common.{ℕ, ◌+◌, ◌*◌, ◌/◌, ◌<◌, ◌≤◌, le_trans, le_of_lt, mul-le-mul_right, mul_comm, div-lt_iff_lt-mul, mul-le-mul, mul-le-mul_left, mul-pos, lt_of_not-le, div-mul-le_self, le_of_mul-le-mul_right, arith, lit<}
use native.Mathlib.Numerals.{lt-add-one}
use Rattle.go_duration.specs.Written.{ByOne}

-- a / b ≤ c / d * (1 + n / 2 ^ 47), for fractions of natural numbers
abbrev pub D : ℕ
D = 140737488355328

abbrev Near : ℕ → ℕ → ℕ → ℕ → ℕ → Type 0
Near n a b c d = a * d * D ≤ c * b * (D + n)

-- the same both ways
pub record Close (n a b c d : ℕ) : Type 0 where
  pub up : Near n a b c d
  pub lo : Near n c d a b

-- ---- errors y / x and z / x that come to p / x: of a product, and of two steps one after the other
module _ (x y z p : ℕ) (X : 0 < x) (q : y * z ≤ x * p) where
  prod : (a b c d a' b' c' d' : ℕ) → a * d * x ≤ c * b * y → a' * d' * x ≤ c' * b' * z → a * a' * (d * d') * x ≤ c * c' * (b * b') * p
  prod a b c d a' b' c' d' h k = le_of_mul-le-mul_right (omega (arith, mul-le-mul h k, mul-le-mul_left (c * c' * (b * b')) q)) X

  chain : (a b c d e g : ℕ) → 0 < d → a * d * x ≤ c * b * y → c * g * x ≤ e * d * z → a * g * x ≤ e * b * p
  chain a b c d e g P h k =
      le_of_mul-le-mul_right (omega (arith, mul-le-mul_right (g * x) h, mul-le-mul_right (b * y) k, mul-le-mul_left (e * b * d) q)) (mul-pos P X)

module _ {n m p : ℕ} (q : (D + n) * (D + m) ≤ D * (D + p)) {a b c d : ℕ} (h : Close n a b c d) where
  pub close_mul : {a' b' c' d' : ℕ} → Close m a' b' c' d' → Close p (a * a') (b * b') (c * c') (d * d')
  close_mul {a'} {b'} {c'} {d'} k = record {
    up = prod D (D + n) (D + m) (D + p) (lit< tt) q a b c d a' b' c' d' h.up k.up;
    lo = prod D (D + n) (D + m) (D + p) (lit< tt) q c d a b c' d' a' b' h.lo k.lo;
  }

  pub close_trans : {e g : ℕ} → 0 < d → Close m c d e g → Close p a b e g
  close_trans {e} {g} P k = record {
    up = chain D (D + n) (D + m) (D + p) (lit< tt) q a b c d e g P h.up k.up;
    lo = chain D (D + m) (D + n) (D + p) (lit< tt) (rw (mul_comm (D + m) (D + n)) q) e g c d a b P k.lo h.lo;
  }

module _ {n a b c d : ℕ} (h : Close n a b c d) where
  pub close_times : (u : ℕ) → Close n (a * u) b (c * u) d
  close_times u = record { up = times a b c d u D (D + n) h.up; lo = times c d a b u D (D + n) h.lo }
    where
      times : (a b c d u x y : ℕ) → a * d * x ≤ c * b * y → a * u * d * x ≤ c * u * b * y
      times a b c d u x y h = omega (arith, mul-le-mul_right u h)

  pub close_inv : Close n b a d c
  close_inv = record { up = flip c d a b D (D + n) h.lo; lo = flip a b c d D (D + n) h.up }
    where
      flip : (a b c d x y : ℕ) → a * d * x ≤ c * b * y → d * a * x ≤ b * c * y
      flip a b c d x y h = omega arith

-- ---- the whole parts of g / l and P / m, where P / m is below 3.6 * 10 ^ 12
-- two apart, they are far: from (C + 2) * D ≤ (C + 1) * (D + 9) it follows that D ≤ (C + 1) * 9
apart : (a b c d : ℕ) → 0 < b → 0 < d → Near 9 a b c d → c / d < 3600000000000 → c / d + 2 ≤ a / b → ⊥
apart a b c d B C h s k =
    far (c / d) s
    (cancel (c / d + 2) (c / d + 1) b d D (D + 9) (mul-pos B C)
    (le_trans (mul-le-mul_right D (mul-le-mul_right d (le_trans (mul-le-mul_right b k) (div-mul-le_self a b))))
    (le_trans h (mul-le-mul_right (D + 9) (mul-le-mul_right b (le_of_lt ((div-lt_iff_lt-mul C).0 (lt-add-one (c / d)))))))))
  where
    cancel : (s t b d x y : ℕ) → 0 < b * d → s * b * d * x ≤ t * d * b * y → s * x ≤ t * y
    cancel s t b d x y P h = le_of_mul-le-mul_right {k = b * d} (omega arith) P

    far : (n : ℕ) → n < 3600000000000 → (n + 2) * D ≤ (n + 1) * (D + 9) → ⊥
    far n h k = omega arith

by_one : (a b : ℕ) → (b + 2 ≤ a → ⊥) → a ≤ b + 1
by_one a b h = let l = lt_of_not-le h in omega arith

pub whole_close : {g l P m : ℕ} → 0 < l → 0 < m → P / m < 3600000000000 → Close 9 g l P m → ByOne (g / l) (P / m)
whole_close {g} {l} {P} {m} X Y s h = (
  by_one (g / l) (P / m) (λ k. apart g l P m X Y h.up s k),
  by_one (P / m) (g / l) (λ k. apart P m g l Y X h.lo (below (g / l) (P / m) k s) k),
)
  where
    below : (a b : ℕ) → a + 2 ≤ b → b < 3600000000000 → a < 3600000000000
    below a b h k = omega arith
