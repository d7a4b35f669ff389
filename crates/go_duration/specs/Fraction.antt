-- The fraction of a duration: `leading_fraction` of go_duration.rs, and its nanoseconds in floating point.
use Rattle.std.specs.Prelude.{ℕ, zero, suc, ◌+◌, ◌-◌, ◌*◌, Bool, true, false, not, ◌&&◌, List, [], ◌∷◌, pos, nat_le, nat_lt, Float}
use Prim.Native.Char.{code}
use Rattle.std.specs.Float.{fin, binary64}
use Rattle.std.specs.Float.Ieee.{mul, div, of_int, to_unsigned}
use Rattle.base.specs.Choice.{pick}
use Rattle.base.specs.Classes.{is_digit}

-- 2^63, document 01's bound on numbers, products and sums
abbrev pub most : ℕ
most = 9223372036854775808

-- ---- document 01: "f as the nearest f64 is multiplied by the unit divided by the scale, each step rounded once, the quotient first, and the
-- result truncated; the scale is 1.0 multiplied k times by 10.0"

-- 1.0
abbrev pub one : Float
one = fin false 1 (pos 0)

-- 10.0
abbrev pub ten : Float
ten = fin false 5 (pos 1)

-- 1.0 multiplied k times by 10.0
unfoldable pub scale_of : ℕ → Float
scale_of zero = one
scale_of (suc k) = mul binary64 (scale_of k) ten

-- what is truncated
unfoldable pub product_of : ℕ → ℕ → ℕ → Float
product_of f k u = mul binary64 (of_int binary64 (pos f)) (div binary64 (of_int binary64 (pos u)) (scale_of k))

-- the nanoseconds of f kept digits, k of them, of a unit of u nanoseconds
unfoldable pub nanos_of : ℕ → ℕ → ℕ → ℕ
nanos_of f k u = to_unsigned 64 (product_of f k u)

-- ---- document 01: "A fraction's first k digits kept within 63 bits form f, by the `leading_fraction` rule"

-- f with one digit more, the byte b
abbrev pub more : ℕ → ℕ → ℕ
more f b = f * 10 + (b - code "0")

-- whether it is kept: neither test of `leading_fraction` finds an overflow
abbrev pub room : ℕ → ℕ → Bool
room f b = nat_le f 922337203685477580 && nat_le (more f b) most

-- Apart from the code's `Fraction`, since it is the rule's own.
-- f: the number of the kept digits; k: how many those are; n: how many digits there are; o: whether some were dropped
pub data Acc : Type 0 where
  acc : (f k n : ℕ) → Bool → Acc

-- before the first digit
abbrev pub no_digits : Acc
no_digits = acc 0 0 0 false

-- one digit more
unfoldable pub add_digit : Acc → ℕ → Acc
add_digit (acc f k n o) b = pick (not o && room f b) (acc (more f b) (k + 1) (n + 1) false) (acc f k (n + 1) true)

-- all digits up to the first byte that is none
unfoldable pub read_digits : List ℕ → Acc → Acc
read_digits [] a = a
read_digits (b ∷ bs) a = pick (is_digit b) (read_digits bs (add_digit a b)) a

-- the nanoseconds of the digits read, for a unit of u nanoseconds: "If f > 0", else none
unfoldable pub frac_of : Acc → ℕ → ℕ
frac_of (acc f k n o) u = pick (nat_lt 0 f) (nanos_of f k u) 0

-- the nanoseconds of the digits that a list begins with
unfoldable pub fraction_nanos : List ℕ → ℕ → ℕ
fraction_nanos l u = frac_of (read_digits l no_digits) u
