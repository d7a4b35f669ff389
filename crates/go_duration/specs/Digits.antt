-- Helper definitions, for proofs and inner contracts alone: the digits of a fraction, said for the proofs of distance, what is kept of them and what all
-- of them write.
use Rattle.std.specs.Prelude.{◌≡◌, ℕ, ◌+◌, ◌-◌, ◌*◌, ◌/◌, ◌^◌, ◌<◌, ◌≤◌, ◌⊎◌, Bool, List, [], ◌∷◌, ◌==◌, nat_lt}
use Prim.Native.Char.{code}
use Rattle.base.specs.Choice.{pick}
use Rattle.base.specs.Classes.{is_digit}
use Rattle.go_duration.specs.Fraction.{most, more, Acc, acc}

-- "A unit is its nanoseconds": at least one, and at most an hour's
pub record UnitNanos (u : ℕ) : Type 0 where
  pub some : 0 < u
  pub top : u ≤ 3600000000000

-- "digits kept within 63 bits form f": f is above 0 and is written in k digits
pub record Proper (f k : ℕ) : Type 0 where
  pub some : 0 < f
  pub fits : f ≤ most
  pub digits : f < 10 ^ k

-- Of a written fraction w / 10 ^ n "first k digits kept" are f, which is above 0. Digits are dropped only where a further one would not fit.
pub record Kept (f k w n : ℕ) : Type 0 where
  pub some : 0 < f
  pub fits : f ≤ most
  pub count : k ≤ n
  pub proper : w < 10 ^ n
  pub first : f ≡ w / 10 ^ (n - k)
  pub full : (k ≡ n) ⊎ (most < f * 10 + 9)

-- a zero, as the test of a run
abbrev pub is_zero : ℕ → ℕ → Bool
is_zero a b = a == code "0"

-- the digits of a `Fraction` (src/fraction.rt): some are dropped where fewer are kept than there are
abbrev pub acc_of : ℕ → ℕ → ℕ → Acc
acc_of f k n = acc f k n (nat_lt k n)

-- how many digits were read
abbrev pub count_of : Acc → ℕ
count_of (acc f k n o) = n

-- the number that the digits at the front write after w, with no word of what is kept
unfoldable pub all_of : List ℕ → ℕ → ℕ
all_of [] w = w
all_of (b ∷ bs) w = pick (is_digit b) (all_of bs (more w b)) w

-- how many digits stand at the front
unfoldable pub digit_count : List ℕ → ℕ
digit_count [] = 0
digit_count (b ∷ bs) = pick (is_digit b) (1 + digit_count bs) 0

-- "Its exact value is 0 point all the digits after the point, times the unit; its whole nanoseconds are that rounded down"
unfoldable pub exact_of : List ℕ → ℕ → ℕ
exact_of l u = all_of l 0 * u / 10 ^ digit_count l
