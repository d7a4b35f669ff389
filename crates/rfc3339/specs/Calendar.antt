-- The calendar of RFC 3339: the lengths of months (section 5.7), leap years (appendix C), and days counted year by year and month by month.
use Rattle.std.specs.Prelude.{Bool, not, ◌&&◌, ◌||◌, List, [], ◌∷◌, ℕ, zero, suc, ◌+◌, ◌-◌, ◌%◌, eqb, take, get_or}
use Rattle.base.specs.Choice.{pick}

-- appendix C: every year that 4 divides, but for those that 100 divides and 400 does not
unfoldable pub is_leap : ℕ → Bool
is_leap y = eqb (y % 4) 0 && (not (eqb (y % 100) 0) || eqb (y % 400) 0)

-- 5.7: "the maximum value of date-mday", January to December, in a common year
abbrev pub common_year : List ℕ
common_year = 31 ∷ 28 ∷ 31 ∷ 30 ∷ 31 ∷ 30 ∷ 31 ∷ 31 ∷ 30 ∷ 31 ∷ 30 ∷ 31 ∷ []

-- and in a leap year
abbrev pub leap_year : List ℕ
leap_year = 31 ∷ 29 ∷ 31 ∷ 30 ∷ 31 ∷ 30 ∷ 31 ∷ 31 ∷ 30 ∷ 31 ∷ 30 ∷ 31 ∷ []

-- the lengths of a year's months
abbrev pub month_lengths : ℕ → List ℕ
month_lengths y = pick (is_leap y) leap_year common_year

-- the length of the month m of a year, January being 1
unfoldable pub month_length : ℕ → ℕ → ℕ
month_length y m = get_or (month_lengths y) (m - 1) 0

-- so many days together
abbrev pub sum_of : List ℕ → ℕ
sum_of [] = 0
sum_of (n ∷ ns) = n + sum_of ns

-- the days of the years before y, from year 0 on, counted year by year
unfoldable pub days_of_years : ℕ → ℕ
days_of_years zero = 0
days_of_years (suc y) = days_of_years y + sum_of (month_lengths y)

-- the days of the months before m in the year y, counted month by month
unfoldable pub days_of_months : ℕ → ℕ → ℕ
days_of_months y m = sum_of (take (m - 1) (month_lengths y))

-- the days from 0000-01-01 to a date
unfoldable pub days_to : ℕ → ℕ → ℕ → ℕ
days_to y m d = (days_of_years y + days_of_months y m) + (d - 1)
