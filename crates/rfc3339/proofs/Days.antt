-- For `days_from_civil`, `unix_seconds` and whoever reads the calendar: the closed formula for the days to a date against days counted year by year and
-- month by month, for all years. By induction on the year, division with remainder, and a computed test of the twelve months. Assumes nothing.
use mathlib.Core.Path.{◌≡◌, refl, sym}
use mathlib.Core.Bool.{Bool, true, false, not, ◌&&◌, ◌||◌}
use mathlib.Core.List.{[], ◌∷◌}
use Prim.Native.Nat.{ℕ, zero, suc, ◌+◌, ◌-◌, ◌*◌, ◌/◌, ◌%◌, ◌≤◌, ◌<◌}
use native.Mathlib.Nat.{add-zero}
use native.Mathlib.Omega.{arith}
use mir.Val.{bool_byte}
use lib.Dec.{T, ltb, eqb, eqb→eq, leb, leb→le}
use lib.ListN.{take, get_or}
use borrow.Author.Tests.{eqb-true, eqb-false, eq-eqb, ne_eqb}
use Rattle.base.specs.Choice.{pick}
use Rattle.base.proofs.Tests.{by_cases, true_false}
use Rattle.base.proofs.Tables.{all, all_below}
use Rattle.rfc3339.specs.Calendar.{is_leap, common_year, leap_year, month_lengths, sum_of, days_of_years, days_of_months, days_to}
use Rattle.rfc3339.specs.Helpers.{CivilDate}
use Rattle.rfc3339.specs.Instant.{epoch_seconds}

-- the days of the first n years of an era: in every fourth a leap day more, but in the hundredth, the two hundredth and the three hundredth
abbrev pub era_days : ℕ → ℕ
era_days n = 365 * n + n / 4 - n / 100 + n / 400

-- the days of a year
abbrev year_days : Bool → ℕ
year_days leap = pick leap 366 365

-- ---- a year more
-- a quotient that rises where the remainder is 0
risen : (p p' r : ℕ) → (r ≡ 0 → p' ≡ p + 1) → (0 < r → p' ≡ p) → p' ≡ p + pick (eqb r 0) 1 0
risen p p' r f g = by_cases (eqb r 0) (λ e. rw e (f (eqb-true r 0 e))) (λ e. rw e (omega (arith, g (omega (arith, eqb-false r 0 e)))))

-- the sum of the quotients, where 4 (a), 100 (b) and 400 (c) divide the year or not
sum_step : (x p q r : ℕ) → q ≤ p → (a b c : Bool) → (b ≡ true → a ≡ true) → (c ≡ true → b ≡ true)
    → x + 365 + (p + pick a 1 0) - (q + pick b 1 0) + (r + pick c 1 0) ≡ x + p - q + r + year_days (a && (not b || c))
sum_step x p q r h true true true f g = omega arith
sum_step x p q r h true true false f g = omega arith
sum_step x p q r h true false false f g = omega arith
sum_step x p q r h false false false f g = omega arith
sum_step x p q r h false true c f g = true_false false (f refl) refl
sum_step x p q r h a false true f g = true_false false (g refl) refl

-- 400 years hence the remainders are as now
era_step : (y : ℕ) → era_days (y + 400) ≡ era_days (y + 399) + year_days (is_leap y)
unfolding is_leap
era_step y =
    let n = y + 399 in
    let days : 365 * (y + 400) ≡ 365 * n + 365 = omega arith in
    rw (
      days,
      risen (n / 4) ((y + 400) / 4) (y % 4) (λ e. omega arith) (λ h. omega arith),
      risen (n / 100) ((y + 400) / 100) (y % 100) (λ e. omega arith) (λ h. omega arith),
      risen (n / 400) ((y + 400) / 400) (y % 400) (λ e. omega arith) (λ h. omega arith),
    )
    (sum_step (365 * n) (n / 4) (n / 100) (n / 400) (omega arith) (eqb (y % 4) 0) (eqb (y % 100) 0) (eqb (y % 400) 0)
    (λ e. eq-eqb (y % 4) 0 (omega (arith, eqb-true (y % 100) 0 e))) (λ e. eq-eqb (y % 100) 0 (omega (arith, eqb-true (y % 400) 0 e))))

-- the months of a year have 366 days or 365
pub year_sum : (y : ℕ) → sum_of (month_lengths y) ≡ pick (is_leap y) 366 365
year_sum y = by_cases (is_leap y) (λ e. rw e) (λ e. rw e)

-- the years before y, as those of an era that began 399 years before year 0
pub years_closed : (y : ℕ) → days_of_years y + 145731 ≡ era_days (y + 399)
unfolding days_of_years
years_closed zero = refl
years_closed (suc y) =
    let e : suc y + 399 ≡ y + 400 = omega arith in
    let s = sum_of (month_lengths y) in
    let r : days_of_years y + s + 145731 ≡ days_of_years y + 145731 + s = omega arith in
    rw (e, r, years_closed y, year_sum y) (sym (era_step y))

-- ---- the months
-- the two rows differ in February only
pub february_only : (k : ℕ) → get_or leap_year k 0 ≡ get_or common_year k 0 + pick (eqb k 1) 1 0
february_only zero = refl
february_only (suc zero) = refl
february_only (suc (suc k)) = rw (ne_eqb (suc (suc k)) 1 (λ e. omega arith), add-zero)

-- a month's length as the code looks it up: that of the definition, and at most 31
abbrev row_at : Bool → ℕ → ℕ
row_at leap k = get_or (get_or (common_year ∷ leap_year ∷ []) (bool_byte leap) []) k 0

pub row_is : (leap : Bool) (k : ℕ) → row_at leap k ≡ get_or (pick leap leap_year common_year) k 0
row_is true k = refl
row_is false k = refl

pub row_le : (leap : Bool) (k : ℕ) → k < 12 → row_at leap k ≤ 31
row_le true k h = leb→le _ _ (all_below (λ j. leb (row_at true j) 31) 12 tt k h)
row_le false k h = leb→le _ _ (all_below (λ j. leb (row_at false j) 31) 12 tt k h)

-- the days before a month in a year that began in March; from March on, with the year before it
abbrev march_days : Bool → ℕ → ℕ
march_days leap m = pick (ltb 2 m) (year_days leap) 0 + (153 * ((m + 9) % 12) + 2) / 5

-- from March to January there are 306 days
abbrev same_days : Bool → ℕ → Bool
same_days leap k = eqb (sum_of (take k (pick leap leap_year common_year)) + 306) (march_days leap (k + 1))

all_same : (leap : Bool) → T (all (same_days leap) 12)
all_same true = tt
all_same false = tt

months_closed : (leap : Bool) (k : ℕ) → k < 12 → sum_of (take k (pick leap leap_year common_year)) + 306 ≡ march_days leap (k + 1)
months_closed leap k h = eqb→eq _ _ (all_below (same_days leap) 12 (all_same leap) k h)

-- ---- a date
-- the code's sum, before the days that come before year 0 are taken off
abbrev civil_days : ℕ → ℕ → ℕ → ℕ
civil_days y m d = era_days (y + 399 + bool_byte (ltb 2 m)) + (153 * ((m + 9) % 12) + 2) / 5 + d

module _ (y m d : ℕ) (c : CivilDate y m d) where
  -- from March on, the days of the year are added
  late_days : era_days (y + 399 + bool_byte (ltb 2 m)) ≡ era_days (y + 399) + pick (ltb 2 m) (year_days (is_leap y)) 0
  late_days =
      let e : y + 399 + 1 ≡ y + 400 = omega arith in
      by_cases (ltb 2 m) (λ l. rw (l, e) (era_step y)) (λ l. rw (l, add-zero (y + 399), add-zero (era_days (y + 399))))

  month_days : days_of_months y m + 306 ≡ march_days (is_leap y) m
  unfolding days_of_months
  month_days =
      let e : m - 1 + 1 ≡ m = omega arith in
      rw e at (months_closed (is_leap y) (m - 1) (omega arith))

  civil_sum : civil_days y m d ≡ days_to y m d + 146038
  unfolding days_to
  civil_sum = rw (late_days, ← years_closed y) (sums (days_of_years y) _ _ _ month_days)
    where
      sums : (n late month months : ℕ) → months + 306 ≡ late + month → n + 145731 + late + month + d ≡ n + months + (d - 1) + 146038
      sums n late month months e = omega arith

  pub civil_days_lem : civil_days y m d - 146038 ≡ days_to y m d
  civil_days_lem = rw civil_sum (omega arith)

-- ---- the epoch
pub epoch_is : epoch_seconds ≡ 62167219200
unfolding epoch_seconds days_to days_of_months
epoch_is = omega (arith, years_closed 1970)
