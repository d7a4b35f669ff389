-- Runs worked out by the definitions alone, as two tables: by `parse` the first and the last dates and the edges of each rule, and for each parting a run
-- that uses it alone.
use Rattle.std.specs.Prelude.{◌≡◌, refl, List, [], ◌∷◌, ◌++◌, map, ℕ, ℤ, pos, negsuc, Option, Some, None}
use Rattle.base.specs.Characters.{ascii}
use Rattle.base.specs.Classes.{is_digit}
use Rattle.base.specs.Digits.{value_from}
use Rattle.base.specs.Runs as runs
use Rattle.rfc3339.specs.Calendar.{is_leap, month_length, days_of_years, days_of_months, days_to}
use Rattle.rfc3339.specs.Grammar.{Parting, hour_of_one_digit, comma_before_fraction, offset_hour24, offset_minute60, lower_case_t, lower_case_z, second60}
use Rattle.rfc3339.specs.Grammar.{rfc_grammar, parse_grammar, pair_of, is_pair, year_of, is_fullyear, is_full_date, is_t, hour_end, hour_of, is_hour, is_second}
use Rattle.rfc3339.specs.Grammar.{has_secfrac, secfrac_end, is_secfrac, is_partial_time, is_offset_hour, is_offset_minute, has_sign, is_numoffset, is_z}
use Rattle.rfc3339.specs.Grammar.{is_date_time}
use Rattle.rfc3339.specs.Instant.{local_seconds, epoch_seconds, offset_seconds, seconds_of, secfrac_digits, secfrac_nanos, date_by, date_of}
use Rattle.rfc3339.specs.Partings.{uses, partings, used}
use Rattle.rfc3339.specs.declared.parse.Instant.{Instant}

-- a run, and what it is as a date-time
pub record Case : Type 0 where
  pub run : List ℕ
  pub want : Option Instant

-- the instant of so many seconds and nanoseconds
abbrev instant : ℤ → ℕ → Option Instant
instant x n = Some (record { seconds = x; nanos = n })

abbrev row : List ℕ → Option Instant → Case
row t w = record { run = t; want = w }

abbrev pub cases : List Case
cases =
    -- around 1970
    (row (ascii "1970-01-01T00:00:00Z") (instant (pos 0) 0))
    ∷ (row (ascii "1969-12-31T23:59:59.5Z") (instant (negsuc 0) 500000000))
    -- the first and the last years
    ∷ (row (ascii "0000-01-01T00:00:00Z") (instant (negsuc 62167219199) 0))
    ∷ (row (ascii "0000-02-29T00:00:00Z") (instant (negsuc 62162121599) 0))
    ∷ (row (ascii "9999-12-31T23:59:59.999999999Z") (instant (pos 253402300799) 999999999))
    -- the first and the last instants
    ∷ (row (ascii "0000-01-01T00:00:00+24:60") (instant (negsuc 62167309199) 0))
    ∷ (row (ascii "9999-12-31T23:59:59.999999999-24:60") (instant (pos 253402390799) 999999999))
    -- leap years
    ∷ (row (ascii "2000-02-29T00:00:00Z") (instant (pos 951782400) 0))
    ∷ (row (ascii "2024-02-29T00:00:00Z") (instant (pos 1709164800) 0))
    ∷ (row (ascii "1900-02-29T00:00:00Z") None)
    ∷ (row (ascii "2100-02-29T00:00:00Z") None)
    ∷ (row (ascii "2023-02-29T00:00:00Z") None)
    -- months and days
    ∷ (row (ascii "2024-00-02T03:04:05Z") None)
    ∷ (row (ascii "2024-13-02T03:04:05Z") None)
    ∷ (row (ascii "2024-01-00T03:04:05Z") None)
    ∷ (row (ascii "2024-01-32T03:04:05Z") None)
    ∷ (row (ascii "2024-04-31T03:04:05Z") None)
    ∷ (row (ascii "2024-04-30T03:04:05Z") (instant (pos 1714446245) 0))
    -- hours, minutes and seconds
    ∷ (row (ascii "2024-01-02T03:04:05Z") (instant (pos 1704164645) 0))
    ∷ (row (ascii "2024-01-02T3:04:05Z") (instant (pos 1704164645) 0))
    ∷ (row (ascii "2024-01-02T24:00:00Z") None)
    ∷ (row (ascii "2024-01-02T03:60:05Z") None)
    ∷ (row (ascii "2024-01-02T03:04:60Z") None)
    -- fractions: what is less than a nanosecond is cut off
    ∷ (row (ascii "2024-01-02T03:04:05.1234567899Z") (instant (pos 1704164645) 123456789))
    ∷ (row (ascii "2024-01-02T03:04:05.9999999999Z") (instant (pos 1704164645) 999999999))
    ∷ (row (ascii "2024-01-02T03:04:05,5Z") (instant (pos 1704164645) 500000000))
    ∷ (row (ascii "2024-01-02T03:04:05.Z") None)
    -- offsets
    ∷ (row (ascii "2024-01-02T03:04:05+01:30") (instant (pos 1704159245) 0))
    ∷ (row (ascii "2024-01-02T03:04:05-01:30") (instant (pos 1704170045) 0))
    ∷ (row (ascii "2024-01-02T03:04:05-00:00") (instant (pos 1704164645) 0))
    ∷ (row (ascii "2024-01-02T03:04:05+24:00") (instant (pos 1704078245) 0))
    ∷ (row (ascii "2024-01-02T03:04:05+00:60") (instant (pos 1704161045) 0))
    ∷ (row (ascii "2024-01-02T03:04:05+25:00") None)
    ∷ (row (ascii "2024-01-02T03:04:05+00:61") None)
    ∷ (row (ascii "2024-01-02T03:04:05") None)
    ∷ (row (ascii "2024-01-02T03:04:05+0000") None)
    ∷ (row (ascii "2024-01-02T03:04:05+00") None)
    ∷ (row (ascii "2024-01-02T03:04:05Z0") None)
    ∷ (row (ascii "2024-01-02T03:04:05+00:00Z") None)
    -- other signs
    ∷ (row (ascii "2024-01-02t03:04:05Z") None)
    ∷ (row (ascii "2024-01-02T03:04:05z") None)
    ∷ (row (ascii "2024-01-02 03:04:05Z") None)
    -- parts of runs
    ∷ (row (ascii "2024-") None)
    ∷ (row [] None)
    -- a byte that no UTF-8 has
    ∷ (row (ascii "2024-01-02T03:04:05" ++ (0xFF ∷ [])) None)
    ∷ []

-- every row of the table holds
pub worked : map (λ (c : Case). date_of c.run) cases ≡ map (λ (c : Case). c.want) cases
unfolding date_by is_date_time is_full_date is_fullyear is_pair pair_of year_of month_length is_leap days_to days_of_years days_of_months is_t hour_end hour_of
    is_hour is_second has_secfrac secfrac_end is_secfrac is_partial_time is_offset_hour is_offset_minute has_sign is_numoffset is_z local_seconds
    epoch_seconds offset_seconds
    seconds_of secfrac_digits secfrac_nanos value_from runs.run runs.reach is_digit
worked = refl

-- ---- the partings

-- the partings that a run uses, and what it is by the RFC and by `parse`
pub record Compared : Type 0 where
  pub uses_these : List Parting
  pub by_rfc : Option Instant
  pub by_parse : Option Instant

abbrev pub compared : List ℕ → Compared
compared s = record { uses_these = used s; by_rfc = date_by rfc_grammar s; by_parse = date_by parse_grammar s }

-- a run, and what is to come of the comparison
pub record PartingCase : Type 0 where
  pub run : List ℕ
  pub want : Compared

-- of a run that uses one parting alone
abbrev parting_row : Parting → List ℕ → Option Instant → Option Instant → PartingCase
parting_row p t r w = record { run = t; want = record { uses_these = p ∷ []; by_rfc = r; by_parse = w } }

abbrev pub parting_cases : List PartingCase
parting_cases =
    (parting_row lower_case_t (ascii "2024-01-02t03:04:05Z") (instant (pos 1704164645) 0) None)
    ∷ (parting_row hour_of_one_digit (ascii "2024-01-02T3:04:05Z") None (instant (pos 1704164645) 0))
    ∷ (parting_row second60 (ascii "2016-12-31T23:59:60Z") (instant (pos 1483228800) 0) None)
    ∷ (parting_row comma_before_fraction (ascii "2024-01-02T03:04:05,5Z") None (instant (pos 1704164645) 500000000))
    ∷ (parting_row lower_case_z (ascii "2024-01-02T03:04:05z") (instant (pos 1704164645) 0) None)
    ∷ (parting_row offset_hour24 (ascii "2024-01-02T03:04:05+24:00") None (instant (pos 1704078245) 0))
    ∷ (parting_row offset_minute60 (ascii "2024-01-02T03:04:05+00:60") None (instant (pos 1704161045) 0))
    ∷ []

-- each parting has a row
pub partings_have_rows : map (λ (c : PartingCase). c.want.uses_these) parting_cases ≡ map (λ (p : Parting). p ∷ []) partings
partings_have_rows = refl

-- every row of the table holds
pub partings_worked : map (λ (c : PartingCase). compared c.run) parting_cases ≡ map (λ (c : PartingCase). c.want) parting_cases
unfolding uses date_by is_date_time is_full_date is_fullyear is_pair pair_of year_of month_length is_leap days_to days_of_years days_of_months is_t hour_end
    hour_of is_hour is_second has_secfrac secfrac_end is_secfrac is_partial_time is_offset_hour is_offset_minute has_sign is_numoffset is_z local_seconds
    epoch_seconds offset_seconds seconds_of secfrac_digits secfrac_nanos value_from runs.run runs.reach is_digit
partings_worked = refl
