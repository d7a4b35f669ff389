-- Helper definitions, for proofs and inner contracts alone: what each rule finds, and the bounds of numbers.
use Rattle.std.specs.Prelude.{Bool, ◌&&◌, List, ℕ, ◌+◌, ◌*◌, ◌≤◌, ◌<◌, ℤ, pos, neg_ℤ, ◌-ℤ◌, ◌≤ℤ◌, Option, Some, None}
use Prim.Native.Char.{code}
use Rattle.base.specs.Choice.{pick}
use Rattle.base.specs.Bytes.{within}
use Rattle.base.specs.Classes.{is_digit}
use Rattle.rfc3339.specs.Calendar.{days_to}
use Rattle.rfc3339.specs.Grammar.{parse_grammar, digit_of, year_of, month_of, day_of, is_full_date, hour_of, is_hour}
use Rattle.rfc3339.specs.Grammar.{minute_of, second_of, is_partial_time, is_offset}
use Rattle.rfc3339.specs.Instant.{hour_seconds, minute_seconds, epoch_seconds, offset_seconds}

-- ---- bounds

-- a year of four digits, a month and a day
pub record CivilDate (y m d : ℕ) : Type 0 where
  pub year : y ≤ 9999
  pub month_first : 1 ≤ m
  pub month_last : m ≤ 12
  pub day_first : 1 ≤ d
  pub day_last : d ≤ 31

-- the seconds of an offset
abbrev pub OffsetRange : ℤ → Type 0
OffsetRange z = (neg_ℤ (pos 90000) ≤ℤ z) × (z ≤ℤ pos 90000)

-- the seconds of a date with its time, and of an offset
pub record SecondsFit (local : ℕ) (offset : ℤ) : Type 0 where
  pub local_in : local < 400000000000
  pub offset_in : OffsetRange offset

-- ---- what the rules find

-- the number where the rule holds
abbrev pub found_if : {A : Type 0} → Bool → A → Option A
found_if ok n = pick ok (Some n) None

-- the number of two digits, from lo to hi
unfoldable pub pair_by : ℕ → ℕ → ℕ → ℕ → Option ℕ
pair_by lo hi a b = let n = digit_of a * 10 + digit_of b in found_if ((is_digit a && is_digit b) && within lo hi n) n

-- the days from 0000-01-01
unfoldable pub full_date : List ℕ → Option ℕ
full_date s = found_if (is_full_date s) (days_to (year_of s) (month_of s) (day_of s))

-- the hour, of one digit or two
unfoldable pub hour_at : List ℕ → Option ℕ
hour_at s = found_if (is_hour parse_grammar s) (hour_of s)

-- the seconds of the time of day
unfoldable pub partial_time : List ℕ → Option ℕ
partial_time s = found_if (is_partial_time parse_grammar s) ((hour_of s * hour_seconds + minute_of s * minute_seconds) + second_of s)

-- the seconds of the offset, local time less UTC
unfoldable pub offset_of : List ℕ → ℤ
offset_of s = pos (offset_seconds (code "+") s) -ℤ pos (offset_seconds (code "-") s)

-- these seconds
unfoldable pub time_offset : List ℕ → Option ℤ
time_offset s = found_if (is_offset parse_grammar s) (offset_of s)

-- the seconds from 1970-01-01T00:00:00Z to a local time of that offset
abbrev pub unix_seconds : ℕ → ℤ → ℤ
unix_seconds local offset = pos local -ℤ pos epoch_seconds -ℤ offset
