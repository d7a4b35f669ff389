-- The instant that a date-time names: whole seconds from 1970-01-01T00:00:00Z and nanoseconds; document 02, #101.
use Rattle.std.specs.Prelude.{Bool, List, ℕ, ◌+◌, ◌-◌, ◌*◌, ◌/◌, ◌^◌, ◌<◌, ℤ, pos, neg_ℤ, ◌-ℤ◌, length, take, drop, ◌≤ℤ◌}
use Rattle.std.specs.Prelude.{Option, Some, None, is_some}
use Prim.Native.Char.{code}
use Rattle.base.specs.Choice.{pick}
use Rattle.base.specs.Digits.{value_of}
use Rattle.rfc3339.specs.Calendar.{days_to}
use Rattle.rfc3339.specs.Grammar.{Grammar, parse_grammar, is_at, year_of, month_of, day_of, hour_of, minute_of, second_of, secfrac_place, secfrac_end}
use Rattle.rfc3339.specs.Grammar.{offset_hour_of, offset_minute_of, is_date_time}
use Rattle.rfc3339.specs.declared.parse.Instant.{Instant}

-- Types of the code (src/parse.rt). `Instant`: the seconds and the nanoseconds of a date-time.

-- the seconds of a day, an hour and a minute
abbrev pub day_seconds : ℕ
day_seconds = 86400

abbrev pub hour_seconds : ℕ
hour_seconds = 3600

abbrev pub minute_seconds : ℕ
minute_seconds = 60

-- the seconds from 0000-01-01T00:00:00 to the written date and time, both of one offset
unfoldable pub local_seconds : List ℕ → ℕ
local_seconds s =
    ((days_to (year_of s) (month_of s) (day_of s) * day_seconds + hour_of s * hour_seconds) + minute_of s * minute_seconds) + second_of s

-- the same of 1970-01-01T00:00:00
unfoldable pub epoch_seconds : ℕ
epoch_seconds = days_to 1970 1 1 * day_seconds

-- the seconds of time-numoffset, where its sign is k, else 0: of "Z" there are none
unfoldable pub offset_seconds : ℕ → List ℕ → ℕ
offset_seconds k s = pick (is_at k s (secfrac_end s)) (offset_hour_of s * hour_seconds + offset_minute_of s * minute_seconds) 0

-- RFC 3339, 4.2: an offset is local time less UTC, so that it is taken off for "+" and put on for "-"
unfoldable pub seconds_of : List ℕ → ℤ
seconds_of s = pos (local_seconds s + offset_seconds (code "-") s) -ℤ pos (epoch_seconds + offset_seconds (code "+") s)

-- the digits of time-secfrac, or none
unfoldable pub secfrac_digits : List ℕ → List ℕ
secfrac_digits s = take (secfrac_end s - (secfrac_place s + 1)) (drop (secfrac_place s + 1) s)

-- the whole nanoseconds of a second's fraction with these digits: what is left over is cut off
unfoldable pub secfrac_nanos : List ℕ → ℕ
secfrac_nanos digits = value_of digits * 10 ^ 9 / 10 ^ length digits

-- the instant that a run names
abbrev pub instant_of : List ℕ → Instant
instant_of s = record { seconds = seconds_of s; nanos = secfrac_nanos (secfrac_digits s) }

-- what a run is by a grammar
unfoldable pub date_by : Grammar → List ℕ → Option Instant
date_by g s = pick (is_date_time g s) (Some (instant_of s)) None

-- document 02, #101: "whole seconds from 1970-01-01T00:00:00Z and the nanoseconds as `parse` gives them", "no date" for a bad run
abbrev pub date_of : List ℕ → Option Instant
date_of s = date_by parse_grammar s

-- whether a run is a date
abbrev pub is_date : Option Instant → Bool
is_date r = is_some r

-- where the dates that `parse` takes lie: from 0000-01-01T00:00:00+24:60 on to 9999-12-31T23:59:59.999999999-24:60
pub record InRange (seconds : ℤ) (nanos : ℕ) : Type 0 where
  pub seconds_first : neg_ℤ (pos 62167309200) ≤ℤ seconds
  pub seconds_last : seconds ≤ℤ pos 253402390799
  pub nanos_last : nanos < 10 ^ 9
