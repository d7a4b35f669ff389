-- RFC 3339's `date-time` (section 5.6), rule by rule, each with the place where it stands in a run of bytes. Where `rfc3339::parse` and the RFC part, a
-- switch decides: a grammar says of each parting whether it is taken.
use Rattle.std.specs.Prelude.{Bool, true, false, not, ◌&&◌, ◌||◌, List, ℕ, ◌+◌, ◌-◌, ◌*◌, eqb, length}
use Prim.Native.Char.{code}
use Rattle.base.specs.Choice.{pick}
use Rattle.base.specs.Bytes.{byte, within}
use Rattle.base.specs.Classes.{is_digit}
use Rattle.base.specs.Digits.{in_digits}
use Rattle.base.specs.Runs.{reach}
use Rattle.rfc3339.specs.Calendar.{month_length}

-- ---- the partings

-- what only one of `parse` and the RFC takes
pub data Parting : Type 0 where
  -- time-hour as one digit: `T3:04:05Z`
  hour_of_one_digit : Parting
  -- "," for the "." of time-secfrac
  comma_before_fraction : Parting
  -- 24 as the time-hour of time-numoffset
  offset_hour24 : Parting
  -- 60 as the time-minute of time-numoffset
  offset_minute60 : Parting
  -- "t" for "T"
  lower_case_t : Parting
  -- "z" for "Z"
  lower_case_z : Parting
  -- 60 as time-second
  second60 : Parting

-- whether each parting is taken
abbrev pub Grammar : Type 0
Grammar = Parting → Bool

-- RFC 3339: "T" and "Z" may be "t" and "z"; time-second is "00-58, 00-59, 00-60 based on leap second rules", of which the grammar has no table: 60 is
-- taken at every minute
abbrev pub rfc_grammar : Grammar
rfc_grammar hour_of_one_digit = false
rfc_grammar comma_before_fraction = false
rfc_grammar offset_hour24 = false
rfc_grammar offset_minute60 = false
rfc_grammar lower_case_t = true
rfc_grammar lower_case_z = true
rfc_grammar second60 = true

-- `parse` of rfc3339.rs
abbrev pub parse_grammar : Grammar
parse_grammar hour_of_one_digit = true
parse_grammar comma_before_fraction = true
parse_grammar offset_hour24 = true
parse_grammar offset_minute60 = true
parse_grammar lower_case_t = false
parse_grammar lower_case_z = false
parse_grammar second60 = false

-- ---- bytes and numbers at a place

-- the sign k stands at i
abbrev pub is_at : ℕ → List ℕ → ℕ → Bool
is_at k s i = eqb (byte s i) k

-- the number of a digit
abbrev pub digit_of : ℕ → ℕ
digit_of b = b - code "0"

-- the number of the two digits at i
unfoldable pub pair_of : List ℕ → ℕ → ℕ
pair_of s i = digit_of (byte s i) * 10 + digit_of (byte s (i + 1))

-- 2DIGIT at i, from lo to hi
unfoldable pub is_pair : ℕ → ℕ → List ℕ → ℕ → Bool
is_pair lo hi s i = (is_digit (byte s i) && is_digit (byte s (i + 1))) && within lo hi (pair_of s i)

-- ---- full-date, from 0 on

-- date-fullyear
unfoldable pub year_of : List ℕ → ℕ
year_of s = pair_of s 0 * 100 + pair_of s 2

-- date-month
abbrev pub month_of : List ℕ → ℕ
month_of s = pair_of s 5

-- date-mday
abbrev pub day_of : List ℕ → ℕ
day_of s = pair_of s 8

-- "date-fullyear = 4DIGIT"
unfoldable pub is_fullyear : List ℕ → Bool
is_fullyear s = is_pair 0 99 s 0 && is_pair 0 99 s 2

-- "date-month = 2DIGIT ; 01-12"
abbrev pub is_month : List ℕ → Bool
is_month s = is_pair 1 12 s 5

-- "date-mday = 2DIGIT ; 01-28, 01-29, 01-30, 01-31 based on month/year"
abbrev pub is_day : List ℕ → Bool
is_day s = is_pair 1 (month_length (year_of s) (month_of s)) s 8

-- "full-date = date-fullyear "-" date-month "-" date-mday"
unfoldable pub is_full_date : List ℕ → Bool
is_full_date s = ((is_fullyear s && is_at (code "-") s 4) && (is_month s && is_at (code "-") s 7)) && is_day s

-- the "T" of date-time, at 10
unfoldable pub is_t : Grammar → List ℕ → Bool
is_t g s = is_at (code "T") s 10 || (is_at (code "t") s 10 && g lower_case_t)

-- ---- partial-time, from 11 on

-- whether time-hour has two digits
abbrev pub has_two : List ℕ → Bool
has_two s = is_digit (byte s 12)

-- where time-hour ends
unfoldable pub hour_end : List ℕ → ℕ
hour_end s = pick (has_two s) 13 12

-- time-hour
unfoldable pub hour_of : List ℕ → ℕ
hour_of s = pick (has_two s) (pair_of s 11) (digit_of (byte s 11))

-- "time-hour = 2DIGIT ; 00-23"
unfoldable pub is_hour : Grammar → List ℕ → Bool
is_hour g s = pick (has_two s) (is_pair 0 23 s 11) (is_digit (byte s 11) && g hour_of_one_digit)

-- time-minute
abbrev pub minute_of : List ℕ → ℕ
minute_of s = pair_of s (hour_end s + 1)

-- time-second
abbrev pub second_of : List ℕ → ℕ
second_of s = pair_of s (hour_end s + 4)

-- "time-minute = 2DIGIT ; 00-59"
abbrev pub is_minute : List ℕ → Bool
is_minute s = is_pair 0 59 s (hour_end s + 1)

-- "time-second = 2DIGIT ; 00-58, 00-59, 00-60 based on leap second rules"
unfoldable pub is_second : Grammar → List ℕ → Bool
is_second g s = is_pair 0 59 s (hour_end s + 4) || (is_pair 60 60 s (hour_end s + 4) && g second60)

-- where a time-secfrac would begin
abbrev pub secfrac_place : List ℕ → ℕ
secfrac_place s = hour_end s + 6

-- a comma stands there, for the "." of time-secfrac
abbrev pub has_comma : List ℕ → Bool
has_comma s = is_at (code ",") s (secfrac_place s)

-- "[time-secfrac]", "time-secfrac = "." 1*DIGIT"
unfoldable pub has_secfrac : List ℕ → Bool
has_secfrac s = (is_at (code ".") s (secfrac_place s) || has_comma s) && is_digit (byte s (secfrac_place s + 1))

-- where it ends; time-offset begins there
unfoldable pub secfrac_end : List ℕ → ℕ
secfrac_end s = pick (has_secfrac s) (reach in_digits s (secfrac_place s + 1)) (secfrac_place s)

-- its mark is "." or, by the switch, ","
unfoldable pub is_secfrac : Grammar → List ℕ → Bool
is_secfrac g s = not (has_secfrac s && has_comma s) || g comma_before_fraction

-- "partial-time = time-hour ":" time-minute ":" time-second [time-secfrac]"
unfoldable pub is_partial_time : Grammar → List ℕ → Bool
is_partial_time g s =
    ((is_hour g s && is_at (code ":") s (hour_end s)) && (is_minute s && is_at (code ":") s (hour_end s + 3))) && (is_second g s && is_secfrac g s)

-- ---- time-offset, to the end

-- the time-hour and the time-minute of time-numoffset
abbrev pub offset_hour_of : List ℕ → ℕ
offset_hour_of s = pair_of s (secfrac_end s + 1)

abbrev pub offset_minute_of : List ℕ → ℕ
offset_minute_of s = pair_of s (secfrac_end s + 4)

-- "time-hour = 2DIGIT ; 00-23"
unfoldable pub is_offset_hour : Grammar → List ℕ → Bool
is_offset_hour g s = is_pair 0 23 s (secfrac_end s + 1) || (is_pair 24 24 s (secfrac_end s + 1) && g offset_hour24)

-- "time-minute = 2DIGIT ; 00-59"
unfoldable pub is_offset_minute : Grammar → List ℕ → Bool
is_offset_minute g s = is_pair 0 59 s (secfrac_end s + 4) || (is_pair 60 60 s (secfrac_end s + 4) && g offset_minute60)

-- the sign of time-numoffset
unfoldable pub has_sign : List ℕ → Bool
has_sign s = is_at (code "+") s (secfrac_end s) || is_at (code "-") s (secfrac_end s)

-- "time-numoffset = ("+" / "-") time-hour ":" time-minute", and nothing after it
unfoldable pub is_numoffset : Grammar → List ℕ → Bool
is_numoffset g s =
    ((has_sign s && is_offset_hour g s) && (is_at (code ":") s (secfrac_end s + 3) && is_offset_minute g s)) && eqb (length s) (secfrac_end s + 6)

-- the "Z" of time-offset, and nothing after it
unfoldable pub is_z : Grammar → List ℕ → Bool
is_z g s = (is_at (code "Z") s (secfrac_end s) || (is_at (code "z") s (secfrac_end s) && g lower_case_z)) && eqb (length s) (secfrac_end s + 1)

-- "time-offset = "Z" / time-numoffset"
abbrev pub is_offset : Grammar → List ℕ → Bool
is_offset g s = is_z g s || is_numoffset g s

-- "date-time = full-date "T" full-time", "full-time = partial-time time-offset"
unfoldable pub is_date_time : Grammar → List ℕ → Bool
is_date_time g s = (is_full_date s && is_t g s) && (is_partial_time g s && is_offset g s)
