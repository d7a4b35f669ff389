-- For `full_date`, Steps and Bounds: how large the numbers of each rule are where it holds, and the seconds of a local time and its offset. By the
-- ranges of pairs of digits, and by the law of days. Assumes nothing.
use mathlib.Core.Path.{◌≡◌, sym, ◌∙◌}
use mathlib.Core.Bool.{true, ◌&&◌}
use mathlib.Core.List.{List, [], ◌∷◌}
use Prim.Native.Nat.{ℕ, zero, suc, ◌+◌, ◌-◌, ◌*◌, ◌≤◌, ◌<◌, zero-le}
use native.Mathlib.Omega.{arith}
use Rattle.std.proofs.lemmas.Int.{ints}
use borrow.Author.Tests.{eqb-true, ne_eqb}
use lib.Dec.{eqb}
use lib.ListN.{take, get_or}
use Rattle.base.specs.Bytes.{byte}
use Rattle.base.specs.Classes.{is_digit}
use Rattle.base.proofs.Tests.{and_left, and_right, and-false, by_cases, pick_case, digit_range}
use Rattle.rfc3339.specs.Calendar.{month_lengths, month_length, sum_of, days_of_years, days_of_months, days_to}
use Rattle.rfc3339.specs.Grammar.{parse_grammar, is_at, is_pair, year_of, month_of, day_of, is_fullyear, is_month, is_full_date, has_two, hour_end, hour_of}
use Rattle.rfc3339.specs.Grammar.{is_hour, minute_of, second_of, is_minute, is_second, is_partial_time, secfrac_end, offset_hour_of}
use Rattle.rfc3339.specs.Grammar.{offset_minute_of, is_offset_hour, is_offset_minute, has_sign, is_numoffset, is_z, is_offset}
use Rattle.rfc3339.specs.Instant.{local_seconds, offset_seconds, seconds_of}
use Rattle.rfc3339.specs.Helpers.{offset_of, unix_seconds}
use Rattle.rfc3339.proofs.Days.{years_closed}
use Rattle.rfc3339.proofs.Pairs.{pair_low, pair_high, pair_or_next, second_is}

-- ---- full-date
-- the days before a month and in it are days of the year
part_le : (l : List ℕ) (k : ℕ) → sum_of (take k l) + get_or l k 0 ≤ sum_of l
part_le [] zero = zero-le
part_le [] (suc k) = zero-le
part_le (n ∷ l) zero = omega arith
part_le (n ∷ l) (suc k) = omega (arith, part_le l k)

years_le : (y : ℕ) → y ≤ 9999 → days_of_years y + sum_of (month_lengths y) ≤ 3652425
unfolding days_of_years
years_le y h = omega (arith, years_closed (suc y))

-- 3652424 days lie before 9999-12-31
pub last_day : (y m d : ℕ) → y ≤ 9999 → 1 ≤ d → d ≤ month_length y m → days_to y m d ≤ 3652424
unfolding days_to days_of_months month_length
last_day y m d h f l = omega (arith, part_le (month_lengths y) (m - 1), years_le y h)

days_le : (s : List ℕ) → is_full_date s ≡ true → days_to (year_of s) (month_of s) (day_of s) ≤ 3652424
unfolding is_full_date is_fullyear year_of
days_le s e =
    let a = (is_fullyear s && is_at 45 s 4) && (is_month s && is_at 45 s 7) in
    let y = and_left (is_fullyear s) _ (and_left (is_fullyear s && is_at 45 s 4) _ (and_left a _ e)) in
    let c = pair_high 0 99 s 0 (and_left (is_pair 0 99 s 0) _ y) in
    let r = pair_high 0 99 s 2 (and_right (is_pair 0 99 s 0) _ y) in
    let d = and_right a _ e in
    last_day (year_of s) (month_of s) (day_of s) (omega arith) (pair_low 1 _ s 8 d) (pair_high 1 _ s 8 d)

-- ---- partial-time
hour_le : (s : List ℕ) → is_hour parse_grammar s ≡ true → hour_of s ≤ 23
unfolding is_hour hour_of
hour_le s e =
    by_cases (has_two s) (λ d. rw d (pair_high 0 23 s 11 (rw d at e)))
    (λ d. rw d (omega (arith, digit_range (byte s 11) (and_left (is_digit (byte s 11)) true (rw d at e)))))

time_lt : (s : List ℕ) → is_partial_time parse_grammar s ≡ true → hour_of s * 3600 + minute_of s * 60 + second_of s < 86400
unfolding is_partial_time
time_lt s e =
    let i = hour_end s in
    let h = is_hour parse_grammar s && is_at 58 s i in
    let m = is_minute s && is_at 58 s (i + 3) in
    let a = and_left (h && m) _ e in
    let k = and_left (is_second parse_grammar s) _ (and_right (h && m) _ e) in
    let hour = hour_le s (and_left (is_hour parse_grammar s) _ (and_left h _ a)) in
    let minute = pair_high 0 59 s (i + 1) (and_left (is_minute s) _ (and_right h _ a)) in
    let second = pair_high 0 59 s (i + 4) (sym (second_is s) ∙ k) in
    omega arith

-- the two together
pub local_lt : (s : List ℕ) → is_full_date s ≡ true → is_partial_time parse_grammar s ≡ true → local_seconds s < 315569520000
unfolding local_seconds
local_lt s d t = omega (arith, days_le s d, time_lt s t)

-- ---- time-offset
record Numoffset (s : List ℕ) : Type 0 where
  pub sign : has_sign s ≡ true
  pub hour : offset_hour_of s ≤ 24
  pub minute : offset_minute_of s ≤ 60

numoffset : (s : List ℕ) → is_numoffset parse_grammar s ≡ true → Numoffset s
unfolding is_numoffset is_offset_hour is_offset_minute
numoffset s e =
    let z = secfrac_end s in
    let h = has_sign s && is_offset_hour parse_grammar s in
    let m = is_at 58 s (z + 3) && is_offset_minute parse_grammar s in
    let f = and_left (h && m) _ e in
    let i = and_left h _ f in
    record {
      sign = and_left (has_sign s) _ i;
      hour = pair_high 0 24 s (z + 1) (sym (pair_or_next 23 s (z + 1)) ∙ and_right (has_sign s) _ i);
      minute = pair_high 0 60 s (z + 4) (sym (pair_or_next 59 s (z + 4)) ∙ and_right (is_at 58 s (z + 3)) _ (and_right h _ f));
    }

module _ (s : List ℕ) (e : is_offset parse_grammar s ≡ true) where
  abbrev mark : ℕ
  mark = byte s (secfrac_end s)

  -- after another mark than "Z"
  other_mark : (mark ≡ 90 → ⊥) → Numoffset s
  unfolding is_z
  other_mark n = numoffset s (rw (ne_eqb mark 90 n, and-false (eqb mark 122)) at e)

  -- its sign is no "Z"
  pub offset_le : (k : ℕ) → k < 90 → offset_seconds k s ≤ 90000
  unfolding offset_seconds
  offset_le k h =
      pick_case (λ n. n ≤ 90000) (eqb mark k) (λ f. let o = other_mark (λ z. omega (arith, eqb-true mark k f)) in omega arith) (λ _. zero-le)

pub seconds_are : (s : List ℕ) → unix_seconds (local_seconds s) (offset_of s) ≡ seconds_of s
unfolding offset_of seconds_of
seconds_are s = omega (arith, ints)
