-- For the rules and `parse`: what each finds, step by step as the code takes them. By cases on the tests. Assumes nothing.
use mathlib.Core.Path.{◌≡◌, refl}
use mathlib.Core.Bool.{Bool, true, false, not, ◌&&◌, ◌||◌, or-true, or-false}
use mathlib.Core.List.{List}
use Prim.Native.Nat.{ℕ, ◌+◌, ◌*◌, ◌<◌}
use native.Mathlib.Omega.{arith}
use borrow.Author.Tests.{eqb-true}
use lib.Dec.{eqb, leb}
use lib.ListN.{length, get_or-eq_default}
use lib.IntN.{ℤ, pos, neg_ℤ}
use Rattle.std.proofs.lemmas.Int.{ints}
use Rattle.std.specs.Prelude.{Option, Some, None, option_and_then}
use Rattle.std.specs.Ordering.{nat_cmp, is_le}
use Rattle.std.proofs.lemmas.Bool.Decides.{nat_tests}
use Rattle.base.specs.Choice.{pick}
use Rattle.base.specs.Bytes.{byte}
use Rattle.base.specs.Classes.{is_digit}
use Rattle.base.proofs.Tests.{and-true, and-false, by_cases, no_digit, or_case, pick_same}
use Rattle.rfc3339.specs.Calendar.{month_length, days_to}
use Rattle.rfc3339.specs.Grammar.{parse_grammar, is_at, digit_of, pair_of, is_pair, year_of, is_fullyear, is_full_date, has_two, hour_end, hour_of, is_hour}
use Rattle.rfc3339.specs.Grammar.{has_comma, has_secfrac, secfrac_end, is_secfrac, is_partial_time, is_offset_hour, is_offset_minute, has_sign}
use Rattle.rfc3339.specs.Grammar.{offset_hour_of, offset_minute_of, month_of, day_of, minute_of, second_of, is_t, is_numoffset, is_z, is_offset, is_date_time}
use Rattle.rfc3339.specs.Instant.{local_seconds, offset_seconds, secfrac_digits, secfrac_nanos, date_by, date_of}
use Rattle.rfc3339.specs.Helpers.{found_if, pair_by, full_date, hour_at, partial_time, offset_of, time_offset, unix_seconds}
use Rattle.rfc3339.specs.declared.parse.Instant.{Instant}
use Rattle.rfc3339.proofs.Pairs.{pair_or_next, second_is}
use Rattle.rfc3339.proofs.Fields.{seconds_are}

infixl 10 ◌>>=◌
abbrev pub ◌>>=◌ : {A B : Type 0} → Option A → (A → Option B) → Option B
o >>= f = option_and_then f o

-- ---- steps and choices
pub step : {A B : Type 0} (b : Bool) (x y : Option A) (f : A → Option B) → pick b x y >>= f ≡ pick b (x >>= f) (y >>= f)
step true x y f = refl
step false x y f = refl

-- a choice by two tests
pub pick_and : {A : Type 0} (a b : Bool) (x y : A) → pick (a && b) x y ≡ pick a (pick b x y) y
pick_and true b x y = refl
pick_and false b x y = refl

pub pick_not : {A : Type 0} (b : Bool) (x y : A) → pick (not b) x y ≡ pick b y x
pick_not true x y = refl
pick_not false x y = refl

-- ---- two digits
-- a range of the code, as a test
at_most : (a b : ℕ) → is_le (nat_cmp a b) ≡ leb a b
at_most a b = grind (arith, nat_tests)

pub pair_steps : (lo hi a b : ℕ) → pair_by lo hi a b ≡ (let n = digit_of a * 10 + digit_of b in pick (is_digit a && is_digit b)
    (pick (is_le (nat_cmp lo n) && is_le (nat_cmp n hi)) (Some n) None) None)
unfolding pair_by
pair_steps lo hi a b = simp (pick_and, at_most)

pub pair_is : (lo hi : ℕ) (s : List ℕ) (i j : ℕ) → j ≡ i + 1 → pair_by lo hi (byte s i) (byte s j) ≡ found_if (is_pair lo hi s i) (pair_of s i)
unfolding pair_by is_pair pair_of
pair_is lo hi s i j e = rw e

-- ---- full-date
abbrev pub date_by_steps : List ℕ → Option ℕ
date_by_steps s = do
  c ← pair_by 0 99 (byte s 0) (byte s 1)
  r ← pair_by 0 99 (byte s 2) (byte s 3)
  m ← pair_by 1 12 (byte s 5) (byte s 6)
  d ← pair_by 1 (month_length (c * 100 + r) m) (byte s 8) (byte s 9)
  Some (days_to (c * 100 + r) m d)

pub date_steps : (s : List ℕ) → full_date s ≡ pick (is_at 45 s 4) (pick (is_at 45 s 7) (date_by_steps s) None) None
unfolding full_date is_full_date is_fullyear year_of
date_steps s =
    let day = λ (n : ℕ). pair_is 1 n s 8 9 refl in
    rw (pair_is 0 99 s 0 1 refl, pair_is 0 99 s 2 3 refl, pair_is 1 12 s 5 6 refl)
    (by_cases (is_at 45 s 4)
    (λ e. by_cases (is_at 45 s 7) (λ f. simp (e, f, day, and-true, step, pick_and)) (λ f. simp (e, f, and-false)))
    (λ e. simp (e, and-false)))

-- a date has ten bytes
pub date_short : (s : List ℕ) → length s < 10 → full_date s ≡ None
unfolding full_date is_full_date is_pair
date_short s h = let e : byte s 9 ≡ 0 = get_or-eq_default s 0 (omega arith) in rw (e, no_digit) (simp (and-false))

-- ---- partial-time
pub hour_steps : (s : List ℕ) → hour_at s
    ≡ pick (has_two s) (pair_by 0 23 (byte s 11) (byte s 12)) (found_if (is_digit (byte s 11)) (digit_of (byte s 11)))
unfolding hour_at hour_of is_hour pair_by is_pair pair_of
hour_steps s = by_cases (has_two s) (λ e. rw e) (λ e. rw (e, and-true (is_digit (byte s 11))))

abbrev pub time_by_steps : List ℕ → Option ℕ
time_by_steps s = do
  h ← hour_at s
  pick (not (is_at 58 s (hour_end s)) || not (is_at 58 s (hour_end s + 3))) None (do
    m ← pair_by 0 59 (byte s (hour_end s + 1)) (byte s (hour_end s + 2))
    k ← pair_by 0 59 (byte s (hour_end s + 4)) (byte s (hour_end s + 5))
    Some (h * 3600 + m * 60 + k))

any_mark : (s : List ℕ) → is_secfrac parse_grammar s ≡ true
unfolding is_secfrac
any_mark s = or-true (not (has_secfrac s && has_comma s))

pub time_steps : (s : List ℕ) → partial_time s ≡ time_by_steps s
unfolding partial_time hour_at is_partial_time
time_steps s =
    let h = hour_end s in
    rw (pair_is 0 59 s (h + 1) (h + 2) (omega arith), pair_is 0 59 s (h + 4) (h + 5) (omega arith), second_is s, any_mark s)
    (by_cases (is_at 58 s h)
    (λ e. by_cases (is_at 58 s (h + 3)) (λ f. simp (e, f, and-true, step, pick_and)) (λ f. simp (e, f, and-false, step, pick_same)))
    (λ e. simp (e, and-false, step, pick_same)))

-- ---- time-offset
-- the seconds under their sign
abbrev pub signed_by : Bool → ℕ → ℤ
signed_by west n = pick west (neg_ℤ (pos n)) (pos n)

abbrev pub numoffset_by_steps : List ℕ → Option ℤ
numoffset_by_steps s = do
  h ← pair_by 0 24 (byte s (secfrac_end s + 1)) (byte s (secfrac_end s + 2))
  m ← pair_by 0 60 (byte s (secfrac_end s + 4)) (byte s (secfrac_end s + 5))
  Some (signed_by (is_at 45 s (secfrac_end s)) (h * 3600 + m * 60))

abbrev pub has_marks : List ℕ → Bool
has_marks s = (is_at 43 s (secfrac_end s) || is_at 45 s (secfrac_end s)) && is_at 58 s (secfrac_end s + 3)

-- by the mark: of "Z" there are no seconds
offset_none : (s : List ℕ) → is_at 90 s (secfrac_end s) ≡ true → offset_of s ≡ pos 0
unfolding offset_of offset_seconds
offset_none s e = rw (eqb-true (byte s (secfrac_end s)) 90 e)

offset_signed : (s : List ℕ) → has_sign s ≡ true
    → offset_of s ≡ signed_by (is_at 45 s (secfrac_end s)) (offset_hour_of s * 3600 + offset_minute_of s * 60)
unfolding has_sign offset_of offset_seconds
offset_signed s e =
    let k = byte s (secfrac_end s) in
    or_case (eqb k 43) (eqb k 45) e (λ f. rw (eqb-true k 43 f) (omega (arith, ints))) (λ f. rw (eqb-true k 45 f) (omega (arith, ints)))

pub offset_steps : (s : List ℕ) → time_offset s
    ≡ pick (is_at 90 s (secfrac_end s)) (pick (eqb (length s) (secfrac_end s + 1)) (Some (pos 0)) None)
    (pick (has_marks s && eqb (length s) (secfrac_end s + 6)) (numoffset_by_steps s) None)
unfolding time_offset is_z is_numoffset is_offset_hour is_offset_minute has_sign
offset_steps s =
    let z = secfrac_end s in
    by_cases (is_at 90 s z) (λ e. rw (e, offset_none s e, eqb-true (byte s z) 90 e, or-false (eqb (length s) (z + 1))))
    (λ e. by_cases (is_at 43 s z || is_at 45 s z)
    (λ w. rw (
      e,
      w,
      offset_signed s w,
      and-false (is_at 122 s z),
      pair_or_next 23 s (z + 1),
      pair_or_next 59 s (z + 4),
      pair_is 0 24 s (z + 1) (z + 2) (omega arith),
      pair_is 0 60 s (z + 4) (z + 5) (omega arith),
    )
    (simp step (go (is_at 58 s (z + 3)) (eqb (length s) (z + 6)) (is_pair 0 24 s (z + 1)) (is_pair 0 60 s (z + 4)) _)))
    (λ w. rw (e, w, and-false (is_at 122 s z))))
  where
    go : (c l h m : Bool) (x : Option ℤ) → pick ((h && (c && m)) && l) x None ≡ pick (c && l) (pick h (pick m x None) None) None
    go false l h m x = rw (and-false h)
    go true false h m x = rw (and-false (h && m))
    go true true h m x = rw (and-true (h && m)) (pick_and h m x None)

-- ---- date-time
abbrev pub instant_by_steps : List ℕ → Option Instant
instant_by_steps s = do
  days ← full_date s
  pick (is_at 84 s 10) (do
    time ← partial_time s
    offset ← time_offset s
    Some (record {
      seconds = unix_seconds (days * 86400 + time) offset;
      nanos = secfrac_nanos (secfrac_digits s);
    })) None

pub instant_steps : (s : List ℕ) → date_of s ≡ instant_by_steps s
unfolding date_by is_date_time is_t full_date partial_time time_offset local_seconds
instant_steps s =
    by_cases (is_offset parse_grammar s)
    (λ e. simp (e, step, pick_and, and-true, and-false, or-false, local, seconds_are s))
    (λ e. simp (e, step, and-false, pick_same))
  where
    local : days_to (year_of s) (month_of s) (day_of s) * 86400 + (hour_of s * 3600 + minute_of s * 60 + second_of s) ≡ local_seconds s
    local = omega arith
