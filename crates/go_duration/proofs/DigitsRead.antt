-- For `Fraction::nanos`, `leading_fraction`, FrontDigits and WrittenSums: what `read_digits` reads. The kept digits are the first ones of all, and digits
-- are dropped only where a further one would not fit; so the distance of one nanosecond holds of `fraction_nanos`. By induction on the bytes. Assumes
-- nothing.
use Rattle.std.proofs.Common.{◌≡◌, ℕ, ◌+◌, ◌-◌, ◌*◌, ◌/◌, ◌^◌, ◌<◌, ◌≤◌, Bool, true, false, not, ◌&&◌, ltb, leb, List, [], ◌∷◌, sym, refl, ◌∙◌, inl, inr, add-zero, mul_comm, pos_of_ne-zero, div-lt_iff_lt-mul, zero-add, zero-mul, div-one, arith, lit<, lit≤, pow-add, ltb-false, ltb-true, lt-ltb, leb-false, leb-true}
use native.Mathlib.Nat.{zero-div, div-div-eq-div-mul, one-le-pow}
use Rattle.base.specs.Classes.{is_digit}
use Rattle.base.proofs.Tests.{and_right, by_cases, true_false, digit_range}
use Rattle.go_duration.specs.Fraction.{most, nanos_of, more, room, Acc, acc, no_digits, add_digit, read_digits, frac_of, fraction_nanos}
use Rattle.go_duration.specs.Digits.{Kept, UnitNanos, all_of, count_of, digit_count, exact_of}
use Rattle.go_duration.specs.Written.{ByOne}
use Rattle.go_duration.proofs.Distance.{power_split, first_all, distance}

-- of n digits that write w the first k are kept and form f; o: some were dropped
record Taken (f k n : ℕ) (o : Bool) (w : ℕ) : Type 0 where
  pub fits : f ≤ most
  pub count : k ≤ n
  pub proper : w < 10 ^ n
  pub first : f ≡ w / 10 ^ (n - k)
  pub whole : o ≡ false → k ≡ n
  pub full : o ≡ true → most < f * 10 + 9

abbrev Took : Acc → ℕ → Type 0
Took (acc f k n o) w = Taken f k n o w

-- ---- one digit more
grow : (w d n : ℕ) → w < 10 ^ n → d ≤ 9 → w * 10 + d < 10 ^ (n + 1)
grow w d n h k = rw (pow-add 10 n 1) (omega arith)

drop_one : (w d j : ℕ) → d ≤ 9 → (w * 10 + d) / 10 ^ (j + 1) ≡ w / 10 ^ j
drop_one w d j h =
    let last : (w * 10 + d) / 10 ≡ w = omega arith in
    rw (pow-add 10 j 1, mul_comm (10 ^ j) 10, ← div-div-eq-div-mul (w * 10 + d) 10 (10 ^ j), last)

module _ (f k n : ℕ) (o : Bool) (w b : ℕ) (t : Taken f k n o w) (B : b - 48 ≤ 9) where
  kept : o ≡ false → more f b ≤ most → Taken (more f b) (k + 1) (n + 1) false (more w b)
  kept e h =
      let s : k ≡ n = t.whole e in
      let z : n + 1 - (k + 1) ≡ 0 = omega arith in
      record {
        fits = h;
        count = omega arith;
        proper = grow w (b - 48) n t.proper B;
        first = rw (z, first_all f k w n t.first s) (sym (div-one (more w b)));
        whole = λ _. omega arith;
        full = λ c. true_false false c refl;
      }

  dropped : most < f * 10 + 9 → Taken f k (n + 1) true (more w b)
  dropped h =
      let c : k ≤ n = t.count in
      let z : n + 1 - k ≡ n - k + 1 = omega arith in
      record {
        fits = t.fits;
        count = omega arith;
        proper = grow w (b - 48) n t.proper B;
        first = rw (z, drop_one w (b - 48) (n - k) B) t.first;
        whole = λ c. true_false true refl c;
        full = λ _. h;
      }

  no_room : room f b ≡ false → most < f * 10 + 9
  no_room e =
      by_cases (leb f 922337203685477580) (λ p. let h = leb-false (more f b) most (rw p at e) in omega arith)
      (λ p. let h = leb-false f 922337203685477580 p in omega arith)

  has_room : room f b ≡ true → more f b ≤ most
  has_room e = leb-true (more f b) most (and_right (leb f 922337203685477580) (leb (more f b) most) e)

  stepped : Took (add_digit (acc f k n o) b) (more w b)
  unfolding add_digit
  stepped =
      by_cases o (λ d. rw d (dropped (t.full d)))
      (λ d. by_cases (room f b) (λ e. rw (d, e) (kept d (has_room e))) (λ e. rw (d, e) (dropped (no_room e))))

-- ---- all the bytes
took_all : (l : List ℕ) (a : Acc) (w : ℕ) → Took a w → Took (read_digits l a) (all_of l w)
unfolding read_digits all_of
took_all [] a w t = t
took_all (b ∷ bs) a w t = by_cases (is_digit b) (λ d. rw d (took_all bs (add_digit a b) (more w b) (more_took a t (digit_range b d)))) (λ d. rw d t)
  where
    more_took : (a : Acc) → Took a w → (48 ≤ b) × (b ≤ 57) → Took (add_digit a b) (more w b)
    more_took (acc f k n o) t d = stepped f k n o w b t (omega arith)

none : Took no_digits 0
none = record { fits = lit≤ tt; count = lit≤ tt; proper = lit< tt; first = refl; whole = λ _. refl; full = λ c. true_false false c refl }

read_took : (l : List ℕ) → Took (read_digits l no_digits) (all_of l 0)
read_took l = took_all l no_digits 0 none

-- ---- `read_digits` counts all the digits
step_count : (a : Acc) (b : ℕ) → count_of (add_digit a b) ≡ count_of a + 1
unfolding add_digit
step_count (acc f k n o) b = by_cases (not o && room f b) (λ e. rw e) (λ e. rw e)

count_all : (l : List ℕ) (a : Acc) → count_of (read_digits l a) ≡ count_of a + digit_count l
unfolding read_digits digit_count
count_all [] a = rw add-zero
count_all (b ∷ bs) a =
    by_cases (is_digit b) (λ d. rw d (omega (arith, count_all bs (add_digit a b), step_count a b))) (λ d. rw (d, add-zero))

pub read_count : (l : List ℕ) → count_of (read_digits l no_digits) ≡ digit_count l
read_count l = count_all l no_digits ∙ zero-add (digit_count l)

-- ---- the distance
module _ (f k n : ℕ) (o : Bool) (w : ℕ) (t : Taken f k n o w) where
  first_lt : f < 10 ^ k
  first_lt = rw t.first ((div-lt_iff_lt-mul (one-le-pow (n - k) 10 (lit< tt))).1 (rw (power_split k n t.count) at t.proper))

  kept_of : 0 < f → Kept f k w n
  kept_of F = record {
    some = F;
    fits = t.fits;
    count = t.count;
    proper = t.proper;
    first = t.first;
    full = by_cases o (λ e. inr (t.full e)) (λ e. inl (t.whole e));
  }

  -- with no digit above 0 kept, there is none
  all_zero : f ≤ 0 → w ≡ 0
  all_zero z =
      by_cases o (λ e. absurd (let h = t.full e in omega arith)) (λ e. let q = first_all f k w n t.first (t.whole e) in omega arith)

acc_distance : (a : Acc) (w u : ℕ) → Took a w → UnitNanos u → ByOne (frac_of a u) (w * u / 10 ^ count_of a)
unfolding frac_of
acc_distance (acc f k n o) w u t v =
    by_cases (ltb 0 f) (λ e. rw e (distance f k w n u (kept_of f k n o w t (ltb-true 0 f e)) v))
    (λ e. rw (e, all_zero f k n o w t (ltb-false 0 f e), zero-mul, zero-div) (omega arith))

-- document 01's distance, of the bytes after a point
pub read_distance : (l : List ℕ) (u : ℕ) → UnitNanos u → ByOne (fraction_nanos l u) (exact_of l u)
unfolding exact_of fraction_nanos
read_distance l u v = rw (← read_count l) (acc_distance (read_digits l no_digits) (all_of l 0) u (read_took l) v)

-- ---- what a fraction as the code has it comes to: its kept digits, and its nanoseconds
module _ (f k n : ℕ) (o : Bool) where
  pub kept_read : (l : List ℕ) → acc f k n o ≡ read_digits l no_digits → (f ≤ most) × (f < 10 ^ k)
  kept_read l e =
      let t = rw (← e) at (read_took l) in
      (t.fits, first_lt f k n o (all_of l 0) t)

  module _ (u : ℕ) where
    pub frac_some : (f ≡ 0 → ⊥) → nanos_of f k u ≡ frac_of (acc f k n o) u
    unfolding frac_of
    frac_some z = rw (lt-ltb 0 f (pos_of_ne-zero z))

    pub frac_none : f ≡ 0 → 0 ≡ frac_of (acc f k n o) u
    unfolding frac_of
    frac_none e = rw e
