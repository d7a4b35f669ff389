-- For `leading_int`, `fraction_at` and `next_part`: the digits at the front of a list, their number byte by byte, how many they are, and the test of
-- overflow. By induction on the list. Assumes nothing.
use Rattle.std.proofs.Common.{◌≡◌, ℕ, ◌+◌, ◌<◌, ◌≤◌, Some, None, true, false, ltb, leb, List, [], ◌∷◌, length, take, drop, sym, refl, ap, ◌∙◌, zero-le, le_refl, zero-add, add-one, arith, drop_of_length-le, drop-cons, le-ltb, lt-ltb, ltb-false, ltb-true, leb-true, leb-false}
use Rattle.std.proofs.lemmas.Option.{none-some}
use Rattle.base.specs.Choice.{pick}
use Rattle.base.specs.Bytes.{byte}
use Rattle.base.specs.Classes.{is_digit}
use Rattle.base.specs.Runs.{run, reach}
use Rattle.base.specs.Digits.{in_digits, value_from}
use Rattle.base.proofs.Tests.{and_right, by_cases, pick_first, pick_second}
use Rattle.base.proofs.Reaches.{loop_step, loop_stop, loop_end}
use Rattle.go_duration.specs.Fraction.{most, more, room, no_digits, read_digits}
use Rattle.go_duration.specs.Digits.{all_of, digit_count, count_of}
use Rattle.go_duration.specs.Parse.{whole_end, whole_of}
use Rattle.go_duration.specs.Stages.{leading_int}
use Rattle.go_duration.specs.declared.part.Whole.{Whole}
use Rattle.go_duration.proofs.DigitsRead.{read_count}

-- further digits make no number smaller
all_ge : (l : List ℕ) (w : ℕ) → w ≤ all_of l w
unfolding all_of
all_ge [] w = le_refl w
all_ge (b ∷ bs) w = by_cases (is_digit b) (λ e. rw e (omega (arith, all_ge bs (more w b)))) (λ e. rw e (le_refl w))

-- ---- the number, and how many they are, by the run of digits
pub all_value : (l : List ℕ) (w : ℕ) → all_of l w ≡ value_from w (take (run in_digits l) l)
unfolding all_of run value_from
all_value [] w = refl
all_value (b ∷ bs) w = by_cases (is_digit b) (λ e. rw e (all_value bs (more w b))) (λ e. rw e)

whole_all : (s : List ℕ) → all_of s 0 ≡ whole_of s
unfolding whole_of whole_end reach
whole_all s = rw (zero-add (run in_digits s)) (all_value s 0)

pub count_run : (l : List ℕ) → digit_count l ≡ run in_digits l
unfolding digit_count run
count_run [] = refl
count_run (b ∷ bs) = by_cases (is_digit b) (λ e. rw e (omega (arith, count_run bs))) (λ e. rw e)

-- the end of the digits that start at i, by the count of those read
pub read_end_at : (s : List ℕ) (i : ℕ) → reach in_digits s i ≡ i + count_of (read_digits (drop i s) no_digits)
unfolding reach
read_end_at s i = ap (λ (n : ℕ). i + n) (sym (read_count (drop i s) ∙ count_run (drop i s)))

-- ---- one digit more, where there is room
module _ (x b : ℕ) where
  pub digit_fits : (g : ℕ) → Some g ≡ pick (room x b) (Some (more x b)) None → (g ≡ more x b) × (g ≤ most)
  digit_fits g e =
      let p = pick_first (room x b) (none-some g) (sym e) in
      let q : g ≡ more x b = cc in
      (q, rw q (leb-true (more x b) most (and_right (leb x 922337203685477580) (leb (more x b) most) p.0)))

  pub digit_over : None ≡ pick (room x b) (Some (more x b)) None → most < more x b
  digit_over e =
      let p = pick_second (room x b) (λ z. none-some (more x b) (sym z)) (sym e) in
      by_cases (leb x 922337203685477580) (λ q. leb-false (more x b) most (rw q at p.0)) (λ q. let h = leb-false x 922337203685477580 q in omega arith)

-- ---- the loop of `leading_int`: the digits from i on, after x, write the whole number
pub record Reading (s : List ℕ) (x i : ℕ) : Type 0 where
  pub fits : x ≤ most
  pub ran : all_of (drop i s) x ≡ whole_of s
  pub ends : reach in_digits s i ≡ whole_end s

pub reading_first : (s : List ℕ) → Reading s 0 0
unfolding whole_end
reading_first s = record { fits = zero-le; ran = whole_all s; ends = refl }

module _ (s : List ℕ) (x i : ℕ) (g : Reading s x i) where
  -- at a byte that is no digit, and at the end
  number_is : all_of (drop i s) x ≡ x → i ≡ whole_end s → Some (record { value = x; used = i }) ≡ leading_int s
  unfolding leading_int
  number_is a e = rw (← g.ran, a, le-ltb most x g.fits, ← e)

  pub reading_stop : i < length s → is_digit (byte s i) ≡ false → Some (record { value = x; used = i }) ≡ leading_int s
  unfolding all_of
  reading_stop h e = number_is (rw (drop-cons s i 0 h, e)) (loop_stop in_digits s i (whole_end s) g.ends h e)

  pub reading_end : i ≤ length s → length s ≤ i → Some (record { value = x; used = length s }) ≡ leading_int s
  unfolding all_of
  reading_end k h =
      let q : length s ≡ i = omega arith in
      rw q (number_is (rw (drop_of_length-le s h)) (loop_end in_digits s i (whole_end s) g.ends h))

  -- at a digit
  module _ (h : i < length s) (e : is_digit (byte s i) ≡ true) where
    turned : all_of (drop (i + 1) s) (more x (byte s i)) ≡ whole_of s
    unfolding all_of
    turned = rw add-one (rw (drop-cons s i 0 h, e) at g.ran)

    pub reading_more : (y : ℕ) → Some y ≡ pick (room x (byte s i)) (Some (more x (byte s i))) None → Reading s y (i + 1)
    reading_more y q =
        let f = digit_fits x (byte s i) y q in
        record { fits = f.1; ran = rw f.0 turned; ends = loop_step in_digits s i (whole_end s) g.ends h e }

    -- a number that is above 2^63 stays above it
    pub reading_over : None ≡ pick (room x (byte s i)) (Some (more x (byte s i))) None → None ≡ leading_int s
    unfolding leading_int
    reading_over q =
        rw (lt-ltb most (whole_of s) (omega (arith, turned, digit_over x (byte s i) q, all_ge (drop (i + 1) s) (more x (byte s i)))))

-- ---- what its answer says
module _ (s : List ℕ) where
  pub record Told (v n : ℕ) : Type 0 where
    pub value : v ≡ whole_of s
    pub used : n ≡ whole_end s
    pub fits : v ≤ most

  pub number_told : (w : Whole) → Some w ≡ leading_int s → Told w.value w.used
  unfolding leading_int
  number_told w e =
      let p = pick_second (ltb most (whole_of s)) (none-some w) (sym e) in
      let f = p.1 in
      let h : w.value ≡ whole_of s = cc in
      record { value = h; used = cc; fits = rw h (ltb-false most (whole_of s) p.0) }

  pub over_told : None ≡ leading_int s → most < whole_of s
  unfolding leading_int
  over_told e = ltb-true most (whole_of s) (pick_first (ltb most (whole_of s)) (λ z. none-some _ (sym z)) (sym e)).0

-- what `leading_int` needs at each turn and each return
pub ruleset reading = (reading_first, reading_stop, reading_more, reading_over, reading_end)
