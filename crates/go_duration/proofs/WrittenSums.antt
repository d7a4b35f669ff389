-- For the lexer (demand 3's words of a Duration): the nanoseconds of an accepted run are the sum of its parts as written, each written fraction within one
-- nanosecond. From the distance of the floats. Assumes nothing.
use Rattle.std.proofs.Common.{◌≡◌, ℕ, Bool, true, false, Some, List, [], ◌∷◌, length, ℤ, refl, ◌∙◌, append-nil, arith}
use lib.Seq.{take-length}
use Rattle.base.specs.Bytes.{each, byte, same_bytes}
use Rattle.base.specs.Classes.{is_digit}
use Rattle.base.specs.Runs.{run}
use Rattle.base.specs.Digits.{in_digits, value_from}
use Rattle.base.proofs.Fronts.{run_front}
use Rattle.go_duration.specs.Fraction.{fraction_nanos}
use Rattle.go_duration.specs.Digits.{all_of, digit_count, exact_of}
use Rattle.go_duration.specs.Units.{unit_of}
use Rattle.go_duration.specs.Parse.{sign_of, unsigned, parse_of}
use Rattle.go_duration.specs.Written.{WrittenPart, IsPart, Parts, Duration, exact_fraction, PartNanos, Sums, SumOfParts, part_nanos, total_of}
use Rattle.go_duration.proofs.DigitsRead.{read_distance}
use Rattle.go_duration.proofs.FrontDigits.{all_value, count_run}
use Rattle.go_duration.proofs.UnitLaws.{unit_le}
use Rattle.go_duration.proofs.WrittenParts.{no_fraction}
use Rattle.go_duration.proofs.Durations.{value_is, form}

-- ---- all bytes of a written fraction are digits
module _ (l : List ℕ) (e : each is_digit l ≡ true) where
  run_all : run in_digits l ≡ length l
  run_all = rw append-nil at (run_front is_digit l [] e refl)

  number_all : (w : ℕ) → all_of l w ≡ value_from w l
  number_all w = rw (all_value l w, run_all, take-length)

  count_all : digit_count l ≡ length l
  count_all = count_run l ∙ run_all

exact_is : (p : WrittenPart) → each is_digit p.fraction ≡ true → exact_of p.fraction (unit_of p.unit) ≡ exact_fraction p
unfolding exact_of exact_fraction
exact_is p e = rw (number_all p.fraction e 0, count_all p.fraction e)

-- ---- one part, and all
part_nanos_lem : (p : WrittenPart) → IsPart p → PartNanos p (part_nanos p)
unfolding part_nanos
part_nanos_lem p i = record {
  extra = fraction_nanos p.fraction (unit_of p.unit);
  sum = refl;
  written = λ h. rw (← exact_is p i.fraction_digits) (read_distance p.fraction (unit_of p.unit) (record { some = i.known; top = unit_le p.unit }));
  unwritten = λ h. none p.fraction h;
}
  where
    none : (l : List ℕ) → length l ≡ 0 → fraction_nanos l (unit_of p.unit) ≡ 0
    none [] h = no_fraction (unit_of p.unit)
    none (b ∷ l) h = absurd (omega arith)

total_sums : {ps : List WrittenPart} {s : List ℕ} → Parts ps s → Sums ps (total_of ps)
total_sums Parts.none = Sums.none
total_sums (Parts.more {p = p} i q) = Sums.more (part_nanos_lem p i) (total_sums q)

-- ---- demand 3 of an accepted run
pub sum_as_written : (neg : Bool) (ps : List WrittenPart) (run : List ℕ) (z : ℤ) → parse_of run ≡ Some z → Duration neg ps run
    → (n : ℕ) × Sums ps n × (z ≡ sign_of neg n)
sum_as_written neg ps run z e w = (total_of ps, total_sums w.parts, (value_is neg ps run z w e).1)

-- A `+` and `0` alone are outside, as in `form`: the form has neither, and the lexer sends neither.
pub sum_of_parts : (run : List ℕ) (z : ℤ) → parse_of run ≡ Some z → (byte run 0 ≡ 43 → ⊥) → same_bytes (unsigned run) (48 ∷ []) ≡ false
    → SumOfParts run z
sum_of_parts run z e h n =
    let f = form run z e h n in
    let w = f.accepted.form in
    record { neg = f.neg; parts = f.parts; form = w; nanos = total_of f.parts; sums = total_sums w.parts; signed = f.value }
