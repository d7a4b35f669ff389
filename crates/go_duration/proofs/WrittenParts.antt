-- For WrittenCuts and WrittenRuns: one written part against `part_of`. Where the part's pieces are as long as can be, `part_of` finds their ends, and of its
-- tests on the number the last one decides. By cases on the point. Assumes nothing.
use Rattle.std.proofs.Common.{◌≡◌, ℕ, zero, suc, ◌+◌, ◌-◌, ◌*◌, ◌<◌, Bool, true, false, not, Option, Some, None, ◌&&◌, ◌||◌, eqb, ltb, List, [], ◌∷◌, ◌++◌, length, drop, sym, refl, ◌∙◌, append_assoc, add-zero, zero-add, le-mul_of_pos_right, pos_of_ne-zero, arith, length-append, get_or-append-add, ltb-false, le-ltb, eq-eqb, ne_eqb}
use Rattle.std.proofs.lemmas.Option.{none-some}
use borrow.Author.Tests.{eqb-false}
use lib.Dec.{eqb-suc-zero}
use lib.Seq.{take-append_seam, drop-append_seam, drop-append-add}
use Rattle.base.specs.Choice.{pick}
use Rattle.base.specs.Bytes.{each, byte}
use Rattle.base.specs.Classes.{is_digit}
use Rattle.base.specs.Runs.{reach}
use Rattle.base.specs.Digits.{in_digits, value_of}
use Rattle.base.proofs.Tests.{and_left, and_right, by_cases, pick_same, pick_second}
use Rattle.go_duration.specs.Fraction.{most, Acc, read_digits, add_digit, frac_of, fraction_nanos, no_digits}
use Rattle.go_duration.specs.Units.{unit_of}
use Rattle.go_duration.specs.Parse.{whole_end, has_point, fraction_start, fraction_end, unit_end, whole_of, part_unit, part_fraction}
use Rattle.go_duration.specs.Parse.{digitless, part_of}
use Rattle.go_duration.specs.Written.{WrittenPart, part_bytes, part_nanos}
use Rattle.go_duration.specs.declared.part.Part.{Part}
use Rattle.base.proofs.Fronts.{begins, begins_is, reach_front}

abbrev pub is_point : ℕ → Bool
is_point b = eqb b 46

abbrev pub unit_byte : ℕ → Bool
unit_byte b = not (is_digit b || is_point b)

-- p at the front of a list and s after it, each piece of p as long as can be
pub record Cut (p : WrittenPart) (s : List ℕ) : Type 0 where
  pub whole_digits : each is_digit p.whole ≡ true
  pub fraction_digits : each is_digit p.fraction ≡ true
  pub no_point : p.point ≡ false → p.fraction ≡ []
  pub unit_bytes : each unit_byte p.unit ≡ true
  pub digits_end : begins is_digit (p.unit ++ s) ≡ false
  pub point_ends : p.point ≡ false → begins is_point (p.unit ++ s) ≡ false
  pub unit_ends : begins unit_byte s ≡ false

-- what Parse.antt finds at the front of l is p
record Reads (l : List ℕ) (p : WrittenPart) : Type 0 where
  pub digits : digitless l ≡ eqb (length p.whole + length p.fraction) 0
  pub number : whole_of l ≡ value_of p.whole
  pub nanos : part_unit l ≡ unit_of p.unit
  pub extra : part_fraction l ≡ fraction_nanos p.fraction (unit_of p.unit)
  pub end : unit_end l ≡ length (part_bytes p)

-- the digits that a list begins with are all that counts
read_front : (xs ys : List ℕ) (a : Acc) → each is_digit xs ≡ true → begins is_digit ys ≡ false → read_digits (xs ++ ys) a ≡ read_digits xs a
unfolding read_digits
read_front [] [] a e f = refl
read_front [] (y ∷ ys) a e f = rw f
read_front (x ∷ xs) ys a e f =
    let h = and_left (is_digit x) (each is_digit xs) e in
    let q = read_front xs ys (add_digit a x) (and_right (is_digit x) (each is_digit xs) e) f in
    rw (h, q)

fraction_front : (xs ys : List ℕ) (u : ℕ) → each is_digit xs ≡ true → begins is_digit ys ≡ false → fraction_nanos (xs ++ ys) u ≡ fraction_nanos xs u
unfolding fraction_nanos
fraction_front xs ys u e f = rw (read_front xs ys no_digits e f)

pub no_fraction : (u : ℕ) → fraction_nanos [] u ≡ 0
unfolding fraction_nanos read_digits frac_of
no_fraction u = refl

-- no digit before the point and none after it: there is none
digitless_is : (a b c d : ℕ) → c ≡ d + b → eqb a 0 && eqb c d ≡ eqb (a + b) 0
digitless_is zero zero c d e = rw (eq-eqb c d (omega arith))
digitless_is zero (suc b) c d e = rw (ne_eqb c d (omega arith), ne_eqb (0 + suc b) 0 (omega arith))
digitless_is (suc a) b c d e = rw (eqb-suc-zero a, ne_eqb (suc a + b) 0 (omega arith))

-- ---- what follows the whole number
abbrev pub after : Bool → List ℕ → List ℕ → List ℕ
after b f ys = pick b (46 ∷ f) [] ++ ys

pub whole_after : (p : WrittenPart) (s : List ℕ) → part_bytes p ++ s ≡ p.whole ++ after p.point p.fraction (p.unit ++ s)
whole_after p s = rw (append_assoc, append_assoc (pick p.point (46 ∷ p.fraction) []) p.unit s)

point_no_digit : is_digit 46 ≡ false
unfolding is_digit
point_no_digit = refl

pub after_digits : (b : Bool) (f ys : List ℕ) → begins is_digit ys ≡ false → begins is_digit (after b f ys) ≡ false
after_digits true f ys e = point_no_digit
after_digits false f ys e = e

pub after_point : (b : Bool) (f ys : List ℕ) → (b ≡ false → begins is_point ys ≡ false) → begins is_point (after b f ys) ≡ b
after_point true f ys e = refl
after_point false f ys e = e refl

-- the point and the fraction
abbrev size : Bool → List ℕ → ℕ
size b f = pick b (suc (length f)) 0

after_drop : (b : Bool) (f ys : List ℕ) → drop (size b f) (after b f ys) ≡ ys
after_drop true f ys = drop-append_seam f ys
after_drop false f ys = refl

after_length : (b : Bool) (f ys : List ℕ) → length (after b f ys) ≡ size b f + length ys
after_length true f ys = omega (arith, length-append f ys)
after_length false f ys = omega arith

-- ---- a part that is cut so is read so
module _ (p : WrittenPart) (s : List ℕ) (c : Cut p s) where
  abbrev l : List ℕ
  l = part_bytes p ++ s

  abbrev rest : List ℕ
  rest = after p.point p.fraction (p.unit ++ s)

  -- the end of the fraction's digits
  abbrev stop : ℕ
  stop = length p.whole + size p.point p.fraction

  whole_end_lem : whole_end l ≡ length p.whole
  unfolding whole_end
  whole_end_lem =
      reach_front is_digit l 0 p.whole rest (whole_after p s) c.whole_digits
      (after_digits p.point p.fraction (p.unit ++ s) c.digits_end)
      ∙ zero-add (length p.whole)

  point_there : has_point l ≡ p.point
  unfolding has_point
  point_there =
      let z : byte (p.whole ++ rest) (length p.whole) ≡ byte rest 0 = rw add-zero at (get_or-append-add p.whole rest 0 0) in
      rw (whole_end_lem, whole_after p s, z) (begins_is is_point rest refl ∙ after_point p.point p.fraction (p.unit ++ s) c.point_ends)

  from_point : p.point ≡ true → drop (length p.whole + 1) l ≡ p.fraction ++ (p.unit ++ s)
  from_point e = rw (whole_after p s, e) (drop-append-add p.whole (46 ∷ (p.fraction ++ (p.unit ++ s))) 1)

  fraction_stop : fraction_end l ≡ stop
  unfolding fraction_end
  fraction_stop =
      rw (point_there, whole_end_lem)
      (go p.point (length p.whole) (reach in_digits l (length p.whole + 1)) (length p.fraction)
      (λ e. omega (arith, reach_front is_digit l (length p.whole + 1) p.fraction (p.unit ++ s) (from_point e) c.fraction_digits c.digits_end)))
    where
      go : (b : Bool) (n r k : ℕ) → (b ≡ true → r ≡ n + suc k) → pick b r n ≡ n + pick b (suc k) 0
      go true n r k h = h refl
      go false n r k h = sym (add-zero n)

  from_stop : drop stop l ≡ p.unit ++ s
  from_stop = rw (whole_after p s, drop-append-add) (after_drop p.point p.fraction (p.unit ++ s))

  unit_stop : unit_end l ≡ stop + length p.unit
  unfolding unit_end
  unit_stop = rw fraction_stop (reach_front unit_byte l stop p.unit s from_stop c.unit_bytes c.unit_ends)

  unit_nanos : part_unit l ≡ unit_of p.unit
  unfolding part_unit
  unit_nanos =
      let n : stop + length p.unit - stop ≡ length p.unit = omega arith in
      rw (unit_stop, fraction_stop, n, from_stop, take-append_seam)

  reads : Reads l p
  unfolding whole_of digitless part_fraction fraction_start
  reads = record {
    digits =
        rw (fraction_stop, point_there, whole_end_lem)
        (digitless_is (length p.whole) (length p.fraction) stop (pick p.point (length p.whole + 1) (length p.whole))
        (by_cases p.point (λ e. rw e (omega arith)) (λ e. rw (e, c.no_point e) (omega arith))));
    number = rw (whole_end_lem, whole_after p s, take-append_seam);
    nanos = unit_nanos;
    extra =
        rw (point_there, whole_end_lem, unit_nanos)
        (by_cases p.point
        (λ e. rw (from_point e, e) (fraction_front p.fraction (p.unit ++ s) (unit_of p.unit) c.fraction_digits c.digits_end))
        (λ e. rw (e, c.no_point e) (sym (no_fraction (unit_of p.unit)))));
    end =
        rw unit_stop
        (omega (arith, length-append p.whole (after p.point p.fraction p.unit), after_length p.point p.fraction p.unit));
  }

-- ---- what `part_of` makes of a part
-- its tests on a number v, a unit u and a fraction's nanoseconds x come down to the last one
capped : {A : Type 0} (v u x : ℕ) (bad good : A) → 0 < u
    → pick (ltb most v) bad (pick (eqb u 0) bad (pick (ltb most (v * u)) bad (pick (ltb most (v * u + x)) bad good))) ≡ pick (ltb most (v * u + x)) bad good
capped v u x bad good h =
    by_cases (ltb most (v * u + x)) (λ q. rw (q, e) (simp pick_same))
    (λ q. let l = ltb-false most (v * u + x) q in
    let m = le-mul_of_pos_right v h in
    rw (le-ltb most v (omega arith), e, le-ltb most (v * u) (omega arith)))
  where
    e : eqb u 0 ≡ false
    e = ne_eqb u 0 (omega arith)

module _ (p : WrittenPart) (s : List ℕ) (c : Cut p s) where
  -- its nanoseconds and its length
  abbrev value : Part
  value = record { nanos = part_nanos p; used = length (part_bytes p) }

  abbrev tests : Option Part
  tests =
      pick (ltb most (value_of p.whole)) None
      (pick (eqb (unit_of p.unit) 0) None
      (pick (ltb most (value_of p.whole * unit_of p.unit)) None
      (pick (ltb most (part_nanos p)) None (Some value))))

  judged : part_of (part_bytes p ++ s) ≡ pick (eqb (length p.whole + length p.fraction) 0) None tests
  unfolding part_of part_nanos
  judged = let r = reads p s c in rw (r.digits, r.number, r.nanos, r.extra, r.end)

  -- with a digit and a known unit the nanoseconds decide
  pub part_is : 0 < length p.whole + length p.fraction → 0 < unit_of p.unit
      → part_of (part_bytes p ++ s) ≡ pick (ltb most (part_nanos p)) None (Some value)
  unfolding part_nanos
  part_is d k =
      rw (judged, ne_eqb (length p.whole + length p.fraction) 0 (omega arith))
      (capped (value_of p.whole) (unit_of p.unit) (fraction_nanos p.fraction (unit_of p.unit)) None (Some value) k)

  -- and a part with a value has both
  pub part_good : (v : Part) → part_of (part_bytes p ++ s) ≡ Some v → (0 < length p.whole + length p.fraction) × (0 < unit_of p.unit)
  part_good v e =
      let a = pick_second (eqb (length p.whole + length p.fraction) 0) (none-some v) (sym judged ∙ e) in
      let b = pick_second (ltb most (value_of p.whole)) (none-some v) a.1 in
      let g = pick_second (eqb (unit_of p.unit) 0) (none-some v) b.1 in
      (pos_of_ne-zero (eqb-false (length p.whole + length p.fraction) 0 a.0), pos_of_ne-zero (eqb-false (unit_of p.unit) 0 g.0))
