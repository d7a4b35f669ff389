-- For `fraction_at`, `nanos_part`, `next_part` and `sum`: one part by the stages that the code has. What follows the whole number is the fraction that
-- `part_of` speaks of, and an accepted part has a byte. By cases on the point and the tests. Assumes nothing.
use Rattle.std.proofs.Common.{◌≡◌, ℕ, ◌+◌, ◌-◌, ◌*◌, ◌<◌, ◌≤◌, Option, Some, None, true, false, ◌&&◌, eqb, ltb, leb, List, length, take, drop, sym, refl, ap, ◌∙◌, zero-le, pos_of_ne-zero, arith, le-ltb, lt-ltb, eq-eqb, ne_eqb, eqb-true, leb-true, leb-false}
use Rattle.std.specs.Bool.{then_some}
use Rattle.std.specs.Option.{option_map}
use Rattle.std.proofs.lemmas.Option.{none-some}
use borrow.Author.Tests.{eqb-false}
use native.Mathlib.Nat.{add-zero}
use lib.Seq.{get_or-drop, drop-drop}
use Rattle.base.specs.Helpers.{nonzero}
use Rattle.base.proofs.Nonzero.{none_zero, some_same, some_more}
use Rattle.base.specs.Bytes.{byte, same_bytes}
use Rattle.base.specs.Runs.{reach}
use Rattle.base.specs.Digits.{in_digits}
use Rattle.base.proofs.Tests.{by_cases, pick_case, in_text, pick_same}
use Rattle.base.proofs.Reaches.{rest_is, reach_le, reach_rest}
use Rattle.go_duration.specs.Fraction.{most, Acc, no_digits, read_digits, frac_of, fraction_nanos}
use Rattle.go_duration.specs.Digits.{acc_of, count_of, UnitNanos}
use Rattle.go_duration.specs.Units.{units, unit_of}
use Rattle.go_duration.specs.Parse.{in_unit, whole_end, has_point, fraction_start, fraction_end, unit_end, whole_of, part_unit}
use Rattle.go_duration.specs.Parse.{part_fraction, digitless, part_of}
use Rattle.go_duration.specs.Stages.{leading_int, fraction_at, fraction_stop, nanos_part}
use Rattle.go_duration.specs.declared.part.Part.{Part}
use Rattle.go_duration.specs.declared.part.Whole.{Whole}
use Rattle.go_duration.proofs.FrontDigits.{read_end_at, Told, number_told}
use Rattle.go_duration.proofs.UnitLaws.{unit_le}

-- ---- `nanos_part`: the last of its tests decides
module _ (w : ℕ) (a : Acc) (u x : ℕ) (q : x ≡ w * u + frac_of a u) where
  pub nanos_over : most < x → None ≡ nanos_part w a u
  unfolding nanos_part
  nanos_over l = rw (lt-ltb most (w * u + frac_of a u) (omega arith)) (sym (pick_same (ltb most (w * u)) None))

  pub nanos_sum : then_some (leb x most) x ≡ nanos_part w a u
  unfolding nanos_part
  nanos_sum =
      by_cases (leb x most)
      (λ e. let l = leb-true x most e in
      rw (e, ← q, le-ltb most (w * u) (omega arith), le-ltb most x l))
      (λ e. rw e (nanos_over (leb-false x most e)))

-- ---- `fraction_at`: the digits that were read lie in the text, and end where it says
module _ (s : List ℕ) (f k n : ℕ) (e : acc_of f k n ≡ read_digits (take (length s - 1) (drop 1 s)) no_digits) where
  read_is : 1 + n ≡ reach in_digits s 1
  read_is = omega (arith, ap count_of (rw rest_is at e), read_end_at s 1)

  pub fraction_room : 1 ≤ length s → 1 + n ≤ length s
  fraction_room h = omega (arith, read_is, reach_le in_digits s 1 h)

  pub fraction_ends : byte s 0 ≡ 46 → 1 + n ≡ fraction_stop 0 s
  unfolding fraction_stop
  fraction_ends p = rw (eq-eqb (byte s 0) 46 p) read_is

-- of the rest of a text it gives the digits and the length of the text's own
pub fraction_rest : (n : ℕ) (s : List ℕ) → fraction_at 0 (drop n s) ≡ fraction_at n s
unfolding fraction_at
fraction_rest n s =
    rw (get_or-drop, add-zero, drop-drop 1 n s)

pub stop_rest : (n : ℕ) (s : List ℕ) → n + fraction_stop 0 (drop n s) ≡ fraction_stop n s
unfolding fraction_stop
stop_rest n s =
    by_cases (eqb (byte s n) 46)
    (λ e. rw (get_or-drop, add-zero, e, reach_rest in_digits s (n + 1), reach_rest in_digits (drop n s) 1, drop-drop 1 n s) (omega arith))
    (λ e. rw (get_or-drop, add-zero, e) (omega arith))

module _ (s : List ℕ) where
  pub part_over : most < whole_of s → None ≡ part_of s
  unfolding part_of
  part_over h = rw (lt-ltb most (whole_of s) h) (sym (pick_same (digitless s) None))

  -- ---- the length
  point_in : has_point s ≡ true → whole_end s < length s
  unfolding has_point
  point_in e = in_text (λ b. eqb b 46) s (whole_end s) refl e

  whole_le : whole_end s ≤ length s
  unfolding whole_end
  whole_le = reach_le in_digits s 0 zero-le

  fraction_le : fraction_end s ≤ length s
  unfolding fraction_end
  fraction_le =
      pick_case (λ n. n ≤ length s) (has_point s) (λ e. reach_le in_digits s (whole_end s + 1) (omega (arith, point_in e))) (λ e. whole_le)

  unit_end_le : unit_end s ≤ length s
  unfolding unit_end
  unit_end_le = reach_le in_unit s (fraction_end s) fraction_le

  no_size : unit_end s ≡ 0 → part_unit s ≡ 0
  unfolding part_unit unit_of units same_bytes
  no_size e =
      let n : unit_end s - fraction_end s ≡ 0 = omega arith in
      rw n

  -- ---- what follows the whole number
  stop_is : fraction_stop (whole_end s) s ≡ fraction_end s
  unfolding fraction_stop fraction_end has_point
  stop_is = refl

  none_is : digitless s ≡ eqb (whole_end s) 0 && eqb (count_of (fraction_at (whole_end s) s)) 0
  unfolding digitless fraction_start fraction_end fraction_at has_point read_digits
  none_is =
      by_cases (eqb (byte s (whole_end s)) 46)
      (λ e. rw (e, read_end_at s (whole_end s + 1), more_eqb (whole_end s + 1) (count_of (read_digits (drop (whole_end s + 1) s) no_digits))))
      (λ e. rw (e, eq-eqb (whole_end s) (whole_end s) refl))
    where
      more_eqb : (m c : ℕ) → eqb (m + c) m ≡ eqb c 0
      more_eqb m c =
          by_cases (eqb c 0) (λ q. let z = eqb-true c 0 q in rw (q, eq-eqb (m + c) m (omega arith)))
          (λ q. let z = eqb-false c 0 q in rw (q, ne_eqb (m + c) m (omega arith)))

  nanos_is : part_fraction s ≡ frac_of (fraction_at (whole_end s) s) (part_unit s)
  unfolding part_fraction fraction_nanos fraction_at has_point frac_of
  nanos_is = by_cases (eqb (byte s (whole_end s)) 46) (λ e. rw e) (λ e. rw e)

  pub used_le : (w : Whole) → Some w ≡ leading_int s → w.used ≤ length s
  used_le w h = let t = number_told s w h in rw t.used whole_le

  -- ---- the part, by the number and the fraction that were read, and the unit behind them
  module _ (w : Whole) (h : Some w ≡ leading_int s) (a : Acc) (p : a ≡ fraction_at w.used s) (e : ℕ) (q : e ≡ fraction_stop w.used s) where
    t : Told s w.value w.used
    t = number_told s w h

    end_is : e ≡ fraction_end s
    end_is = q ∙ rw t.used stop_is

    pub next_in : e ≤ length s
    next_in = rw end_is fraction_le

    pub next_none : w.used ≡ 0 → count_of a ≡ 0 → None ≡ part_of s
    unfolding part_of
    next_none z c =
        let d : digitless s ≡ true = none_is ∙ rw (← t.used, ← p, z, c) in
        rw d

    module _ (d : w.used ≡ 0 → count_of a ≡ 0 → ⊥) (z : ℕ) (y : z ≡ reach in_unit (drop e s) 0) where
      some_digit : digitless s ≡ false
      some_digit = none_is ∙ rw (← t.used, ← p) (both w.used (count_of a) d)
        where
          both : (x y : ℕ) → (x ≡ 0 → y ≡ 0 → ⊥) → eqb x 0 && eqb y 0 ≡ false
          both x y h =
              by_cases (eqb x 0) (λ i. rw i (ne_eqb y 0 (h (eqb-true x 0 i)))) (λ i. rw i)

      unit_end_is : unit_end s ≡ e + z
      unfolding unit_end
      unit_end_is = rw (← end_is, y) (reach_rest in_unit s e)

      unit_is : part_unit s ≡ unit_of (take z (drop e s))
      unfolding part_unit
      unit_is =
          let n : e + z - e ≡ z = omega arith in
          rw (unit_end_is, ← end_is, n)

      pub next_unit : None ≡ nonzero (unit_of (take z (drop e s))) → None ≡ part_of s
      unfolding part_of
      next_unit m =
          let u : part_unit s ≡ 0 = unit_is ∙ none_zero _ m in
          rw (some_digit, ← t.value, le-ltb most w.value t.fits, u)

      module _ (u : ℕ) (m : Some u ≡ nonzero (unit_of (take z (drop e s)))) where
        known : (part_unit s ≡ u) × (0 < u)
        known = (unit_is ∙ some_same _ u m, some_more _ u m)

        pub next_known : UnitNanos u
        next_known = record { some = known.1; top = rw (← known.0, unit_is) (unit_le _) }

        -- the nanoseconds decide
        pub next_nanos : (r : Option ℕ) → r ≡ nanos_part w.value a u → part_of s ≡ option_map (λ x. record { nanos = x; used = e + z }) r
        unfolding part_of nanos_part
        next_nanos r k =
            rw (k, some_digit, ← t.value, le-ltb most w.value t.fits, known.0, ne_eqb u 0 (λ o. let l = known.1 in omega arith))
            (rw (nanos_is, ← t.used, ← p, known.0, unit_end_is)
            (by_cases (ltb most (w.value * u)) (λ o. rw o)
            (λ o. by_cases (ltb most (w.value * u + frac_of a u)) (λ i. rw (o, i)) (λ i. rw (o, i)))))

  -- an accepted part has a byte and lies in the text
  pub record Used (n : ℕ) : Type 0 where
    pub some : 0 < n
    pub ends : n ≤ length s

  pub part_used : (p : Part) → Some p ≡ part_of s → Used p.used
  unfolding part_of
  part_used p =
      pick_case P (digitless s) (λ _. bad)
      (λ _. pick_case P (ltb most (whole_of s)) (λ _. bad)
      (λ _. pick_case P (eqb (part_unit s) 0) (λ _. bad)
      (λ z. pick_case P (ltb most (whole_of s * part_unit s)) (λ _. bad)
      (λ _. pick_case P (ltb most (whole_of s * part_unit s + part_fraction s)) (λ _. bad)
      (λ _ e. let q : p.used ≡ unit_end s = cc in
      record { some = rw q (pos_of_ne-zero (λ y. eqb-false (part_unit s) 0 z (no_size y))); ends = rw q unit_end_le })))))
    where
      P : Option Part → Type 0
      P x = Some p ≡ x → Used p.used

      bad : Some p ≡ None → Used p.used
      bad e = absurd (none-some p (sym e))
