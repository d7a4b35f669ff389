-- `next_part` is `part_of`, by what the steps on the way answer. Assumes nothing.
use Rattle.std.proofs.Common.{◌≡◌, ℕ, ◌+◌, ◌≤◌, Option, Some, None, length, drop, sym, ◌∙◌, zero-le, arith, length-take-le, length-drop}
use Rattle.base.specs.Runs.{reach}
use Rattle.base.proofs.Reaches.{rest_is, reach_le}
use Rattle.std.specs.Option.{option_map}
use Rattle.go_duration.specs.Digits.{acc_of}
use Rattle.go_duration.specs.Parse.{in_unit, part_of}
use Rattle.go_duration.specs.Stages.{fraction_at, fraction_stop, nanos_part}
use Rattle.go_duration.proofs.FrontDigits.{over_told}
use Rattle.go_duration.proofs.PartSteps.{fraction_rest, stop_rest, used_le}
use Rattle.go_duration.proofs.PartSteps.{part_over, next_none, next_in, next_unit, next_known, next_nanos}
use Rattle.go_duration.proofs.part.next_part.Goals.{After-fraction_at-count, Joined-else-used-eq0, After-unit_size-size, In_ok-unit}
use Rattle.go_duration.proofs.part.next_part.Goals.{else-used-eq0-via-then-used-eq0+else-digits-eq0, else-used-eq0-via-else-used-eq0}
use Rattle.go_duration.proofs.part.next_part.Goals as goal

-- the fraction of the rest is that of the text
digits_are : (c : After-fraction_at-count)
    → let d = c.fraction_at-count.result.0 in acc_of d.f d.kept d.count ≡ fraction_at c.in_ok-value.field-0.used c.args.s.now
digits_are c = rw (rest_is, fraction_rest) at c.fraction_at-count.ensures.digits

ends_are : (c : After-fraction_at-count)
    → c.in_ok-value.field-0.used + c.fraction_at-count.result.1 ≡ fraction_stop c.in_ok-value.field-0.used c.args.s.now
ends_are c = rw (rw rest_is at c.fraction_at-count.ensures.ends) (stop_rest _ _)

-- its end lies in the text
end_in : (c : After-fraction_at-count) → c.in_ok-value.field-0.used + c.fraction_at-count.result.1 ≤ length c.args.s.now
end_in c = next_in _ _ c.in_ok-value.ensures _ (digits_are c) _ (ends_are c)

-- one of the two has a digit
some_digit : (c : Joined-else-used-eq0) → c.in_ok-value.field-0.used ≡ 0 → c.fraction_at-count.result.0.count ≡ 0 → ⊥
some_digit c z y =
    elim c.else-used-eq0.branch [
      | else-used-eq0-via-then-used-eq0+else-digits-eq0 w ↦ w.if-digits-eq0.false y
      | else-used-eq0-via-else-used-eq0 w ↦ w.if-used-eq0.false z
    ]

-- the unit is that of the rest
size_is : (c : After-unit_size-size) → c.unit_size-size.result ≡ reach in_unit (drop (c.in_ok-value.field-0.used + c.fraction_at-count.result.1) c.args.s.now) 0
size_is c = rw rest_is at c.unit_size-size.ensures

size_le : (c : After-unit_size-size) → c.unit_size-size.result ≤ length (drop (c.in_ok-value.field-0.used + c.fraction_at-count.result.1) c.args.s.now)
size_le c = rw (size_is c) (reach_le in_unit _ 0 zero-le)

pub returns-in_err-value : goal.returns-in_err-value
returns-in_err-value c = c.from_residual.ensures ∙ part_over _ (over_told _ c.in_err-value.ensures)

pub returns-then-digits-eq0 : goal.returns-then-digits-eq0
returns-then-digits-eq0 c =
    let f = (goal.at.returns-then-digits-eq0 c).After-fraction_at-count in next_none _ _ c.in_ok-value.ensures _ (digits_are f) _ (ends_are f)
    c.if-used-eq0.true c.if-digits-eq0.true

pub slice_bounds-fraction_at-count : goal.slice_bounds-fraction_at-count
slice_bounds-fraction_at-count c = used_le _ _ c.in_ok-value.ensures

pub slice_bounds-fraction_at-start : goal.slice_bounds-fraction_at-start
slice_bounds-fraction_at-start c = used_le _ _ c.in_ok-value.ensures

pub overflow_add-end : goal.overflow_add-end
overflow_add-end c = omega (arith, end_in (goal.at.overflow_add-end c).After-fraction_at-count)

pub slice_bounds-rest-count : goal.slice_bounds-rest-count
slice_bounds-rest-count c = end_in (goal.at.slice_bounds-rest-count c).After-fraction_at-count

pub slice_bounds-rest-start : goal.slice_bounds-rest-start
slice_bounds-rest-start c = end_in (goal.at.slice_bounds-rest-start c).After-fraction_at-count

pub slice_bounds-unit_of-end : goal.slice_bounds-unit_of-end
slice_bounds-unit_of-end c = rw rest_is (sym (length-take-le _ _ (size_le (goal.at.slice_bounds-unit_of-end c).After-unit_size-size)))

pub returns-in_err-unit : goal.returns-in_err-unit
returns-in_err-unit c =
    let at = goal.at.returns-in_err-unit c in
    let f = at.After-fraction_at-count in
    c.from_residual-in_err-unit.ensures
    ∙ next_unit _ _ c.in_ok-value.ensures _ (digits_are f) _ (ends_are f) (some_digit at.Joined-else-used-eq0) _ (size_is at.After-unit_size-size)
    (rw rest_is at c.in_err-unit.ensures)

pub nanos_part-requires : goal.nanos_part-requires
nanos_part-requires c =
    let at = goal.at.nanos_part-requires c in
    let f = at.After-fraction_at-count in
    next_known _ _ c.in_ok-value.ensures _ (digits_are f) _ (ends_are f) (some_digit at.Joined-else-used-eq0) _ (size_is at.After-unit_size-size) _
    (rw rest_is at c.in_ok-unit.ensures)

-- the nanoseconds decide
decided : (c : In_ok-unit) (r : Option ℕ)
    → (let d = c.fraction_at-count.result.0 in r ≡ nanos_part c.in_ok-value.field-0.value (acc_of d.f d.kept d.count) c.in_ok-unit.unit)
    → option_map (λ x. record { nanos = x; used = c.in_ok-value.field-0.used + c.fraction_at-count.result.1 + c.unit_size-size.result }) r
    ≡ part_of c.args.s.now
decided c r e =
    let at = goal.at.nanos_part-requires c in
    let f = at.After-fraction_at-count in
    sym (next_nanos _ _ c.in_ok-value.ensures _ (digits_are f) _ (ends_are f) (some_digit at.Joined-else-used-eq0) _ (size_is at.After-unit_size-size) _
    (rw rest_is at c.in_ok-unit.ensures) r e)

pub returns-in_err-nanos : goal.returns-in_err-nanos
returns-in_err-nanos c =
    c.from_residual-in_err-nanos.ensures ∙ decided (goal.at.returns-in_err-nanos c).In_ok-unit None c.in_err-nanos.ensures

pub overflow_add-result : goal.overflow_add-result
overflow_add-result c =
    let at = goal.at.overflow_add-result c in
    omega (
      arith,
      size_le at.After-unit_size-size,
      end_in at.After-fraction_at-count,
      length-drop (c.in_ok-value.field-0.used + c.fraction_at-count.result.1) c.args.s.now,
    )

pub returns : goal.returns
returns c = decided (goal.at.returns c).In_ok-unit (Some _) c.in_ok-nanos.ensures
