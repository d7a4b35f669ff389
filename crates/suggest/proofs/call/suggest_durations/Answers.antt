-- `suggest_durations` makes its checks in their order; a list that suffices for any run of the length needs no count. Assumes nothing.
use Prim.Native.Nat.{◌*◌, ◌≤◌}
use native.Mathlib.Omega.{arith}
use lib.ListN.{length}
use Rattle.suggestion_list.specs.Rows.{entry_width}
use Rattle.suggest.specs.Suggestions.{suggestions_of}
use Rattle.suggest.proofs.TriedBytes.{suggestions_few}
use Rattle.suggest.proofs.Answers.{good_short, bad_run, list_short, entries}
use Rattle.suggest.proofs.call.suggest_durations.Goals.{else-list-run-via-then-list-run+else-list-count_all, else-list-run-via-else-list-run}
use Rattle.suggest.proofs.call.suggest_durations.Goals as goal

pub returns-in_default : goal.returns-in_default
returns-in_default c = bad_run _ _ c.in_default.ensures

pub overflow_mul-run : goal.overflow_mul-run
overflow_mul-run c = omega (arith, good_short _ c.in-Some.ensures.good)

pub overflow_mul-run-2 : goal.overflow_mul-run-2
overflow_mul-run-2 c = omega (arith, good_short _ c.in-Some.ensures.good)

pub overflow_mul-count_all : goal.overflow_mul-count_all
overflow_mul-count_all c =
    omega (arith, good_short _ c.in-Some.ensures.good, rw c.in-Some.ensures.same at c.count_all.ensures, suggestions_few c.args.run.now)

pub returns-then-list-count_all : goal.returns-then-list-count_all
returns-then-list-count_all c =
    let e = rw c.in-Some.ensures.same at c.count_all.ensures in
    list_short _ _ c.in-Some.ensures.good (rw (← e) c.if-list-count_all.true)

pub returns : goal.returns
returns c =
    let g = c.in-Some.ensures in
    let f = suggestions_few c.args.run.now in
    let room : length (suggestions_of c.args.run.now) * entry_width ≤ length c.args.list.now =
    elim c.else-list-run.branch [
      | else-list-run-via-then-list-run+else-list-count_all w ↦ rw (← g.same, ← w.count_all.ensures) (omega (arith, w.if-list-count_all.false))
      | else-list-run-via-else-list-run w ↦ omega (arith, w.if-list-run.false, f)
    ] in
    entries _ _ g.good room (rw g.same at c.fill_all.ensures)
