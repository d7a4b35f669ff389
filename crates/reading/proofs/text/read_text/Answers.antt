-- `read_text` answers by the first check that fails, before anything is stored; else, or where the buffers suffice in any case, it stores all.
-- Assumes nothing.
use mathlib.Core.Path.{sym, ◌∙◌}
use lib.ListN.{length}
use Rattle.reading.specs.Buffers.{whole_laid}
use Rattle.reading.specs.Passes.{Room}
use Rattle.reading.proofs.Refusals.{enough, refusal_is}
use Rattle.reading.proofs.Fits.{suffice_room}
use Rattle.reading.proofs.Rows.{held_by}
use Rattle.reading.proofs.TextAnswers.{most_few, few, unfit, short, done}
use Rattle.reading.proofs.text.read_text.Goals.{Joined-is_err, then-is_err+in_ok-hold, else-is_err}
use borrow.Author.Rules.{rules}
use Rattle.reading.proofs.text.read_text.Goals as goal

-- the buffers hold the result: they pass with what is measured, or suffice in any case
roomy : (c : Joined-is_err) → let a = c.args in Room (whole_laid a.how.mode a.how.limit a.text.now) (length a.tokens.now) (length a.strings.now)
    (length a.reports.now)
roomy c =
    elim c.if-is_err.branch [
      | then-is_err+in_ok-hold w ↦ enough (rw w.measure.ensures at (sym w.hold-then-is_err.ensures ∙ w.in_ok-hold.was))
      | else-is_err w ↦ suffice_room _ _ _ _ _ _ (rw (c.hold.ensures, c.most.ensures, w.if-is_err.false) at c.is_err.ensures.negation)
    ]

pub returns-in_err-judge : goal.returns-in_err-judge
returns-in_err-judge c = rw (refusal_is c.from_residual.ensures.1) (unfit (sym c.in_err-judge.ensures))

pub hold-requires : goal.hold-requires
hold-requires c = most_few _ _ (sym c.in_ok-judge.ensures) c.most.ensures

pub hold-requires-then-is_err : goal.hold-requires-then-is_err
hold-requires-then-is_err c = few _ _ _ (sym c.in_ok-judge.ensures) c.measure.ensures

pub returns-in_err-hold : goal.returns-in_err-hold
returns-in_err-hold c =
    rw (refusal_is c.from_residual-in_err-hold.ensures.1)
    (short (sym c.in_ok-judge.ensures) (rw c.measure.ensures at (sym c.hold-then-is_err.ensures ∙ c.in_err-hold.was)))

pub write-requires : goal.write-requires
write-requires c = roomy (goal.at.write-requires c).Joined-is_err

pub returns : goal.returns
returns c =
    let at = goal.at.returns c in
    let w = c.write.ensures in
    done (sym c.in_ok-judge.ensures) w.counted (roomy at.Joined-is_err) (held_by w.stored (search rules) (search rules) (search rules))
