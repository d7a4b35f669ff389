-- `check` meets its contract: the valid prefix of the text is the same from each place between characters on. Assumes nothing.
use mathlib.Core.Path.{ap, ◌∙◌}
use Rattle.std.specs.Prelude.{Err}
use Rattle.std.proofs.lemmas.Result.{err_from_is_err_and}
use Rattle.utf8.proofs.Scans.{scan_ill, scan_end}
use Rattle.utf8.proofs.check.check.Goals as goal

pub returns-in_err-i : goal.returns-in_err-i
returns-in_err-i c =
    let p = err_from_is_err_and c.from_residual.result c.from_residual.ensures.1 in
    scan_ill _ _ c.loop-i.invariant _ c.past_short-from.ensures _ c.in_err-i.ensures _ (p.1 ∙ ap Err p.2)

pub returns : goal.returns
returns c = search scan_end
