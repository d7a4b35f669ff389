-- `see_around` sees a text by what stands before its last cut and behind it, but for a zero under `-`. Assumes nothing.
use mathlib.Core.Path.{sym, ◌∙◌}
use Rattle.std.specs.Prelude.{Some}
use Rattle.suggest.specs.Helpers.{Behind}
use Rattle.suggest.proofs.Seams.{long, seam_seen}
use Rattle.suggest.proofs.pieces.see_around.Goals as goal

pub slice_bounds-see_front-end : goal.slice_bounds-see_front-end
slice_bounds-see_front-end c =
    let t : Behind c.args.text.now c.requires.at (Some c.in-Some.field-0) = rw c.in-Some.is at c.requires.surrounds.behind in
    rw c.in-Some.field-0-is (sym (long t.1.seam))

pub returns : goal.returns
returns c =
    let f = rw c.in-Some.field-0-is at c.see_front-front.ensures in
    let t : Behind c.args.text.now c.requires.at (Some c.in-Some.field-0) = rw c.in-Some.is at c.requires.surrounds.behind in
    c.join.ensures ∙ rw (c.is_minus-neg.ensures, f, c.in-Some.is, t.1.known)
    (seam_seen t.1.seam (λ n e. c.is_minus_zero.ensures c.if-is_minus_zero.false (c.is_minus-neg.ensures ∙ n) (f ∙ e)))
