-- `see_front` sees a text by its two parts, but for a zero under `-`. Assumes nothing.
use mathlib.Core.Path.{◌∙◌}
use Rattle.base.proofs.Reaches.{rest_is}
use Rattle.suggest.specs.Helpers.{HeadSeen}
use Rattle.suggest.proofs.Seams.{seam_seen}
use Rattle.suggest.proofs.pieces.see_front.Goals as goal

pub returns : goal.returns
returns c =
    let h : HeadSeen c.args.text.now c.in-Some.field-0 = rw c.in-Some.is at c.requires in
    c.join.ensures ∙ rw (c.is_minus-neg.ensures, rw rest_is at c.see-2.ensures, h.known)
    (seam_seen h.seam (λ n e. c.is_minus_zero.ensures c.if-is_minus_zero.false (c.is_minus-neg.ensures ∙ n) (h.known ∙ e)))
