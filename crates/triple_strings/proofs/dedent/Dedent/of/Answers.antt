-- `of` takes a raw string apart as `dedent` does: a blank last line is the indent, or there is none. Assumes nothing.
use mathlib.Core.Path.{sym, ◌∙◌}
use Rattle.triple_strings.proofs.Stripping.{dedent_blank, dedent_plain}
use Rattle.triple_strings.proofs.dedent.Dedent.of.Goals.{then-is_blank, else-is_blank}
use Rattle.triple_strings.proofs.dedent.Dedent.of.Goals as goal

pub returns : goal.returns
returns c =
    elim c.if-is_blank.branch [
      | then-is_blank w ↦ rw w.result-is (dedent_blank c.split_last.ensures c.args.raw.now c.unlead-text.ensures (sym w.if-is_blank.true ∙ c.is_blank.ensures))
      | else-is_blank w ↦ rw w.result-is (dedent_plain c.split_last.ensures c.args.raw.now c.unlead-text.ensures (sym w.if-is_blank.false ∙ c.is_blank.ensures))
    ]
