-- `parse` gives the file where `framed` is true: the same tests in the same order. Assumes nothing.
use mathlib.Core.Path.{refl, ◌∙◌}
use native.Mathlib.Omega.{arith}
use Rattle.token_file.proofs.Rows.{file_fits, short_framed, framed_is, count_read}
use Rattle.token_file.proofs.read.Framed.parse.Goals as goal

pub returns-in_err-o : goal.returns-in_err-o
returns-in_err-o c = rw c.from_residual.ensures (short_framed _ _ c.in_err-o.ensures.cases)

pub file_width-requires : goal.file_width-requires
file_width-requires c = file_fits _ _ (omega arith)

pub returns-then-not-mark-version : goal.returns-then-not-mark-version
returns-then-not-mark-version c =
    let f = c.in_ok-o.ensures.cases in
    framed_is _ _ f.enough f.same (c.from-version.ensures ∙ c.from_le_bytes.ensures) c.from_le_bytes-count.ensures c.file_width.ensures
    c.if-not-mark-version.true

pub returns : goal.returns
returns c =
    let f = c.in_ok-o.ensures.cases in
    record {
      right = framed_is _ _ f.enough f.same (c.from-version.ensures ∙ c.from_le_bytes.ensures) c.from_le_bytes-count.ensures c.file_width.ensures
          c.if-not-mark-version.false;
      same_file = refl;
      same_layout = refl;
      counted = count_read c.args.layout c.args.file.now f.enough f.same c.from_le_bytes-count.ensures;
    }
