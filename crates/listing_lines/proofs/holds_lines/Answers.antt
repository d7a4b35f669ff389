-- `holds_lines` compares the lines of a text that passes the checks. Assumes nothing.
use mathlib.Core.Path.{◌≡◌, sym, ◌∙◌}
use Rattle.reading.specs.Refusals.{judge_of}
use Rattle.std.specs.Prelude.{Ok}
use Rattle.reading.proofs.Refusals.{fitting, well_octets}
use Rattle.listing_lines.proofs.holds_lines.Goals as goal

pub lines_size-requires : goal.lines_size-requires
lines_size-requires c =
    let fit : judge_of c.args.text.now ≡ Ok tt = sym c.judge.ensures ∙ c.in-Ok.is in
    let f = fitting _ fit in (f.0, well_octets _ f.1)
