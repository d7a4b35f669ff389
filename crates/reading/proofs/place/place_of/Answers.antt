-- `place_of` answers by the first test that fails, else the place that it walks to; only the walk's premise needs an answer. Assumes nothing.
use mathlib.Core.Path.{sym, ◌∙◌}
use Rattle.token.proofs.Places.{first_walkable}
use Rattle.reading.proofs.Refusals.{fitting}
use Rattle.reading.proofs.Places.{good_in}
use Rattle.reading.proofs.place.place_of.Goals as goal

pub walk-requires : goal.walk-requires
walk-requires c =
    let h = (fitting _ (sym c.in_ok-judge.ensures)).0 in
    first_walkable _ _ c.first.ensures h _ (good_in _ _ (sym c.good_offset.ensures ∙ c.if-not-good_offset.false))
