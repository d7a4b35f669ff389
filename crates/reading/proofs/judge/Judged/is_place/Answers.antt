-- `is_place` walks to the offset and compares; the place that it walks to has the offset. Assumes nothing.
use mathlib.Core.Path.{◌≡◌, refl, sym, ◌∙◌}
use mathlib.Core.Bool.{true}
use borrow.Author.Tests.{eq-eqb}
use Rattle.token.proofs.Places.{place_offset, first_walkable}
use Rattle.reading.specs.Answers.{is_place}
use Rattle.reading.specs.Refusals.{good_offset}
use Rattle.reading.proofs.Places.{good_in}
use Rattle.reading.proofs.Refusals.{fitting}
use Rattle.reading.proofs.judge.Judged.is_place.Goals as goal

pub walk-requires : goal.walk-requires
walk-requires c =
    let a = c.args in
    first_walkable _ _ c.first.ensures (fitting _ a.self.fit).0 _ (good_in _ _ (sym c.good_offset.ensures ∙ c.if-good_offset.true))

pub returns-then-good_offset : goal.returns-then-good_offset
unfolding is_place
returns-then-good_offset c =
    let a = c.args in
    let g : good_offset a.self.text.now a.place.offset ≡ true = sym c.good_offset.ensures ∙ c.if-good_offset.true in
    c.eq.ensures ∙ rw (c.walk.ensures, place_offset _ _ (good_in _ _ g), eq-eqb a.place.offset _ refl, g)
