-- `unit_size` is the end of the unit's run: the place of the first byte that is a digit or a point, or the end. Assumes nothing.
use Rattle.std.proofs.Common.{◌||◌, eqb, refl, ◌∙◌, rules, tests}
use Rattle.std.proofs.lemmas.Iterator.{YieldsList-from_slice}
use Rattle.std.proofs.lemmas.Iterator.Search.{position_from_yields_List}
use Rattle.base.specs.Classes.{is_digit}
use Rattle.go_duration.specs.Parse.{in_unit}
use Rattle.go_duration.proofs.Firsts.{found_end}
use Rattle.go_duration.proofs.part.unit_size.Goals as goal

pub returns : goal.returns
returns c =
    c.unwrap_or.ensures
    ∙ found_end in_unit (λ a. is_digit a || eqb a 46) (λ a b. refl) _ _
    (position_from_yields_List _ _ _ _ c.position.ensures.ran (YieldsList-from_slice _ c.iter.ensures.rest) (λ x b q k. search (rules, tests)))
