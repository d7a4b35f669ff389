-- `zeros` is the end of the run of zeros: the place of the first byte that is none, or the end. Assumes nothing.
use Rattle.std.proofs.Common.{not, eqb, ◌∙◌, rules, tests}
use Rattle.std.proofs.lemmas.Iterator.{YieldsList-from_slice}
use Rattle.std.proofs.lemmas.Iterator.Search.{position_from_yields_List}
use Rattle.base.proofs.Tests.{by_cases}
use Rattle.go_duration.specs.Digits.{is_zero}
use Rattle.go_duration.proofs.Firsts.{found_end}
use Rattle.go_duration.proofs.fraction.zeros.Goals as goal

pub returns : goal.returns
returns c =
    c.unwrap_or.ensures
    ∙ found_end is_zero (λ a. not (eqb a 48)) (λ a b. by_cases (eqb a 48) (λ e. rw e) (λ e. rw e)) _ _
    (position_from_yields_List _ _ _ _ c.position.ensures.ran (YieldsList-from_slice _ c.iter.ensures.rest) (λ x b q k. search (rules, tests)))
