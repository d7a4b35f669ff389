-- `see_by` is `seen_by`, by the test that it makes. Assumes nothing.
use mathlib.Core.Path.{◌∙◌}
use mathlib.Core.Bool.{◌&&◌}
use borrow.Author.Rules.{rules}
use mir.Syntax.{w64}
use mir.Val.{SFits}
use mir.ValLaws.{to_z-of_z}
use Rattle.base.proofs.Tests.{by_cases}
use Rattle.token.specs.Helpers.{is_duration}
use Rattle.suggest.specs.Helpers.{seen_by}
use Rattle.suggest.proofs.seen.see_by.Goals as goal

pub returns : goal.returns
unfolding seen_by
returns c =
    let x = c.args.x in
    let f : SFits w64 x.nanos = search rules in
    c.then_some.ensures ∙ rw (to_z-of_z w64 _ f, c.is_duration.ensures)
    (by_cases (c.args.blank && is_duration x.kind) (λ e. rw e) (λ e. rw e))
