-- `join` is `join_seen`: a sum that the library's checked methods give is one that fits. Assumes nothing.
use Rattle.std.specs.Prelude.{Option, Some, None, FitsSigned}
use Rattle.std.specs.Option.{SomeIff}
use mathlib.Core.Path.{◌≡◌, ◌∙◌}
use borrow.Author.Rules.{rules}
use lib.Dec.{ltb}
use lib.IntN.{ℤ}
use lib.Signed.{mag}
use mir.Syntax.{w64}
use mir.Val.{SFits}
use mir.ValLaws.{to_z-of_z}
use borrow.Author.Tests.{lt-ltb, ltb-true}
use Rattle.base.proofs.Tests.{by_cases}
use Rattle.suggest.specs.Helpers.{seen_sum, join_seen}
use Rattle.suggest.proofs.pieces.join.Goals as goal

-- a sum where it fits
checked : (r : Option ℤ) (z : ℤ) → SomeIff r (FitsSigned w64 z) z → r ≡ seen_sum z
checked None z h = by_cases (ltb (mag z) 0x8000000000000000) (λ e. absurd (h (record { sfits = ltb-true _ _ e }))) (λ e. rw e)
checked (Some x) z h = rw (lt-ltb (mag z) 0x8000000000000000 h.0.sfits, h.1)

pub returns-in_err-x : goal.returns-in_err-x
unfolding join_seen
returns-in_err-x c = c.from_residual.ensures ∙ rw (c.in_err-x.was)

pub returns-in_err-y : goal.returns-in_err-y
unfolding join_seen
returns-in_err-y c = c.from_residual-in_err-y.ensures ∙ rw (c.in_ok-x.was, c.in_err-y.was)

pub returns-then-neg : goal.returns-then-neg
unfolding join_seen
returns-then-neg c =
    let f : SFits w64 c.in_ok-x.x = search rules in
    let g : SFits w64 c.in_ok-y.y = search rules in
    rw (c.if-neg.true, c.in_ok-x.was, c.in_ok-y.was) (rw (to_z-of_z w64 _ f, to_z-of_z w64 _ g) at (checked _ _ c.checked_sub.ensures))

pub returns-else-neg : goal.returns-else-neg
unfolding join_seen
returns-else-neg c =
    let f : SFits w64 c.in_ok-x.x = search rules in
    let g : SFits w64 c.in_ok-y.y = search rules in
    rw (c.if-neg.false, c.in_ok-x.was, c.in_ok-y.was) (rw (to_z-of_z w64 _ f, to_z-of_z w64 _ g) at (checked _ _ c.checked_add.ensures))
