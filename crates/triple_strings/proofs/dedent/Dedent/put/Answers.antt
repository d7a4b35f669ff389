-- `put` stores `stripped`: what is left, stored from `end` on, makes the whole. Assumes nothing.
use mathlib.Core.Path.{◌≡◌, refl, ap, sym, ◌∙◌}
use mathlib.Core.List.{[], ◌∷◌}
use Prim.Native.Nat.{◌+◌, ◌≤◌}
use native.Mathlib.Omega.{arith}
use borrow.Author.Tests.{eqb-true}
use lib.ListN.{length}
use Rattle.base.proofs.Storings.{storing_first, storing_end, storing_room, storing_more}
use Rattle.triple_strings.specs.Helpers.{stripped}
use Rattle.triple_strings.proofs.Stripping.{stripped_empty, left_first, left_more, after_less, left_end}
use Rattle.triple_strings.proofs.dedent.Dedent.put.Goals as goal

pub copy-requires : goal.copy-requires
copy-requires c =
    let s = c.args.self.now in
    let e : stripped s.indent.now s.body.now ≡ s.body.now = stripped_empty _ _ (eqb-true _ 0 (sym c.is_empty.ensures ∙ c.if-is_empty.true)) in
    omega (arith, c.requires, ap length e)

pub returns-then-is_empty : goal.returns-then-is_empty
returns-then-is_empty c = rw (stripped_empty _ _ (eqb-true _ 0 (sym c.is_empty.ensures ∙ c.if-is_empty.true))) c.copy.ensures

pub loop-rest-init : goal.loop-rest-init
loop-rest-init c = rw (c.strip-rest.ensures, left_first _ c.args.self.now.one_line) (storing_first (omega (arith, c.requires)))

pub bounds-out-end : goal.bounds-out-end
bounds-out-end c =
    let r : c.loop-rest.end + 1 ≤ length c.loop-rest.out =
    storing_room c.loop-rest.invariant (_ ∷ []) _ (left_more _ c.args.self.now.one_line _ c.in-len1-up.len_at_least) refl in
    omega arith

pub loop-rest-smaller : goal.loop-rest-smaller
loop-rest-smaller c = rw c.after-rest.ensures (after_less _ _ c.in-len1-up.len_at_least)

pub loop-rest-preserved : goal.loop-rest-preserved
loop-rest-preserved c =
    rw c.after-rest.ensures
    (storing_more c.loop-rest.invariant (_ ∷ []) _ (left_more _ c.args.self.now.one_line _ c.in-len1-up.len_at_least) refl _ refl)

pub returns : goal.returns
returns c = storing_end c.loop-rest.invariant (left_end _ _ c.in_default.len_below)
