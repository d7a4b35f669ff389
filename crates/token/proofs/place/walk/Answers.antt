-- `walk` gives the place of `to`: at each turn the place is that of an offset of the text up to `to`, a line further. Assumes nothing.
use mathlib.Core.Path.{◌≡◌, sym, ap, ◌∙◌}
use native.Mathlib.Omega.{arith}
use lib.ListN.{take}
use lib.Seq.{length-take-le}
use Rattle.token.specs.declared.place.Place.{Place}
use Rattle.token.proofs.Places.{Line, place_cut, place_steppable, walk_cut, walk_line, walk_newline}
use Rattle.token.proofs.place.walk.Goals.{After-find-end}
use Rattle.token.proofs.place.walk.Goals as goal

-- the line from the place on ends where `find` says
line : (c : After-find-end) → let a = c.args in Line (take a.to a.text.now) c.loop-s.place c.find-end.result
line c = walk_line _ _ _ c.loop-s.invariant _ c.find-end.ensures

pub slice_bounds-s-end : goal.slice_bounds-s-end
slice_bounds-s-end c = sym (length-take-le _ _ c.requires.inside)

pub loop-s-init : goal.loop-s-init
loop-s-init c = walk_cut _ _ _ c.requires

pub returns-then-to-at : goal.returns-then-to-at
returns-then-to-at c = let w = c.loop-s.invariant in
    let a = c.args in
    let z : c.loop-s.place.offset ≡ a.to = omega (arith, w.forward, c.if-to-at.true) in
    w.true_place ∙ rw z (place_cut a.text.now a.to a.to (omega arith))

pub overflow_sub-column : goal.overflow_sub-column
overflow_sub-column c =
    let at = goal.at.overflow_sub-column c in
    (line at.After-find-end).later

pub overflow_add-column : goal.overflow_add-column
overflow_add-column c =
    let at = goal.at.overflow_add-column c in
    let l = (line at.After-find-end) in
    record { fits = omega (arith, l.column, l.inside, c.loop-s.invariant.short) }

pub returns-then-to-end : goal.returns-then-to-end
returns-then-to-end c =
    let at = goal.at.returns-then-to-end c in
    let text = c.args.text.now in
    let to = c.args.to in
    let z : c.find-end.result ≡ to = omega (arith, (line at.After-find-end).inside, c.if-to-end.true, length-take-le to text c.requires.inside) in
    (line at.After-find-end).end ∙ rw z (place_cut text to to (omega arith))

pub step-place-requires : goal.step-place-requires
step-place-requires c =
    let at = goal.at.step-place-requires c in
    let w = c.loop-s.invariant in
    place_steppable _ _ _ (line at.After-find-end).end (omega (arith, c.if-to-end.false, w.inside)) w.short

pub loop-s-smaller : goal.loop-s-smaller
loop-s-smaller c =
    let at = goal.at.loop-s-smaller c in
    omega (arith, ap (λ (p : Place). p.offset) c.step-place.ensures, (line at.After-find-end).later, c.if-to-end.false)

pub loop-s-preserved : goal.loop-s-preserved
loop-s-preserved c = rw c.step-place.ensures (walk_newline _ _ _ c.loop-s.invariant _ c.find-end.ensures c.if-to-end.false)
