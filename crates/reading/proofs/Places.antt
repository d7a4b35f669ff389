-- For `is_place`, `place_of` and the laws of places that a caller gives: what a good offset has, and what makes a place one of the text. By cases on
-- the tests. Assumes nothing.
use mathlib.Core.Path.{◌≡◌, sym, ap, ◌∙◌}
use mathlib.Core.Bool.{true, false, not, ◌&&◌}
use mathlib.Core.List.{List}
use Prim.Native.Nat.{ℕ, ◌≤◌}
use lib.Dec.{leb, eqb}
use lib.ListN.{length}
use borrow.Author.Tests.{le-leb, leb-true, eqb-true, eq-eqb, not-true}
use Rattle.base.proofs.Tests.{and_left, and_right}
use Rattle.token.specs.Place.{place_at}
use Rattle.token.specs.declared.place.Place.{Place}
use Rattle.token.proofs.Places.{place_offset}
use Rattle.utf8.specs.Check.{inside_char}
use Rattle.reading.specs.Refusals.{good_offset}
use Rattle.reading.specs.Answers.{is_place}

abbrev place : ℕ → ℕ → ℕ → Place
place o l c = record { offset = o; line = l; column = c }

-- ---- a good offset

module _ (text : List ℕ) (i : ℕ) where
  pub good_in : good_offset text i ≡ true → i ≤ length text
  unfolding good_offset
  good_in g = leb-true _ _ (and_left (leb i (length text)) (not (inside_char text i)) g)

  pub good_between : good_offset text i ≡ true → inside_char text i ≡ false
  unfolding good_offset
  good_between g = not-true (inside_char text i) (and_right (leb i (length text)) (not (inside_char text i)) g)

-- ---- a place that any numbers may make

module _ (text : List ℕ) (p : Place) where
  -- what a place of the text has
  pub record IsPlace : Type 0 where
    pub inside : p.offset ≤ length text
    pub between : inside_char text p.offset ≡ false
    pub true_place : p ≡ place_at text p.offset

  pub place_is : is_place text p ≡ true → IsPlace
  unfolding is_place
  place_is t =
      let q = place_at text p.offset in
      let o = good_offset text p.offset in
      let l = eqb p.line q.line in
      let c = eqb p.column q.column in
      let g = and_left o (l && c) t in
      let v = and_right o (l && c) t in
      let h = good_in text p.offset g in
      record {
        inside = h;
        between = good_between text p.offset g;
        true_place =
            ap (λ (x : ℕ). place x p.line p.column) (sym (place_offset text p.offset h))
            ∙ ap (λ (x : ℕ). place q.offset x p.column) (eqb-true _ _ (and_left l c v))
            ∙ ap (λ (x : ℕ). place q.offset q.line x) (eqb-true _ _ (and_right l c v));
      }

  -- and what has this is one
  pub is_place_lem : IsPlace → is_place text p ≡ true
  unfolding is_place good_offset
  is_place_lem w =
      let l : p.line ≡ (place_at text p.offset).line = ap (λ (x : Place). x.line) w.true_place in
      let c : p.column ≡ (place_at text p.offset).column = ap (λ (x : Place). x.column) w.true_place in
      rw (le-leb _ _ w.inside, w.between, eq-eqb _ _ l, eq-eqb _ _ c)
