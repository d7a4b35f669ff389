-- For `walk` and the crates above: a place is a fold over the bytes before it. Steps, bounds, lines and columns, whole lines, flat runs.
-- By induction on the list. Assumes nothing.
use mathlib.Core.Path.{◌≡◌, refl, sym, ap, ◌∙◌}
use mathlib.Core.Bool.{Bool, true, false, not}
use mathlib.Core.List.{List, [], ◌∷◌, ◌++◌}
use Prim.Native.Nat.{ℕ, zero, suc, ◌+◌, ◌-◌, ◌≤◌, ◌<◌}
use native.Mathlib.Nat.{add-zero}
use native.Mathlib.Numerals.{add-one}
use native.Mathlib.Omega.{arith}
use lib.ListN.{length, get_or, take, drop}
use lib.Seq.{take-suc, take-take, length-take-le, get_or-drop}
use lib.Dec.{eqb}
use borrow.Author.Tests.{ne_eqb, eqb-true, not-false}
use Rattle.base.specs.Choice.{pick}
use Rattle.base.specs.Bytes.{byte}
use Rattle.base.specs.Runs.{reach}
use Rattle.base.specs.Blocks.{other}
use Rattle.base.proofs.Tests.{true_false}
use Rattle.base.proofs.Reaches.{reach_le, reach_ge, reach_all, reach_fails}
use Rattle.limits.specs.Limits.{max_message_size}
use Rattle.token.specs.Place.{first_place, newline, step_place, place_after, place_at, newlines, since_newline}
use Rattle.token.specs.Helpers.{Flat, Bounded, Steppable, Walkable}
use Rattle.token.specs.declared.place.Place.{Place}

-- the place after two lists is the place after the second from the place after the first
after_append : (p : Place) (a b : List ℕ) → place_after p (a ++ b) ≡ place_after (place_after p a) b
after_append p [] b = refl
after_append p (x ∷ a) b = after_append (step_place p x) a b

-- what a fold does to a place over n bytes
pub record Moved (p q : Place) (n : ℕ) : Type 0 where
  pub offset : q.offset ≡ p.offset + n
  pub line : q.line ≤ p.line + n
  pub column : q.column ≤ p.column + n

-- the place after a byte, newline or not
abbrev step_by : Bool → Place → Place
step_by x p =
    pick x (record { offset = p.offset + 1; line = p.line + 1; column = 1 })
    (record { offset = p.offset + 1; line = p.line; column = p.column + 1 })

moved_more : (x : Bool) (p q : Place) (n : ℕ) → Moved (step_by x p) q n → Moved p q (suc n)
moved_more true p q n w = omega arith
moved_more false p q n w = omega arith

moved : (p : Place) (l : List ℕ) → Moved p (place_after p l) (length l)
moved p [] = omega arith
moved p (b ∷ l) = moved_more (eqb b newline) p (place_after (step_place p b) l) (length l) (moved (step_place p b) l)

-- the line counts the newlines
line_more : (x : Bool) (p : Place) (n m : ℕ) → m ≡ (step_by x p).line + n → m ≡ p.line + (pick x 1 0 + n)
line_more true p n m e = omega arith
line_more false p n m e = omega arith

after_line : (p : Place) (l : List ℕ) → (place_after p l).line ≡ p.line + newlines l
after_line p [] = omega arith
after_line p (b ∷ l) = line_more (eqb b newline) p (newlines l) (place_after (step_place p b) l).line (after_line (step_place p b) l)

-- the column counts the bytes since the last newline, n of which stand before the list
after_column : (p : Place) (n : ℕ) (l : List ℕ) → p.column ≡ 1 + n → (place_after p l).column ≡ 1 + since_newline n l
after_column p n [] e = e
after_column p n (b ∷ l) e = go (eqb b newline) (λ q m h. after_column q m l h)
  where
    go : (x : Bool) → ((q : Place) (m : ℕ) → q.column ≡ 1 + m → (place_after q l).column ≡ 1 + since_newline m l)
        → (place_after (step_by x p) l).column ≡ 1 + since_newline (pick x 0 (suc n)) l
    go true ih = ih (step_by true p) 0 refl
    go false ih = ih (step_by false p) (suc n) (omega arith)

module _ (s : List ℕ) (i : ℕ) where
  -- the place of the next offset is one step further
  pub place_next : i < length s → place_at s (i + 1) ≡ step_place (place_at s i) (get_or s i 0)
  unfolding place_at
  place_next h = rw (add-one i, take-suc s i 0 h) (after_append first_place (take i s) (get_or s i 0 ∷ []))

  -- of the text cut off at an offset further on, i has the same place
  pub place_cut : (to : ℕ) → i ≤ to → place_at (take to s) i ≡ place_at s i
  unfolding place_at
  place_cut to h = rw (take-take i to s h)

  -- "line is one more than the newlines before"
  pub place_line : (place_at s i).line ≡ 1 + newlines (take i s)
  unfolding place_at
  place_line = after_line first_place (take i s)

  -- "column is one more than the bytes since the last newline or the start"
  pub place_column : (place_at s i).column ≡ 1 + since_newline 0 (take i s)
  unfolding place_at
  place_column = after_column first_place 0 (take i s) refl

  module _ (h : i ≤ length s) where
    pub place_moved : Moved first_place (place_at s i) i
    unfolding place_at
    place_moved = rw (length-take-le i s h) at (moved first_place (take i s))

    pub place_offset : (place_at s i).offset ≡ i
    place_offset = let m = place_moved in omega arith

    pub place_bounded : Bounded (place_at s i)
    place_bounded = let m = place_moved in record { line = omega arith; column = omega arith }

-- n bytes further on the same line
abbrev along : Place → ℕ → Place
along p n = record { offset = p.offset + n; line = p.line; column = p.column + n }

-- over n bytes without a newline a place only moves along
flat_from : (s : List ℕ) (i n : ℕ) → i + n ≤ length s → Flat (drop i s) n → place_at s (i + n) ≡ along (place_at s i) n
flat_from s i zero h f = rw (add-zero i, add-zero (place_at s i).offset, add-zero (place_at s i).column)
flat_from s i (suc n) h f =
    let p = place_at s i in
    let o : p.offset + n + 1 ≡ p.offset + suc n = omega arith in
    let c : p.column + n + 1 ≡ p.column + suc n = omega arith in
    let e : i + n + 1 ≡ i + suc n = omega arith in
    let b : eqb (byte s (i + n)) newline ≡ false = ne_eqb (byte s (i + n)) newline (λ z. f n (omega arith) (get_or-drop i s n 0 ∙ z)) in
    let g : place_at s (i + n) ≡ along p n = flat_from s i n (omega arith) (λ j l. f j (omega arith)) in
    rw (e, g, b, o, c) at (place_next s (i + n) (omega arith))

-- up to the end of its line
line_along : (s : List ℕ) (i n : ℕ) → i ≤ length s → i + n ≤ reach (other newline) s i → place_at s (i + n) ≡ along (place_at s i) n
line_along s i n h l = flat_from s i n (omega (arith, l, reach_le (other newline) s i h)) flat
  where
    flat : Flat (drop i s) n
    flat j k z =
        let e : byte s (i + j) ≡ newline = sym (get_or-drop i s j 0) ∙ z in
        true_false (not (eqb (byte s (i + j)) newline)) (reach_all (other newline) s i (i + j) (omega arith) (omega (arith, l))) (rw e)

-- a place of a text that is short enough, before its end, can be stepped, and the step is the next place
module _ (s : List ℕ) (i : ℕ) (q : Place) (e : q ≡ place_at s i) (h : i < length s) where
  pub place_step : step_place q (get_or s i 0) ≡ place_at s (i + 1)
  place_step = rw e (sym (place_next s i h))

  pub place_steppable : length s ≤ max_message_size → Steppable q
  place_steppable k =
      let l : i ≤ length s = omega arith in
      rw e (record { offset = omega (arith, place_offset s i l); bounded = place_bounded s i l })

-- the line from the place p on ends at r
pub record Line (s : List ℕ) (p : Place) (r : ℕ) : Type 0 where
  pub later : p.offset ≤ r
  pub inside : r ≤ length s
  pub line : p.line ≤ r + 1
  pub column : p.column + (r - p.offset) ≤ r + 1
  pub end : ◌≡◌ {A = Place} (record { offset = r; line = p.line; column = p.column + (r - p.offset) }) (place_at s r)

module _ (s : List ℕ) (p : Place) (to : ℕ) (w : Walkable s p to) where
  pub walk_bounded : Bounded p
  walk_bounded = rw w.true_place (place_bounded s p.offset (omega (arith, w.forward, w.inside)))

  -- the same walk in the text cut off at `to`
  pub walk_cut : Walkable (take to s) p to
  walk_cut =
      let k : length (take to s) ≡ to = length-take-le to s w.inside in
      record {
        true_place = rw (place_cut s p.offset to w.forward) w.true_place;
        forward = w.forward;
        inside = omega (arith, k);
        short = omega (arith, k, w.inside, w.short);
      }

  module _ (r : ℕ) (e : r ≡ reach (other newline) s p.offset) where
    -- up to the end of the line
    pub walk_line : Line s p r
    walk_line =
        let h : p.offset ≤ length s = omega (arith, w.forward, w.inside) in
        let l : p.offset ≤ r = rw e (reach_ge (other newline) s p.offset) in
        let k : r ≤ length s = rw e (reach_le (other newline) s p.offset h) in
        let n : ℕ = r - p.offset in
        let z : p.offset + n ≡ r = omega arith in
        let a : place_at s (p.offset + n) ≡ along (place_at s p.offset) n = line_along s p.offset n h (omega (arith, e)) in
        let f : place_at s r ≡ record { offset = r; line = p.line; column = p.column + n } = rw (← w.true_place, z) at a in
        let m : Moved first_place (record { offset = r; line = p.line; column = p.column + n }) r = rw f at (place_moved s r k) in
        record { later = l; inside = k; line = omega (arith, m.line); column = omega (arith, m.column); end = sym f }

    -- past the newline there
    pub walk_newline : r < to → Walkable s (record { offset = r + 1; line = p.line + 1; column = 1 }) to
    walk_newline h =
        let k : r < length s = omega (arith, w.inside) in
        let b : get_or s r 0 ≡ newline = eqb-true _ _ (not-false _ (rw (← e) at (reach_fails (other newline) s p.offset (rw (← e) k)))) in
        let f = rw b at (place_step s r _ walk_line.end k) in
        record { true_place = f; forward = omega arith; inside = w.inside; short = w.short }

-- from the first place to any offset of a text that is read
pub first_walkable : (text : List ℕ) (p : Place) → p ≡ first_place → length text ≤ max_message_size → (i : ℕ) → i ≤ length text → Walkable text p i
unfolding place_at
first_walkable text p e h i l = rw e (record { true_place = refl; forward = omega arith; inside = l; short = h })

-- a place of a text that is read
pub to_place : {text : List ℕ} (q : Place) → length text ≤ max_message_size → q ≡ place_at text q.offset → q.offset ≤ length text → Walkable text q q.offset
to_place q h e l = record { true_place = e; forward = omega arith; inside = l; short = h }

-- a place with its own offset put in
pub offset_put : (p : Place) (n : ℕ) → p.offset ≡ n → ◌≡◌ {A = Place} (record { offset = n; line = p.line; column = p.column }) p
offset_put p n e = ap (λ (o : ℕ). record { offset = o; line = p.line; column = p.column }) (sym e)

-- over the first bytes from a place on, where they have no newline
pub flat_along : (s : List ℕ) (p : Place) (n : ℕ) → Walkable s p (p.offset + n) → Flat (drop p.offset s) n
    → ◌≡◌ {A = Place} (record { offset = p.offset + n; line = p.line; column = p.column + n }) (place_at s (p.offset + n))
flat_along s p n w f = ap (λ (q : Place). along q n) w.true_place ∙ sym (flat_from s p.offset n w.inside f)
