-- For `make_room` and `add`: a part of a list moved on by w elements, the last one first, and values stored in the room that it leaves. By the library's
-- laws of fronts, rests and stores. Assumes nothing.
use mathlib.Core.Path.{◌≡◌, sym, ◌∙◌}
use mathlib.Core.List.{List, [], ◌∷◌, ◌++◌, append_assoc}
use Prim.Native.Nat.{ℕ, suc, ◌+◌, ◌-◌, ◌≤◌, ◌<◌}
use native.Mathlib.Omega.{arith}
use lib.ListN.{length, take, drop, get_or, set, length-append, length-drop, get_or-append}
use lib.Seq.{sets, sets-eq, set_at, take-suc, drop-cons, get_or-take, length-take-le, take-append-add, drop-append-add, take-append_seam, drop_at}

module _ {A : Type 0} where
  module _ (w : ℕ) (l : List A) (end : ℕ) where
    -- the list while the part moves: what stands from i to `end` stands w further on too
    abbrev pub moving : ℕ → List A
    moving i = take (i + w) l ++ (take (end - i) (drop i l) ++ drop (end + w) l)

    module _ (r : end + w ≤ length l) where
      pub moving_turn : (z : A) (i : ℕ) → i < end → set (moving (suc i)) (i + w) (get_or (moving (suc i)) i z) ≡ moving i
      moving_turn z i h =
          let S : List A = take (end - suc i) (drop (suc i) l) ++ drop (end + w) l in
          let e : suc i + w ≡ suc (i + w) = omega arith in
          let n : end - i ≡ suc (end - suc i) = omega arith in
          let t : take (suc i + w) l ≡ take (i + w) l ++ (get_or l (i + w) z ∷ []) = rw e (take-suc l (i + w) z (omega arith)) in
          let g : get_or (moving (suc i)) i z ≡ get_or l i z =
          get_or-append (take (suc i + w) l) S z i (omega (arith, length-take-le (suc i + w) l (omega arith)))
          ∙ get_or-take (suc i + w) l i z (omega arith) in
          rw (g, t, append_assoc, n, drop-cons l i z (omega arith))
          (set_at (take (i + w) l) (get_or l (i + w) z) S (get_or l i z) (i + w) (length-take-le (i + w) l (omega arith)))

      pub moving_end : (i : ℕ) → i ≤ end → moving i ≡ sets l (i + w) (take (end - i) (drop i l))
      moving_end i h =
          let v : length (take (end - i) (drop i l)) ≡ end - i = length-take-le (end - i) (drop i l) (omega (arith, length-drop i l)) in
          let n : i + w + length (take (end - i) (drop i l)) ≡ end + w = omega arith in
          sym (sets-eq (take (end - i) (drop i l)) l (i + w) (omega arith) ∙ rw (n, append_assoc))

  -- a part C moved on by as many elements as ns has, which then go before it
  pub inserted : (B C R ns : List A) → length ns ≤ length R
      → sets (sets (B ++ C ++ R) (length B + length ns) C) (length B) ns ≡ B ++ ns ++ C ++ drop (length ns) R
  inserted B C R ns h =
      let n = length ns in
      let T : List A = take n (C ++ R) in
      let k : length B + n + length C ≡ length B + (length C + n) = omega arith in
      let t : length T ≡ n = length-take-le n (C ++ R) (omega (arith, length-append C R)) in
      let m : sets (B ++ C ++ R) (length B + n) C ≡ B ++ (T ++ (C ++ drop n R)) =
      sets-eq C (B ++ C ++ R) (length B + n) (omega (arith, length-append (B ++ C) R, length-append B C))
      ∙ simp (append_assoc, k, take-append-add, drop-append-add) in
      rw m
      (sets-eq ns (B ++ (T ++ (C ++ drop n R))) (length B) (omega (arith, length-append B (T ++ (C ++ drop n R)), length-append T (C ++ drop n R)))
      ∙ rw (take-append_seam, drop-append-add, drop_at T (C ++ drop n R) n t) (simp append_assoc))
