-- For Seams: what is seen in a text that is cut behind a letter and before a digit is what is seen in both parts as one. By the written parts of a
-- Duration, none of which reaches over the seam. Assumes nothing.
use Rattle.std.specs.Prelude.{Option, Some, None}
use mathlib.Core.Path.{◌≡◌, refl, ap, sym, subst, ◌∙◌}
use mathlib.Core.Bool.{Bool, true, false}
use mathlib.Core.List.{List, [], ◌∷◌, ◌++◌, append_assoc, append-nil}
use Prim.Native.Nat.{ℕ, ◌+◌, ◌-◌, ◌≤◌, ◌<◌, zero-le, suc-le-suc}
use native.Mathlib.Nat.{add-zero, zero-add, add_assoc, not-suc-le-zero}
use native.Mathlib.Omega.{arith}
use borrow.Author.Tests.{eqb-true, eqb-false, eq-eqb, ne_eqb, le-leb, leb-false}
use lib.Dec.{leb, eqb}
use lib.IntN.{ℤ, pos}
use lib.ListN.{length, length-append}
use lib.Seq.{drop-append_seam, drop-append-add, get_or-append-add}
use Rattle.base.specs.Bytes.{byte, each}
use Rattle.base.specs.Classes.{is_digit, is_lower_alpha, is_space}
use Rattle.base.specs.Runs.{reach}
use Rattle.base.proofs.Tests.{by_cases, pick_second, digit_range, zero_one}
use Rattle.base.proofs.Fronts.{begins, Span, span, reach_front}
use Rattle.go_duration.specs.Fraction.{most}
use Rattle.go_duration.specs.Parse.{sign_of}
use Rattle.go_duration.specs.Written.{WrittenPart, total_of}
use Rattle.scan.specs.Number.{lex_number}
use Rattle.lexer.specs.Token.{start_at}
use Rattle.suggest.specs.Helpers.{seen_of, is_minus, seen_sum, join_seen}
use Rattle.suggest.proofs.PartCuts.{space_range, EndsLower, ends_rest, blanks_end, total_append}
use Rattle.suggest.proofs.SeenForms.{seen_at, top, Form, form_seen}
use Rattle.suggest.proofs.SeenRuns.{SeenAs, seen_form}
use Rattle.suggest.proofs.CutForms.{form_sign, join, split, sign_add, sum_seen}

-- ---- blanks in front

module _ (f s : List ℕ) (b : each is_space f ≡ true) (n : begins is_space s ≡ false) where
  start_is : start_at (f ++ s) 0 ≡ length f
  unfolding start_at
  start_is = reach_front is_space (f ++ s) 0 f s refl b n ∙ zero-add (length f)

  front_byte : byte (f ++ s) (length f) ≡ byte s 0
  front_byte = rw add-zero at (get_or-append-add f s 0 0)

  start_behind : (k : ℕ) → start_at (f ++ s) (length f + k) ≡ length f + start_at s k
  unfolding start_at reach
  start_behind k = rw (drop-append-add, add_assoc)

  end_test : (k : ℕ) → eqb (length f + k) (length (f ++ s)) ≡ eqb k (length s)
  end_test k =
      rw length-append
      (by_cases (eqb k (length s)) (λ q. let h = eqb-true k (length s) q in rw q (eq-eqb (length f + k) (length f + length s) (omega arith)))
      (λ q. let h = eqb-false k (length s) q in rw q (ne_eqb (length f + k) (length f + length s) (omega arith))))

  seen_behind : seen_of (f ++ s) ≡ seen_at s
  unfolding seen_of
  seen_behind = rw (start_is, front_byte, drop-append_seam, start_behind (lex_number s).len, end_test (start_at s (lex_number s).len))

  minus_behind : is_minus (f ++ s) ≡ eqb (byte s 0) 45
  unfolding is_minus
  minus_behind = rw (start_is, front_byte)

-- ---- both as one

other_duration : {z : ℤ} → None ≡ Some z → ⊥
other_duration e = zero_one cc

-- no sign where a digit stands
digit_plus : (y : List ℕ) → is_digit (byte y 0) ≡ true → (neg : Bool) {ps : List WrittenPart} → Form y neg ps → Form y false ps × (neg ≡ false)
digit_plus y d true f = let h = digit_range (byte y 0) d in absurd (omega (arith, eqb-true (byte y 0) 45 (form_sign f)))
digit_plus y d false f = (f, refl)

module _ (x y : List ℕ) (h : 0 < length x) (l : EndsLower x) (d : is_digit (byte y 0) ≡ true) where
  -- both are Durations
  both_forms : {neg : Bool} {ps qs : List WrittenPart} → Form x neg ps → Form y false qs
      → seen_at (x ++ y) ≡ join_seen (eqb (byte x 0) 45) (Some (sign_of neg (total_of ps))) (Some (pos (total_of qs)))
  unfolding join_seen
  both_forms {neg} {ps} {qs} f g =
      rw (form_sign f)
      (form_seen (join x y l f g) ∙ sym (sum_seen neg (total_of (ps ++ qs)))
      ∙ ap seen_sum (ap (sign_of neg) (total_append ps qs) ∙ sym (sign_add neg (total_of ps) (total_of qs))))

  both_seen : (a b : ℤ) → SeenAs x a → SeenAs y b → seen_at (x ++ y) ≡ join_seen (eqb (byte x 0) 45) (Some a) (Some b)
  both_seen a b u v =
      let p = digit_plus y d v.neg v.form in
      let f = both_forms u.form p.0 in
      let e : b ≡ pos (total_of v.parts) = v.value ∙ ap (λ (g : Bool). sign_of g (total_of v.parts)) p.1 in
      let k = u.value in
      cc

  -- the first is no zero under `-`, where the second is no Duration
  abbrev NoZero : Type 0
  NoZero = eqb (byte x 0) 45 ≡ true → seen_at x ≡ Some (pos 0) → seen_at y ≡ None → ⊥

  -- the whole is one
  whole_forms : (neg : Bool) {ps qs : List WrittenPart} → Form x neg ps → Form y false qs → top neg (total_of ps + total_of qs) ≤ most → NoZero
      → (seen_at x ≡ None → ⊥) × (seen_at y ≡ None → ⊥)
  whole_forms true {ps} {qs} f g b z =
      let e : seen_at x ≡ Some (sign_of true (total_of ps)) = rw (le-leb (total_of ps) most (omega arith)) at (form_seen f) in (
        λ q. other_duration (sym q ∙ e),
        λ q. let c = (pick_second (leb (total_of qs + 1) most) (λ r. other_duration (sym r)) (sym (form_seen g) ∙ q)).0 in
            let k : total_of ps ≡ 0 = omega (arith, leb-false (total_of qs + 1) most c) in
            z (form_sign f) (rw k at e) q,
      )
  whole_forms false {ps} {qs} f g b z =
      let e : seen_at x ≡ Some (pos (total_of ps)) = rw (le-leb (total_of ps + 1) most (omega arith)) at (form_seen f) in
      let k : seen_at y ≡ Some (pos (total_of qs)) = rw (le-leb (total_of qs + 1) most (omega arith)) at (form_seen g) in
      (λ q. other_duration (sym q ∙ e), λ q. other_duration (sym q ∙ k))

  whole_seen : (z : ℤ) → SeenAs (x ++ y) z → NoZero → (seen_at x ≡ None → ⊥) × (seen_at y ≡ None → ⊥)
  whole_seen z w n =
      let s = split y d x w.neg h l w.form in
      let e : total_of w.parts ≡ total_of s.front + total_of s.back = ap total_of s.whole ∙ total_append s.front s.back in
      whole_forms w.neg s.first s.second (rw e at w.bound) n

  cut_at : NoZero → seen_at (x ++ y) ≡ join_seen (eqb (byte x 0) 45) (seen_at x) (seen_at y)
  unfolding join_seen
  cut_at n = go (seen_at x) (seen_at y) (seen_at (x ++ y)) refl refl refl
    where
      go : (u v w : Option ℤ) → seen_at x ≡ u → seen_at y ≡ v → seen_at (x ++ y) ≡ w → seen_at (x ++ y) ≡ join_seen (eqb (byte x 0) 45) u v
      go (Some a) (Some b) w p q r = both_seen a b (seen_form x a p) (seen_form y b q)
      go (Some a) None None p q r = r
      go (Some a) None (Some z) p q r = absurd ((whole_seen z (seen_form (x ++ y) z r) n).1 q)
      go None v None p q r = r
      go None v (Some z) p q r = absurd ((whole_seen z (seen_form (x ++ y) z r) n).0 p)

-- ---- with blanks in front

-- the first byte behind the blanks stands before the seam
letter_behind : (f s : List ℕ) → each is_space f ≡ true → 0 < length (f ++ s) → EndsLower (f ++ s) → 0 < length s
letter_behind f [] b h l =
    let e = blanks_end f b (subst EndsLower (append-nil f) l) in
    absurd (omega (arith, ap length (append-nil f), ap length e))
letter_behind f (a ∷ s) b h l = suc-le-suc zero-le

begins_more : (s y : List ℕ) → 0 < length s → begins is_space s ≡ false → begins is_space (s ++ y) ≡ false
begins_more [] y h e = absurd (not-suc-le-zero h)
begins_more (a ∷ s) y h e = e

first_more : (s y : List ℕ) → 0 < length s → byte (s ++ y) 0 ≡ byte s 0
first_more [] y h = absurd (not-suc-le-zero h)
first_more (a ∷ s) y h = refl

digit_begins : (y : List ℕ) → is_digit (byte y 0) ≡ true → begins is_space y ≡ false
digit_begins [] d = refl
digit_begins (c ∷ y) d = by_cases (is_space c) (λ q. absurd (omega (arith, digit_range c d, space_range c q))) (λ q. q)

-- what is seen in a text that begins with a digit
digit_seen : (y : List ℕ) → is_digit (byte y 0) ≡ true → seen_of y ≡ seen_at y
digit_seen y d = seen_behind [] y refl (digit_begins y d)

module _ (f s y : List ℕ) (b : each is_space f ≡ true) (n : begins is_space s ≡ false) (h : 0 < length s) (d : is_digit (byte y 0) ≡ true) where
  minus_front : is_minus ((f ++ s) ++ y) ≡ is_minus (f ++ s)
  minus_front = rw (append_assoc, minus_behind f (s ++ y) b (begins_more s y h n), minus_behind f s b n, first_more s y h)

  seen_front : EndsLower s → (is_minus (f ++ s) ≡ true → seen_of (f ++ s) ≡ Some (pos 0) → seen_of y ≡ None → ⊥)
      → seen_of ((f ++ s) ++ y) ≡ join_seen (is_minus (f ++ s)) (seen_of (f ++ s)) (seen_of y)
  seen_front l z =
      rw (append_assoc, seen_behind f (s ++ y) b (begins_more s y h n), seen_behind f s b n, minus_behind f s b n, digit_seen y d)
      (cut_at s y h l d (λ m e o. z (minus_behind f s b n ∙ m) (seen_behind f s b n ∙ e) (digit_seen y d ∙ o)))

-- ---- the laws: x ends with a letter, and y begins with a digit

module _ (x y : List ℕ) (h : 0 < length x) (l : is_lower_alpha (byte x (length x - 1)) ≡ true) (d : is_digit (byte y 0) ≡ true) where
  k : Span is_space x
  k = span is_space x

  ends : EndsLower (k.front ++ k.back)
  ends = subst EndsLower k.bytes (λ _. l)

  some : 0 < length k.back
  some = letter_behind k.front k.back k.passes (subst (λ (z : List ℕ). 0 < length z) k.bytes h) ends

  pub cut_minus : is_minus (x ++ y) ≡ is_minus x
  cut_minus = subst (λ (z : List ℕ). is_minus (z ++ y) ≡ is_minus z) (sym k.bytes) (minus_front k.front k.back y k.passes k.stops some d)

  -- but for a zero under `-`: `-0s` and `9223372036854775808ns`, of which the second is above the greatest number by itself and not under `-`
  pub cut_seen : (is_minus x ≡ true → seen_of x ≡ Some (pos 0) → seen_of y ≡ None → ⊥) → seen_of (x ++ y) ≡ join_seen (is_minus x) (seen_of x) (seen_of y)
  cut_seen =
      subst
      (λ (z : List ℕ).
      (is_minus z ≡ true → seen_of z ≡ Some (pos 0) → seen_of y ≡ None → ⊥) → seen_of (z ++ y) ≡ join_seen (is_minus z) (seen_of z) (seen_of y))
      (sym k.bytes)
      (seen_front k.front k.back y k.passes k.stops some d (ends_rest k.front k.back ends))
