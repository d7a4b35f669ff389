-- For `past_units` and the laws of all tokens: the pieces of a duration, one turn at a time, by cases on the byte's tests; and that each
-- run of this crate ends between characters, since its tests are of ASCII bytes. Assumes nothing.
use mathlib.Core.Path.{◌≡◌, refl, sym, ◌∙◌}
use mathlib.Core.Bool.{Bool, true, false, not, ◌&&◌, ◌||◌}
use mathlib.Core.List.{List, ◌∷◌}
use Prim.Native.Nat.{ℕ, zero, suc, ◌+◌, ◌≤◌, ◌<◌}
use native.Mathlib.Nat.{add-zero}
use native.Mathlib.Numerals.{add-one}
use native.Mathlib.Omega.{arith}
use borrow.Author.Tests.{ltb-true, ltb-false, eqb-true, ne_eqb, not-false}
use lib.Dec.{ltb, eqb}
use lib.ListN.{length, drop}
use lib.Seq.{drop-cons, get_or-drop}
use Rattle.std.proofs.lemmas.Bool.Decides.{nat_tests}
use Rattle.std.proofs.lemmas.Grind.{common_steps}
use Rattle.base.specs.Choice.{pick}
use Rattle.base.specs.Bytes.{byte}
use Rattle.base.specs.Classes.{is_digit, is_lower_alpha, is_ident_start, is_ident_part, is_space}
use Rattle.base.specs.Digits.{in_digits}
use Rattle.base.specs.Runs.{reach, past}
use Rattle.base.proofs.Tests.{and_left, and_right, true_false, in_text, by_cases}
use Rattle.base.proofs.Reaches.{reach_ge, reach_step, reach_stop, reach_end, reach_fails}
use Rattle.base.proofs.Walks.{past_step, past_stop, past_end}
use Rattle.token.specs.Helpers.{Flat}
use Rattle.utf8.specs.Grammar.{char_size}
use Rattle.utf8.specs.Onward.{Boundary}
use Rattle.utf8.specs.Check.{is_tail}
use Rattle.utf8.proofs.Boundaries.{boundary_le, next_boundary, ascii_boundary, reach_boundary, stop_boundary}
use Rattle.utf8.proofs.Concatenations.{ascii_no_tail}
use Rattle.scan.specs.Run.{ends_timestamp, in_stamp, in_line, in_body, in_name, unit_piece}
use Rattle.scan.specs.Helpers.{in_letters}
use Rattle.scan.proofs.Flats.{flat_byte}

-- a piece of one byte, and the two bytes of U+00B5, by an index into the text
abbrev pub one_byte : List ℕ → ℕ → Bool
one_byte s i = (is_digit (byte s i) || is_lower_alpha (byte s i)) || (eqb (byte s i) 46 && is_digit (byte s (i + 1)))

abbrev pub micro : List ℕ → ℕ → Bool
micro s i = eqb (byte s i) 0xC2 && eqb (byte s (i + 1)) 0xB5

module _ (s : List ℕ) (i : ℕ) where
  pub piece_at : unit_piece (drop i s) ≡ pick (one_byte s i) 1 (pick (micro s i) 2 0)
  unfolding unit_piece
  piece_at = simp (get_or-drop, add-zero)

  -- the second byte of U+00B5 is in the text
  pub micro_in : micro s i ≡ true → i + 1 < length s
  micro_in e = in_text (λ b. eqb b 0xB5) s (i + 1) refl (and_right (eqb (byte s i) 0xC2) (eqb (byte s (i + 1)) 0xB5) e)

  module _ (h : i < length s) where
    pub one_turn : one_byte s i ≡ true → past unit_piece s (i + 1) ≡ past unit_piece s i
    one_turn e = past_step unit_piece s i 0 (omega arith) (piece_at ∙ rw e)

    module _ (f : one_byte s i ≡ false) where
      pub micro_turn : micro s i ≡ true → past unit_piece s (i + 2) ≡ past unit_piece s i
      micro_turn e = past_step unit_piece s i 1 (omega (arith, micro_in e)) (piece_at ∙ rw (f, e))

      pub piece_stop : micro s i ≡ false → past unit_piece s i ≡ i
      piece_stop e = past_stop unit_piece s i h (piece_at ∙ rw (f, e))

-- ---- the run of digits and letters

-- the pieces from its start and from its end have the same end; n bounds the bytes that are left
letters_past : (s : List ℕ) (n i : ℕ) → length s ≤ i + n → past unit_piece s (reach in_letters s i) ≡ past unit_piece s i
letters_past s zero i h = rw (reach_end in_letters s i (omega arith))
letters_past s (suc n) i h =
    by_cases (ltb i (length s)) (λ p. by_cases (in_letters (byte s i) (byte s (i + 1)))
    (λ q. let l = ltb-true i (length s) p in
    rw (← reach_step in_letters s i l q) (letters_past s n (i + 1) (omega arith) ∙ one_turn s i l (rw q)))
    (λ q. rw (reach_stop in_letters s i (ltb-true i (length s) p) q)))
    (λ p. rw (reach_end in_letters s i (ltb-false i (length s) p)))

-- for `past_units`
pub letters_same : (s : List ℕ) (i : ℕ) → past unit_piece s (reach in_letters s i) ≡ past unit_piece s i
letters_same s i = letters_past s (length s) i (omega arith)

module _ (s : List ℕ) (i : ℕ) where
  pub point_turn : is_digit (byte s (i + 1)) ≡ true → byte s i ≡ 46 → past unit_piece s (i + 1) ≡ past unit_piece s i
  unfolding is_digit is_lower_alpha
  point_turn d e = one_turn s i (in_text (λ b. eqb b 46) s i refl (rw e)) (rw (e, d))

  pub two_turn : byte s (i + 1) ≡ 0xB5 → byte s i ≡ 0xC2 → past unit_piece s (i + 2) ≡ past unit_piece s i
  unfolding is_digit is_lower_alpha
  two_turn f e = micro_turn s i (in_text (λ b. eqb b 0xC2) s i refl (rw e)) (rw e) (rw (e, f))

  pub letters_in : 0 < byte s (reach in_letters s i) → reach in_letters s i < length s
  letters_in h = grind (arith, common_steps)

  pub none_turn : eqb (byte s (reach in_letters s i)) 46 && is_digit (byte s (reach in_letters s i + 1)) ≡ false
      → micro s (reach in_letters s i) ≡ false → past unit_piece s i ≡ reach in_letters s i
  none_turn e f =
      let j = reach in_letters s i in
      by_cases (ltb j (length s))
      (λ q. let h = ltb-true j (length s) q in
      sym (letters_same s i) ∙ piece_stop s j h (rw (reach_fails in_letters s i h) e) f)
      (λ q. sym (letters_same s i) ∙ past_end unit_piece s j (ltb-false j (length s) q))

-- a turn of its loop
pub ruleset turns = (nat_tests, letters_same, letters_in, point_turn, two_turn, none_turn, reach_ge)

-- ---- tests of ASCII bytes

-- a test that no byte from 0x80 on passes, where it passes
pub low : (p : ℕ → Bool) → ((a : ℕ) → 0x80 ≤ a → p a ≡ false) → (a : ℕ) → p a ≡ true → ltb a 0x80 ≡ true
low p high a e = by_cases (ltb a 0x80) (λ q. q) (λ q. true_false (p a) e (high a (ltb-false a 0x80 q)))

pub equal_high : (k : ℕ) → k < 0x80 → (a : ℕ) → 0x80 ≤ a → eqb a k ≡ false
equal_high k l a h = ne_eqb a k (λ e. omega arith)

space_high : (a : ℕ) → 0x80 ≤ a → is_space a ≡ false
unfolding is_space
space_high a h = grind (arith, nat_tests)

digit_high : (a : ℕ) → 0x80 ≤ a → is_digit a ≡ false
unfolding is_digit
digit_high a h = grind (arith, nat_tests)

part_high : (a : ℕ) → 0x80 ≤ a → is_ident_part a ≡ false
unfolding is_ident_part is_ident_start
part_high a h = grind (arith, nat_tests, digit_high)

ends_high : (b a : ℕ) → 0x80 ≤ a → ends_timestamp a b ≡ false
unfolding ends_timestamp
ends_high b a h = grind (arith, nat_tests, space_high)

close_high : (b a : ℕ) → 0x80 ≤ a → eqb a 42 && eqb b 47 ≡ false
close_high b a h = grind (arith, nat_tests)

piece_high : (b a : ℕ) → 0x80 ≤ a → (is_digit a || is_lower_alpha a) || (eqb a 46 && is_digit b) ≡ false
unfolding is_lower_alpha
piece_high b a h = grind (arith, nat_tests, digit_high)

-- ---- ends between characters

-- a byte that ends a run which takes all but some ASCII bytes
clean : (p : ℕ → ℕ → Bool) → ((b a : ℕ) → 0x80 ≤ a → p a b ≡ false) → (a b : ℕ) → not (p a b) ≡ false → is_tail a ≡ false
clean p high a b e = ascii_no_tail a (ltb-true a 0x80 (low (λ x. p x b) (high b) a (not-false (p a b) e)))

-- the body of a comment, from anywhere behind a boundary
pub body_boundary : (s : List ℕ) (i j : ℕ) → i ≤ j → j ≤ length s → Boundary s i → Boundary s (reach in_body s j)
body_boundary s i j g h b = stop_boundary in_body (clean (λ a c. eqb a 42 && eqb c 47) close_high) s i j g h b

-- the other runs, from a boundary
pub line_boundary : (s : List ℕ) (i : ℕ) → Boundary s i → Boundary s (reach in_line s i)
line_boundary s i b =
    stop_boundary in_line (clean (λ a c. eqb a 10) (λ c a. equal_high 10 (omega arith) a)) s i i (omega arith) (boundary_le s i b) b

pub name_boundary : (s : List ℕ) (i : ℕ) → Boundary s i → Boundary s (reach in_name s i)
name_boundary s i b = reach_boundary in_name (λ a c e. low is_ident_part part_high a e) s i b

pub digits_boundary : (s : List ℕ) (i : ℕ) → Boundary s i → Boundary s (reach in_digits s i)
digits_boundary s i b = reach_boundary in_digits (λ a c e. low is_digit digit_high a e) s i b

pub stamp_boundary : (s : List ℕ) (i : ℕ) → Boundary s i → Boundary s (reach in_stamp s i)
stamp_boundary s i b = stop_boundary in_stamp (clean ends_timestamp ends_high) s i i (omega arith) (boundary_le s i b) b

-- U+00B5 is a character
micro_cut : (s : List ℕ) (i : ℕ) → i + 1 < length s → byte s i ≡ 0xC2 → byte s (suc i) ≡ 0xB5 → drop i s ≡ 0xC2 ∷ 0xB5 ∷ drop (suc (suc i)) s
micro_cut s i h a b = rw (drop-cons s i 0 (omega arith), drop-cons s (suc i) 0 (omega arith), a, b)

micro_size : (s : List ℕ) (i : ℕ) → micro s i ≡ true → char_size (drop i s) ≡ 2
unfolding char_size
micro_size s i e =
    let a = eqb-true (byte s i) 0xC2 (and_left (eqb (byte s i) 0xC2) (eqb (byte s (i + 1)) 0xB5) e) in
    let b = eqb-true (byte s (i + 1)) 0xB5 (and_right (eqb (byte s i) 0xC2) (eqb (byte s (i + 1)) 0xB5) e) in
    rw (micro_cut s i (micro_in s i e) a (rw (add-one i) at b))

-- what each piece of a duration keeps, all of them keep; n bounds the bytes that are left
module _ (s : List ℕ) (P : ℕ → Type 0) (one : (i : ℕ) → i < length s → one_byte s i ≡ true → P i → P (i + 1))
    (two : (i : ℕ) → micro s i ≡ true → P i → P (i + 2)) where
  units_from : (n i : ℕ) → length s ≤ i + n → P i → P (past unit_piece s i)
  units_from zero i h b = rw (past_end unit_piece s i (omega arith)) b
  units_from (suc n) i h b =
      by_cases (ltb i (length s))
      (λ p. let l = ltb-true i (length s) p in
      by_cases (one_byte s i) (λ q. rw (← one_turn s i l q) (units_from n (i + 1) (omega arith) (one i l q b)))
      (λ q. by_cases (micro s i) (λ r. rw (← micro_turn s i l q r) (units_from n (i + 2) (omega arith) (two i r b)))
      (λ r. rw (piece_stop s i l q r) b)))
      (λ p. rw (past_end unit_piece s i (ltb-false i (length s) p)) b)

-- a duration's pieces from a boundary end at one
pub units_boundary : (s : List ℕ) (i : ℕ) → Boundary s i → Boundary s (past unit_piece s i)
units_boundary s i b = units_from s (Boundary s) one (λ k r. next_boundary s k 1 (micro_size s k r)) (length s) i (omega arith) b
  where
    one : (k : ℕ) → k < length s → one_byte s k ≡ true → Boundary s k → Boundary s (k + 1)
    one k l q =
        let test : ℕ → Bool = λ a. (is_digit a || is_lower_alpha a) || (eqb a 46 && is_digit (byte s (k + 1))) in
        ascii_boundary s k l (ltb-true (byte s k) 0x80 (low test (piece_high (byte s (k + 1))) (byte s k) q))

-- and they stay on the line
pub units_flat : (s : List ℕ) (i : ℕ) → Flat s i → Flat s (past unit_piece s i)
unfolding is_digit is_lower_alpha
units_flat s i f = units_from s (Flat s) one two (length s) i (omega arith) f
  where
    one : (k : ℕ) → k < length s → one_byte s k ≡ true → Flat s k → Flat s (k + 1)
    one k l q = flat_byte s (λ a. (is_digit a || is_lower_alpha a) || (eqb a 46 && is_digit (byte s (k + 1)))) refl k q

    two : (k : ℕ) → micro s k ≡ true → Flat s k → Flat s (k + 2)
    two k r g =
        let x : Bool = eqb (byte s k) 0xC2 in
        let y : Bool = eqb (byte s (k + 1)) 0xB5 in
        let z : k + 1 + 1 ≡ k + 2 = omega arith in
        rw z at (flat_byte s (λ a. eqb a 0xB5) refl (k + 1) (and_right x y r) (flat_byte s (λ a. eqb a 0xC2) refl k (and_left x y r) g))
