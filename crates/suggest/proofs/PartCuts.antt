-- For Cuts: written parts that the lexer takes, one after the other, and that a text of them is cut between two parts wherever a letter stands before a
-- digit. By induction on the parts: inside a part no digit follows a letter. Assumes nothing.
use mathlib.Core.Path.{◌≡◌, refl, ap, sym, subst, ◌∙◌}
use mathlib.Core.Bool.{Bool, true, false, not, ◌&&◌, ◌||◌}
use mathlib.Core.List.{List, [], ◌∷◌, ◌++◌, append_assoc, tail}
use Prim.Native.Nat.{ℕ, ◌+◌, ◌-◌, ◌≤◌, ◌<◌, zero-le, suc-le-suc}
use native.Mathlib.Nat.{le_of_suc-le-suc, not-suc-le-zero, zero-add}
use native.Mathlib.Numerals.{sub-one}
use native.Mathlib.Omega.{arith}
use borrow.Author.Tests.{ltb-true, ltb-false, not-true, eqb-true}
use lib.Dec.{ltb, eqb}
use lib.ListN.{length, length-append}
use lib.Seq.{get_or-append-add}
use Rattle.base.specs.Choice.{pick}
use Rattle.base.specs.Bytes.{byte, each}
use Rattle.base.specs.Classes.{is_digit, is_lower_alpha, is_space}
use Rattle.base.proofs.Tests.{and_left, and_right, and-false, or_case, by_cases, true_false, neither, within_low, within_high, digit_range, no_digit}
use Rattle.go_duration.specs.Written.{WrittenPart, part_bytes, IsPart, Parts, none, more, total_of}

-- a part that the lexer takes: a digit follows its point, and its unit is not that of U+03BC
pub record Lexable (p : WrittenPart) : Type 0 where
  pub fraction : p.point ≡ true → 0 < length p.fraction
  pub unit : eqb (byte p.unit 0) 0xCE ≡ false

-- such parts, one after the other
pub data Pieces : List WrittenPart → List ℕ → Type 0 where
  no_piece : Pieces [] []
  piece : {p : WrittenPart} {ps : List WrittenPart} {s : List ℕ} → IsPart p → Lexable p → Pieces ps s → Pieces (p ∷ ps) (part_bytes p ++ s)

pub pieces_parts : {ps : List WrittenPart} {s : List ℕ} → Pieces ps s → Parts ps s
pieces_parts no_piece = none
pieces_parts (piece i l q) = more i (pieces_parts q)

-- ---- together

pub pieces_append : {ps qs : List WrittenPart} {s t : List ℕ} → Pieces ps s → Pieces qs t → Pieces (ps ++ qs) (s ++ t)
pieces_append no_piece r = r
pieces_append {t = t} (piece {p = p} {s = s} i l q) r = rw (append_assoc (part_bytes p) s t) (piece i l (pieces_append q r))

pub total_append : (ps qs : List WrittenPart) → total_of (ps ++ qs) ≡ total_of ps + total_of qs
total_append [] qs = sym (zero-add (total_of qs))
total_append (p ∷ ps) qs = omega (arith, total_append ps qs)

-- ---- letters before digits

pub lower_range : (b : ℕ) → is_lower_alpha b ≡ true → (97 ≤ b) × (b ≤ 122)
unfolding is_lower_alpha
lower_range b e = (within_low 97 122 b e, within_high 97 122 b e)

pub space_range : (b : ℕ) → is_space b ≡ true → b ≤ 32
unfolding is_space
space_range b e =
    or_case (eqb b 32 || eqb b 9) (eqb b 13) e
    (λ e. or_case (eqb b 32) (eqb b 9) e (λ q. let h = eqb-true b 32 q in omega arith) (λ q. let h = eqb-true b 9 q in omega arith))
    (λ q. let h = eqb-true b 13 q in omega arith)

-- no letter stands before a digit
abbrev quiet : List ℕ → Bool
quiet [] = true
quiet (a ∷ s) = not (is_lower_alpha a && is_digit (byte s 0)) && quiet s

-- neither behind bytes that are no letters, nor before bytes that are no digits
quiet_low : (s r : List ℕ) → each (λ b. not (is_lower_alpha b)) s ≡ true → quiet r ≡ true → quiet (s ++ r) ≡ true
quiet_low [] r e q = q
quiet_low (a ∷ s) r e q =
    let x = not-true (is_lower_alpha a) (and_left (not (is_lower_alpha a)) (each (λ b. not (is_lower_alpha b)) s) e) in
    let y = quiet_low s r (and_right (not (is_lower_alpha a)) (each (λ b. not (is_lower_alpha b)) s) e) q in
    rw (x, y)

quiet_high : (u : List ℕ) → each (λ b. not (is_digit b || eqb b 46)) u ≡ true → quiet u ≡ true
quiet_high [] e = refl
quiet_high (a ∷ []) e = rw (no_digit, and-false (is_lower_alpha a))
quiet_high (a ∷ b ∷ u) e =
    let t : ℕ → Bool = λ b. not (is_digit b || eqb b 46) in
    let f = and_right (t a) (each t (b ∷ u)) e in
    let d = (neither (is_digit b) (eqb b 46) (and_left (t b) (each t u) f)).0 in
    rw (d, and-false (is_lower_alpha a)) (quiet_high (b ∷ u) f)

digits_low : (s : List ℕ) → each is_digit s ≡ true → each (λ b. not (is_lower_alpha b)) s ≡ true
digits_low [] e = refl
digits_low (a ∷ s) e =
    let d = digit_range a (and_left (is_digit a) (each is_digit s) e) in
    let l : is_lower_alpha a ≡ false = by_cases (is_lower_alpha a) (λ q. absurd (omega (arith, lower_range a q))) (λ q. q) in
    rw (l, digits_low s (and_right (is_digit a) (each is_digit s) e))

-- so it is in a part
quiet_part : (p : WrittenPart) → IsPart p → quiet (part_bytes p) ≡ true
unfolding is_lower_alpha
quiet_part p i =
    quiet_low p.whole (pick p.point (46 ∷ p.fraction) [] ++ p.unit) (digits_low p.whole i.whole_digits)
    (by_cases p.point
    (λ e. rw e (quiet_low (46 ∷ p.fraction) p.unit (digits_low p.fraction i.fraction_digits) (quiet_high p.unit i.unit_bytes)))
    (λ e. rw e (quiet_high p.unit i.unit_bytes)))

-- and where two lists meet, the first ending with a letter
quiet_seam : (a : ℕ) (s r : List ℕ) → quiet (a ∷ s ++ r) ≡ true → is_lower_alpha (byte (a ∷ s) (length s)) ≡ true → is_digit (byte r 0) ≡ false
quiet_seam a [] r q l = rw l at (not-true (is_lower_alpha a && is_digit (byte r 0)) (and_left (not (is_lower_alpha a && is_digit (byte r 0))) (quiet r) q))
quiet_seam a (b ∷ s) r q l = quiet_seam b s r (and_right (not (is_lower_alpha a && is_digit b)) (quiet (b ∷ s ++ r)) q) l

-- ---- two cuts of one list

record Meets (u v a y : List ℕ) : Type 0 where
  pub between : List ℕ
  pub longer : a ≡ u ++ between
  pub rest : v ≡ between ++ y

meets : (u v a y : List ℕ) → u ++ v ≡ a ++ y → length u ≤ length a → Meets u v a y
meets [] v a y e h = record { between = a; longer = refl; rest = e }
meets (b ∷ u) v [] y e h = absurd (not-suc-le-zero h)
meets (b ∷ u) v (c ∷ a) y e h =
    let m = meets u v a y (ap tail e) (le_of_suc-le-suc h) in
    let q : b ≡ c = cc in
    record { between = m.between; longer = let l = m.longer in cc; rest = m.rest }

-- ---- apart

-- a list is empty, or ends with a letter
abbrev pub EndsLower : List ℕ → Type 0
EndsLower s = 0 < length s → is_lower_alpha (byte s (length s - 1)) ≡ true

pub record Apart (ps : List WrittenPart) (a y blanks : List ℕ) : Type 0 where
  pub front : List WrittenPart
  pub back : List WrittenPart
  pub bytes : List ℕ
  pub whole : ps ≡ front ++ back
  pub first : Pieces front a
  pub second : Pieces back bytes
  pub rest : y ≡ bytes ++ blanks

pub ends_rest : (s t : List ℕ) → EndsLower (s ++ t) → EndsLower t
ends_rest s t e h =
    let n : length (s ++ t) - 1 ≡ length s + (length t - 1) = omega (arith, length-append s t) in
    rw (n, get_or-append-add s t (length t - 1) 0) at (e (omega (arith, length-append s t)))

pub blanks_end : (s : List ℕ) → each is_space s ≡ true → EndsLower s → s ≡ []
blanks_end [] e l = refl
blanks_end (b ∷ []) e l =
    absurd (omega (arith, lower_range b (l (suc-le-suc zero-le)), space_range b (and_left (is_space b) true e)))
blanks_end (b ∷ c ∷ s) e l =
    let z = blanks_end (c ∷ s) (and_right (is_space b) (each is_space (c ∷ s)) e) (ends_rest (b ∷ []) (c ∷ s) l) in
    absurd (omega (arith, ap length z))

pub digit_front : (s t : List ℕ) → is_digit (byte (s ++ t) 0) ≡ true → each is_space t ≡ true → is_digit (byte s 0) ≡ true
digit_front [] [] d e = d
digit_front [] (b ∷ t) d e = absurd (omega (arith, digit_range b d, space_range b (and_left (is_space b) (each is_space t) e)))
digit_front (a ∷ s) t d e = d

each_rest : (t : ℕ → Bool) (a y : List ℕ) → each t (a ++ y) ≡ true → each t y ≡ true
each_rest t [] y e = e
each_rest t (b ∷ a) y e = each_rest t a y (and_right (t b) (each t (a ++ y)) e)

one_more : {p : WrittenPart} {ps : List WrittenPart} {c a y blanks : List ℕ} → IsPart p → Lexable p → a ≡ part_bytes p ++ c → Apart ps c y blanks
    → Apart (p ∷ ps) a y blanks
one_more {p} i x e r =
    record {
      front = p ∷ r.front;
      back = r.back;
      bytes = r.bytes;
      whole = ap (λ (z : List WrittenPart). p ∷ z) r.whole;
      first = rw e (piece i x r.first);
      second = r.second;
      rest = r.rest;
    }

module _ (y blanks : List ℕ) (d : is_digit (byte y 0) ≡ true) (b : each is_space blanks ≡ true) where
  -- a part does not reach over the seam
  seam_in_part : (p : WrittenPart) (s : List ℕ) → IsPart p → (c : ℕ) (a : List ℕ) → part_bytes p ++ s ≡ c ∷ a ++ y → EndsLower (c ∷ a)
      → length (c ∷ a) < length (part_bytes p) → ⊥
  seam_in_part p s i c a e l h =
      let m = meets (c ∷ a) y (part_bytes p) s (sym e) (omega arith) in
      let n = ap length m.longer in
      let q = quiet_seam c a m.between (rw m.longer at (quiet_part p i)) (rw sub-one at (l (suc-le-suc zero-le))) in
      true_false (is_digit (byte y 0)) d (front m.between y m.rest (omega (arith, length-append a m.between)) q)
    where
      front : (g y : List ℕ) → y ≡ g ++ s → 0 < length g → is_digit (byte g 0) ≡ false → is_digit (byte y 0) ≡ false
      front [] y r k q = absurd (not-suc-le-zero k)
      front (x ∷ g) y r k q = rw r q

  pub apart : {ps : List WrittenPart} {s : List ℕ} → Pieces ps s → (a : List ℕ) → s ++ blanks ≡ a ++ y → EndsLower a → Apart ps a y blanks
  apart no_piece a e l = true_false (is_digit 0) (digit_front [] y d (each_rest is_space a y (rw e at b))) no_digit
  apart (piece {p = p} {ps = ps} {s = s} i x q) [] e l =
      record { front = []; back = p ∷ ps; bytes = part_bytes p ++ s; whole = refl; first = no_piece; second = piece i x q; rest = sym e }
  apart (piece {p = p} {ps = ps} {s = s} i x q) (c ∷ a) e l =
      by_cases (ltb (length (c ∷ a)) (length (part_bytes p)))
      (λ t. absurd (seam_in_part p (s ++ blanks) i c a joined l (ltb-true (length (c ∷ a)) (length (part_bytes p)) t)))
      (λ t. let m = meets (part_bytes p) (s ++ blanks) (c ∷ a) y joined (ltb-false (length (c ∷ a)) (length (part_bytes p)) t) in
      one_more i x m.longer (apart q m.between m.rest (ends_rest (part_bytes p) m.between (subst EndsLower m.longer l))))
    where
      joined : part_bytes p ++ (s ++ blanks) ≡ c ∷ a ++ y
      joined = sym (append_assoc (part_bytes p) s blanks) ∙ e
