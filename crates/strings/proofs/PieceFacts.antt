-- Each piece takes at least one byte and no more than there are, and gives fewer than it takes, or one that stands for itself; a bad escape's
-- letter stands second, and its last byte is ASCII but for unknown ones. For the laws of steps. By cases on the tests. Assumes nothing.
use mathlib.Core.Path.{◌≡◌, refl, ap, sym}
use mathlib.Core.Bool.{Bool, true, false}
use mathlib.Core.List.{List, [], ◌∷◌}
use Rattle.std.proofs.Common.{Option, Some, None, is_some, option_and_then, option_map}
use Prim.Native.Nat.{ℕ, zero, suc, ◌+◌, ◌-◌, ◌≤◌, ◌<◌}
use native.Mathlib.Omega.{arith}
use borrow.Author.Tests.{ltb-true, ltb-false, eqb-true, eqb-false}
use lib.Dec.{ltb, eqb, lit≤}
use lib.ListN.{length, drop, length-drop}
use lib.Seq.{get_or-drop}
use Rattle.base.specs.Choice.{pick}
use Rattle.base.specs.Bytes.{byte, within}
use Rattle.base.proofs.Tests.{in_text, over, pick_case, true_false, within_high}
use Rattle.utf8.specs.Character.{octets_of, encoded, is_scalar}
use Rattle.utf8.specs.declared.character.Encoded.{Encoded}
use Rattle.utf8.proofs.RoundTrip.{encode_length, octets_encoded}
use Rattle.token.specs.Reason as reasons
use Rattle.token.specs.Reason.{reason_number, is_unknown_escape}
use Rattle.token.specs.declared.reason.Reason.TheVariants as R
use Rattle.strings.specs.Piece.{hex_of, oct_of, simple_of, bad_escape, byte_piece, hex_byte, hex_piece, oct_byte, oct_piece, hex_count, hex_value}
use Rattle.strings.specs.Piece.{code_piece, letter_piece, escape_piece, piece_of}
use Rattle.strings.specs.declared.piece.BadEscape.{BadEscape}
use Rattle.strings.specs.declared.piece.Piece.{Piece}
use Rattle.strings.specs.declared.piece.Piece.TheVariants.{Bytes, Bad, Close, Newline, Cut, Open}

-- n bytes out of `used`, where m are left
pub record Taken (n used m : ℕ) : Type 0 where
  pub some : 1 ≤ used
  pub left : used ≤ m
  pub less : n ≤ used
  pub four : n ≤ 4

-- bytes out of the first `used` of l: as many as these only where it is one that stands for itself
pub record Given (l : List ℕ) (enc : Encoded) (used : ℕ) : Type 0 where
  pub bytes : Taken enc.len used (length l)
  pub count : length (octets_of enc) ≡ enc.len
  pub own : enc.len ≡ used → (used ≡ 1) × (octets_of enc ≡ byte l 0 ∷ [])

escaped : (l v : List ℕ) (used : ℕ) → Taken (length v) used (length l) → length v < used → Given l (encoded v) used
escaped l v used t h =
    record { bytes = t; count = ap length (octets_encoded v t.four); own = λ e. absurd (omega arith) }

-- a bad escape of `used` bytes at the front of l
pub record Refused (l : List ℕ) (x : BadEscape) (used : ℕ) : Type 0 where
  pub bytes : Taken 2 used (length l)
  pub high : reason_number x.reason ≤ reasons.unknown_escape
  pub named : x.letter ≡ byte l 1
  pub last : is_unknown_escape x.reason ≡ false → byte l (used - 1) < 0x80

refused : (l : List ℕ) (x : BadEscape) (used : ℕ) → Taken 2 used (length l) → reason_number x.reason ≤ reasons.unknown_escape → x.letter ≡ byte l 1
    → (is_unknown_escape x.reason ≡ false → byte l (used - 1) < 0x80) → Refused l x used
refused l x used t b n e = record { bytes = t; high = b; named = n; last = e }

-- an ASCII byte at the front
pub record Front (l : List ℕ) : Type 0 where
  pub some : 1 ≤ length l
  pub ascii : byte l 0 < 0x80

abbrev pub PieceFacts : List ℕ → Piece → Type 0
PieceFacts l (Bytes enc used) = Given l enc used
PieceFacts l (Bad x used) = Refused l x used
PieceFacts l Close = Front l
PieceFacts l Newline = Front l
PieceFacts l Cut = Front l
PieceFacts l Open = length l ≡ 0

-- a digit is an ASCII byte
hex_ascii : (x : ℕ) → is_some (hex_of x) ≡ true → x < 0x80
unfolding hex_of
hex_ascii x e = go (ltb x 0x80) refl
  where
    go : (b : Bool) → ltb x 0x80 ≡ b → x < 0x80
    go true t = ltb-true x 0x80 t
    go false t =
        let h = ltb-false x 0x80 t in
        true_false true refl (sym (rw (over 48 57 x (omega arith), over 65 70 x (omega arith), over 97 102 x (omega arith)) at e))

count_le : (n : ℕ) (l : List ℕ) → hex_count n l ≤ n
unfolding hex_count
count_le zero l = omega arith
count_le (suc n) [] = omega arith
count_le (suc n) (x ∷ l) = go (is_some (hex_of x)) (count_le n l)
  where
    go : (b : Bool) → hex_count n l ≤ n → pick b (suc (hex_count n l)) 0 ≤ suc n
    go true h = omega arith
    go false h = omega arith

-- the last digit that is counted is an ASCII byte
count_last : (n : ℕ) (l : List ℕ) (k : ℕ) → hex_count n l ≡ suc k → byte l k < 0x80
unfolding hex_count
count_last zero l k e = absurd (omega arith)
count_last (suc n) [] k e = absurd (omega arith)
count_last (suc n) (x ∷ l) k e = go (is_some (hex_of x)) refl k e (count_last n l)
  where
    go : (b : Bool) → is_some (hex_of x) ≡ b → (k : ℕ) → pick b (suc (hex_count n l)) 0 ≡ suc k → ((j : ℕ) → hex_count n l ≡ suc j → byte l j < 0x80)
        → byte (x ∷ l) k < 0x80
    go true t zero e ih = hex_ascii x t
    go true t (suc k) e ih = ih k (omega arith)
    go false t k e ih = absurd (omega arith)

-- two digits that give a byte: the second is one
second_some : (x y : Option ℕ) (f : ℕ → ℕ → ℕ) → is_some (option_and_then (λ h. option_map (f h) y) x) ≡ true → is_some y ≡ true
second_some None y f e = true_false false e refl
second_some (Some h) None f e = e
second_some (Some h) (Some d) f e = refl

module _ (t : List ℕ) (two : 1 < length t) where
  bad_2 : (x : BadEscape) → reason_number x.reason ≤ reasons.unknown_escape → x.letter ≡ byte t 1
      → (is_unknown_escape x.reason ≡ false → byte t 1 < 0x80) → PieceFacts t (Bad x 2)
  bad_2 x hi nm h = refused t x 2 (omega arith) hi nm h

  fine_byte : (x : BadEscape) (v : Option ℕ) → (is_some v ≡ true → 3 < length t) → reason_number x.reason ≤ reasons.unknown_escape
      → x.letter ≡ byte t 1 → byte t 1 < 0x80 → PieceFacts t (byte_piece x v)
  fine_byte x None l hi nm h = bad_2 x hi nm (λ _. h)
  fine_byte x (Some b) l hi nm h = let four = l refl in escaped t (b ∷ []) 4 (omega arith) (lit≤ tt)

  fine_hex : byte t 1 ≡ 0x78 → PieceFacts t (hex_piece t)
  unfolding hex_piece hex_byte hex_of reason_number
  fine_hex x =
      fine_byte (bad_escape R.BadX 0x78) (hex_byte t)
      (λ e. in_text (λ (c : ℕ). is_some (hex_of c)) t 3 refl (second_some (hex_of (byte t 2)) (hex_of (byte t 3)) _ e))
      (lit≤ tt) (sym x) (omega arith)

  fine_oct : byte t 1 < 0x80 → PieceFacts t (oct_piece (byte t 1) t)
  unfolding oct_piece oct_byte oct_of reason_number
  fine_oct h =
      fine_byte (bad_escape R.BadOctal (byte t 1)) (oct_byte (byte t 1) t)
      (λ e. in_text (λ (c : ℕ). is_some (oct_of c)) t 3 refl (second_some (oct_of (byte t 2)) (oct_of (byte t 3)) _ e)) (lit≤ tt) refl h

  -- what stands before the end of the digits that are counted
  code_last : (n : ℕ) → byte t 1 < 0x80 → byte t (hex_count n (drop 2 t) + 2 - 1) < 0x80
  code_last n h = go (hex_count n (drop 2 t)) refl
    where
      go : (k : ℕ) → hex_count n (drop 2 t) ≡ k → byte t (k + 2 - 1) < 0x80
      go zero e = h
      go (suc k) e =
          let j : suc k + 2 - 1 ≡ 2 + k = omega arith in
          rw (j, ← get_or-drop 2 t k 0) (count_last n (drop 2 t) k e)

  fine_code : (n : ℕ) (x : BadEscape) → 3 ≤ n → reason_number x.reason ≤ reasons.unknown_escape → x.letter ≡ byte t 1 → byte t 1 < 0x80
      → PieceFacts t (code_piece n x (drop 2 t))
  unfolding code_piece
  fine_code n x h hi nm ascii =
      let l = drop 2 t in
      let bad : n ≤ length l → PieceFacts t (Bad x (hex_count n l + 2)) =
      λ b. refused t x (hex_count n l + 2) (omega (arith, length-drop 2 t, count_le n l)) hi nm (λ _. code_last n ascii) in
      pick_case (PieceFacts t) (ltb (length l) n) (λ _. bad_2 x hi nm (λ _. ascii))
      (λ e. let b : n ≤ length l = ltb-false (length l) n e in
      pick_case (PieceFacts t) (ltb (hex_count n l) n) (λ _. bad b)
      (λ f. pick_case (PieceFacts t) (is_scalar (hex_value n 0 l))
      (λ _. let few = (encode_length (hex_value n 0 l)).1 in escaped t _ (n + 2) (omega (arith, length-drop 2 t)) (omega arith))
      (λ _. let q : hex_count n l ≡ n = omega (arith, count_le n l, ltb-false (hex_count n l) n f) in rw q at (bad b))))

  fine_letter : (v : Option ℕ) → PieceFacts t (letter_piece v t)
  unfolding reason_number
  fine_letter (Some b) = escaped t (b ∷ []) 2 (omega arith) (lit≤ tt)
  fine_letter None =
      let e : ℕ = byte t 1 in
      pick_case (PieceFacts t) (eqb e 0x78) (λ x. fine_hex (eqb-true e 0x78 x))
      (λ _. pick_case (PieceFacts t) (eqb e 0x75)
      (λ x. let q = eqb-true e 0x75 x in fine_code 4 (bad_escape R.BadU 0x75) (lit≤ tt) (lit≤ tt) (sym q) (omega arith))
      (λ _. pick_case (PieceFacts t) (eqb e 0x55)
      (λ x. let q = eqb-true e 0x55 x in fine_code 8 (bad_escape R.BadCapitalU 0x55) (lit≤ tt) (lit≤ tt) (sym q) (omega arith))
      (λ _. pick_case (PieceFacts t) (within 48 51 e) (λ x. let q = within_high 48 51 e x in fine_oct (omega arith))
      (λ _. bad_2 (bad_escape R.UnknownEscape e) (lit≤ tt) refl (λ n. true_false true refl n)))))

  fine_escape : PieceFacts t (escape_piece t)
  unfolding escape_piece
  fine_escape = fine_letter (simple_of (byte t 1))

front : (c : ℕ) (l : List ℕ) (k : ℕ) → eqb c k ≡ true → k < 0x80 → Front (c ∷ l)
front c l k e h = let q = eqb-true c k e in record { some = omega arith; ascii = omega arith }

pub piece_facts : (l : List ℕ) → PieceFacts l (piece_of l)
unfolding piece_of
piece_facts [] = refl
piece_facts (c ∷ l) =
    let t = c ∷ l in
    pick_case (PieceFacts t) (eqb c 0x22) (λ e. front c l 0x22 e (omega arith))
    (λ _. pick_case (PieceFacts t) (eqb c 0x0A) (λ e. front c l 0x0A e (omega arith))
    (λ _. pick_case (PieceFacts t) (eqb c 0x5C)
    (λ s. pick_case (PieceFacts t) (eqb (length l) 0) (λ _. front c l 0x5C s (omega arith))
    (λ e. let n : length l ≡ 0 → ⊥ = eqb-false (length l) 0 e in fine_escape t (omega arith)))
    (λ _. record { bytes = omega arith; count = refl; own = λ _. (refl, refl) })))
