-- For SeenForms and SeenRuns: what the lexer does at the front of written parts. It finds the end of the first part's digits, and takes all parts for a
-- Duration, where they are such as it takes. By the fronts of base, and cases on the point. Assumes nothing.
use mathlib.Core.Path.{◌≡◌, ap, sym, ◌∙◌}
use mathlib.Core.Bool.{Bool, true, false, ◌&&◌, ◌||◌}
use mathlib.Core.List.{List, [], ◌∷◌, ◌++◌, append_assoc}
use Prim.Native.Nat.{ℕ, ◌+◌, ◌<◌}
use native.Mathlib.Nat.{add-zero, not-suc-le-zero}
use native.Mathlib.Omega.{arith}
use borrow.Author.Tests.{ne_eqb}
use lib.Dec.{eqb}
use lib.ListN.{length, take, drop, length-append}
use lib.Seq.{get_or-drop, drop-drop, drop-append_seam}
use Rattle.base.specs.Choice.{pick}
use Rattle.base.specs.Bytes.{byte, each}
use Rattle.base.specs.Classes.{is_digit}
use Rattle.base.specs.Digits.{in_digits}
use Rattle.base.specs.Runs.{reach, walk, past}
use Rattle.base.proofs.Tests.{and_left, and-false, or_left, or_right, by_cases, no_digit, digit_range}
use Rattle.base.proofs.Fronts.{begins, begins_is, reach_front}
use Rattle.go_duration.specs.Parse.{parse_of}
use Rattle.go_duration.specs.Written.{WrittenPart, part_bytes, IsPart}
use Rattle.scan.specs.Run.{unit_piece}
use Rattle.scan.specs.Number.{past_fraction, at_duration_unit, duration_by, lex_duration, lex_tail, lex_digits, at_inf, lex_number}
use Rattle.suggest.proofs.PartCuts.{Lexable}
use Rattle.suggest.proofs.PieceWalks.{no_unit, unit_plain, unit_taken}

-- ---- a text by what is left at an index

byte_at : (s t : List ℕ) (i : ℕ) → drop i s ≡ t → byte s i ≡ byte t 0
byte_at s t i d = rw add-zero at (sym (get_or-drop i s 0 0) ∙ ap (λ (l : List ℕ). byte l 0) d)

byte_next : (s t : List ℕ) (i : ℕ) → drop i s ≡ t → byte s (i + 1) ≡ byte t 1
byte_next s t i d = sym (get_or-drop i s 1 0) ∙ ap (λ (l : List ℕ). byte l 1) d

drop_front : (s a t : List ℕ) (i : ℕ) → drop i s ≡ a ++ t → drop (i + length a) s ≡ t
drop_front s a t i d = sym (drop-drop (length a) i s) ∙ ap (drop (length a)) d ∙ drop-append_seam a t

-- a list of digits, and what follows it
digits_front : (a t : List ℕ) → each is_digit a ≡ true → 0 < length a → is_digit (byte (a ++ t) 0) ≡ true
digits_front [] t e h = absurd (not-suc-le-zero h)
digits_front (b ∷ a) t e h = and_left (is_digit b) (each is_digit a) e

-- ---- the first part stands at i, and r behind it

module _ (s : List ℕ) (i : ℕ) (p : WrittenPart) (r : List ℕ) (d : drop i s ≡ part_bytes p ++ r) (part : IsPart p) where
  abbrev middle : List ℕ
  middle = pick p.point (46 ∷ p.fraction) []

  -- the end of its digits
  abbrev n : ℕ
  n = i + length p.whole

  at_whole : drop i s ≡ p.whole ++ (middle ++ (p.unit ++ r))
  at_whole = d ∙ rw (append_assoc, append_assoc middle p.unit r)

  at_middle : drop n s ≡ middle ++ (p.unit ++ r)
  at_middle = drop_front s p.whole (middle ++ (p.unit ++ r)) i at_whole

  plain : no_unit (byte (p.unit ++ r) 0) ≡ false
  plain = unit_plain p.unit part.known r

  abbrev digit_or_point : Bool
  digit_or_point = is_digit (byte (p.unit ++ r) 0) || eqb (byte (p.unit ++ r) 0) 46

  unit_no_digit : begins is_digit (p.unit ++ r) ≡ false
  unit_no_digit =
      sym (begins_is is_digit (p.unit ++ r) no_digit)
      ∙ or_left (is_digit (byte (p.unit ++ r) 0)) (eqb (byte (p.unit ++ r) 0) 46) (or_left digit_or_point (eqb (byte (p.unit ++ r) 0) 45) plain)

  middle_no_digit : begins is_digit (middle ++ (p.unit ++ r)) ≡ false
  unfolding is_digit
  middle_no_digit = by_cases p.point (λ e. rw e) (λ e. rw e unit_no_digit)

  digits_end : reach in_digits s i ≡ n
  digits_end = reach_front is_digit s i p.whole (middle ++ (p.unit ++ r)) at_whole part.whole_digits middle_no_digit

  -- no timestamp begins so
  pub no_minus : eqb (byte s (reach in_digits s i)) 45 ≡ false
  no_minus =
      rw (digits_end, byte_at s (middle ++ (p.unit ++ r)) n at_middle)
      (by_cases p.point (λ e. rw e) (λ e. rw e (or_right digit_or_point (eqb (byte (p.unit ++ r) 0) 45) plain)))

  module _ (l : Lexable p) where
    -- the start of its unit
    abbrev f : ℕ
    f = n + length middle

    at_unit : drop f s ≡ p.unit ++ r
    at_unit = drop_front s middle (p.unit ++ r) n at_middle

    fraction_end_lem : past_fraction s n ≡ f
    unfolding past_fraction
    fraction_end_lem =
        rw (byte_at s (middle ++ (p.unit ++ r)) n at_middle, byte_next s (middle ++ (p.unit ++ r)) n at_middle)
        (by_cases p.point
        (λ e. let x : drop n s ≡ 46 ∷ (p.fraction ++ (p.unit ++ r)) = rw e at at_middle in
        let y = reach_front is_digit s (n + 1) p.fraction (p.unit ++ r) (drop_front s (46 ∷ []) (p.fraction ++ (p.unit ++ r)) n x)
        part.fraction_digits unit_no_digit in
        rw (e, digits_front p.fraction (p.unit ++ r) part.fraction_digits (l.fraction e)) (omega arith))
        (λ e. rw (
          e,
          or_right (is_digit (byte (p.unit ++ r) 0)) (eqb (byte (p.unit ++ r) 0) 46)
              (or_left digit_or_point (eqb (byte (p.unit ++ r) 0) 45) plain),
        ) (omega arith)))

    lexed_unit : at_duration_unit (byte s f) (byte s (f + 1)) ≡ true
    lexed_unit = rw (byte_at s (p.unit ++ r) f at_unit, byte_next s (p.unit ++ r) f at_unit) ((unit_taken p.unit part.known l.unit).at r)

    pieces_end : past unit_piece s f ≡ i + length (part_bytes p) + walk unit_piece 0 r
    unfolding past
    pieces_end =
        let w = (unit_taken p.unit part.known l.unit).walks r in
        rw at_unit (omega (arith, length-append p.whole (middle ++ p.unit), length-append middle p.unit))

    pub lexed_digits : (e : ℕ) → i + length (part_bytes p) + walk unit_piece 0 r ≡ e → lex_digits s i ≡ duration_by (parse_of (take e s)) e
    unfolding lex_digits lex_tail lex_duration
    lexed_digits e q = rw (no_minus, and-false (eqb i 0 && eqb (reach in_digits s i) 4), digits_end, fraction_end_lem, lexed_unit, pieces_end, q)

-- ---- the sign

pub number_digits : (neg : Bool) (s : List ℕ) → is_digit (byte s 0) ≡ true → lex_number (pick neg (45 ∷ s) s) ≡ lex_digits (pick neg (45 ∷ s) s) (pick neg 1 0)
unfolding lex_number at_inf
number_digits true s d = let h = digit_range (byte s 0) d in rw (d, ne_eqb (byte s 0) 105 (omega arith))
number_digits false s d = let h = digit_range (byte s 0) d in rw (ne_eqb (byte s 0) 43 (omega arith), ne_eqb (byte s 0) 45 (omega arith))
