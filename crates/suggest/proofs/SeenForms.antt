-- For Cuts and SeenRuns: in a sign or none, parts that the lexer takes, and blanks, a Duration is seen exactly where the total fits under the sign. By the
-- front of the parts. Assumes nothing.
use Rattle.std.specs.Prelude.{Option, Some, None}
use mathlib.Core.Path.{◌≡◌, refl, ap, ◌∙◌}
use mathlib.Core.Bool.{Bool, true, false}
use mathlib.Core.List.{List, [], ◌∷◌, ◌++◌, append_assoc}
use Prim.Native.Nat.{ℕ, ◌+◌, ◌<◌, zero-le, suc-le-suc}
use native.Mathlib.Omega.{arith}
use borrow.Author.Tests.{eq-eqb, leb-true, leb-false}
use lib.Dec.{leb, eqb}
use lib.IntN.{ℤ}
use lib.ListN.{length, drop, length-append}
use lib.Seq.{take-append_seam, drop-append_seam}
use Rattle.std.proofs.Common.{Option, Some, None, ℤ}
use Rattle.base.specs.Choice.{pick}
use Rattle.base.specs.Bytes.{byte, each}
use Rattle.base.specs.Classes.{is_digit, is_space}
use Rattle.base.specs.Runs.{run, reach, walk}
use Rattle.base.proofs.Tests.{and_left, and_right, by_cases, true_false, no_digit}
use Rattle.token.specs.Kind.{kind_number}
use Rattle.go_duration.specs.Fraction.{most}
use Rattle.go_duration.specs.Parse.{sign_of, parse_of}
use Rattle.go_duration.specs.Written.{WrittenPart, part_bytes, Duration, total_of}
use Rattle.go_duration.proofs.Durations.{complete, refused}
use Rattle.scan.specs.Run.{unit_piece}
use Rattle.scan.specs.Number.{duration_by, lex_number}
use Rattle.scan.specs.Run.{in_blank}
use Rattle.lexer.specs.Token.{start_at}
use Rattle.suggest.specs.Helpers.{starts_number, seen_by}
use Rattle.suggest.proofs.PartCuts.{Pieces, no_piece, piece, pieces_parts}
use Rattle.suggest.proofs.PieceWalks.{walk_pieces, walk_blanks}
use Rattle.suggest.proofs.PieceFronts.{lexed_digits, number_digits}

-- what is seen in a text that begins with no blank
abbrev pub seen_at : List ℕ → Option ℤ
seen_at s = pick (starts_number (byte s 0)) (seen_by (lex_number s) (eqb (start_at s (lex_number s).len) (length s))) None

-- bytes under a sign
abbrev pub signed : Bool → List ℕ → List ℕ
signed neg s = pick neg (45 ∷ s) s

-- what has to be at most 2^63
abbrev pub top : Bool → ℕ → ℕ
top neg n = pick neg n (n + 1)

-- a sign or none, parts that the lexer takes, of which the first begins with a digit, and blanks
pub record Form (s : List ℕ) (neg : Bool) (ps : List WrittenPart) : Type 0 where
  pub bytes : List ℕ
  pub blanks : List ℕ
  pub pieces : Pieces ps bytes
  pub digit : is_digit (byte bytes 0) ≡ true
  pub blank : each is_space blanks ≡ true
  pub text : s ≡ signed neg bytes ++ blanks

-- ---- blanks to the end

run_blanks : (s : List ℕ) → each is_space s ≡ true → run in_blank s ≡ length s
unfolding run
run_blanks [] e = refl
run_blanks (b ∷ s) e = rw (and_left (is_space b) (each is_space s) e, run_blanks s (and_right (is_space b) (each is_space s) e))

-- ---- the form is seen

pub front_digit : (s t : List ℕ) → is_digit (byte s 0) ≡ true → is_digit (byte (s ++ t) 0) ≡ true
front_digit [] t d = true_false (is_digit 0) d no_digit
front_digit (a ∷ s) t d = d

minus_starts : starts_number 45 ≡ true
unfolding starts_number is_digit
minus_starts = refl

digit_starts : (a : ℕ) → is_digit a ≡ true → starts_number a ≡ true
unfolding starts_number
digit_starts a d = rw d

sign_out : (neg : Bool) (t b : List ℕ) → signed neg t ++ b ≡ signed neg (t ++ b)
sign_out true t b = refl
sign_out false t b = refl

module _ (neg : Bool) (b : List ℕ) (e : each is_space b ≡ true) where
  starts : (t : List ℕ) → is_digit (byte t 0) ≡ true → starts_number (byte (signed neg t ++ b) 0) ≡ true
  starts t d = by_cases neg (λ q. rw q minus_starts) (λ q. rw q (digit_starts (byte (t ++ b) 0) (front_digit t b d)))

  to_end : (w : List ℕ) → start_at (w ++ b) (length w) ≡ length (w ++ b)
  unfolding start_at reach
  to_end w = rw (drop-append_seam, run_blanks b e, length-append)

  number_is : {ps : List WrittenPart} {t : List ℕ} → Pieces ps t → is_digit (byte t 0) ≡ true
      → lex_number (signed neg t ++ b) ≡ duration_by (parse_of (signed neg t)) (length (signed neg t))
  number_is no_piece d = true_false (is_digit 0) d no_digit
  number_is (piece {p = p} {s = s} i l q) d =
      let t = part_bytes p ++ s in
      let n = length (signed neg t) in
      ap lex_number (sign_out neg t b) ∙ number_digits neg (t ++ b) (front_digit t b d)
      ∙ lexed_digits (signed neg (t ++ b)) (pick neg 1 0) p (s ++ b) (at_part neg) i l n (size neg)
      ∙ ap (λ (w : List ℕ). duration_by (parse_of w) n) (rw (← sign_out neg t b) (take-append_seam (signed neg t) b))
    where
      at_part : (x : Bool) → drop (pick x 1 0) (signed x ((part_bytes p ++ s) ++ b)) ≡ part_bytes p ++ (s ++ b)
      at_part true = append_assoc (part_bytes p) s b
      at_part false = append_assoc (part_bytes p) s b

      size : (x : Bool) → pick x 1 0 + length (part_bytes p) + walk unit_piece 0 (s ++ b) ≡ length (signed x (part_bytes p ++ s))
      size true = omega (arith, walk_pieces q b, walk_blanks b e, length-append (part_bytes p) s)
      size false = omega (arith, walk_pieces q b, walk_blanks b e, length-append (part_bytes p) s)

  seen_by_lem : {ps : List WrittenPart} (t : List ℕ) → Pieces ps t → is_digit (byte t 0) ≡ true → (r : Option ℤ) → parse_of (signed neg t) ≡ r
      → seen_at (signed neg t ++ b) ≡ seen_by (duration_by r (length (signed neg t))) true
  seen_by_lem t q d (Some z) h =
      rw (starts t d, number_is q d, h, to_end (signed neg t), eq-eqb (length (signed neg t ++ b)) (length (signed neg t ++ b)) refl)
  seen_by_lem t q d None h =
      rw (starts t d, number_is q d, h, to_end (signed neg t), eq-eqb (length (signed neg t ++ b)) (length (signed neg t ++ b)) refl)

  abbrev fitting : ℕ → Option ℤ
  fitting n = pick (leb (top neg n) most) (Some (sign_of neg n)) None

  seen_total : {ps : List WrittenPart} (t : List ℕ) → Pieces ps t → is_digit (byte t 0) ≡ true → seen_at (signed neg t ++ b) ≡ fitting (total_of ps)
  unfolding seen_by kind_number
  seen_total {ps} t q d =
      let w : Duration neg ps (signed neg t) = record { rest = t; parts = pieces_parts q; some = some q d; bytes = refl } in
      by_cases (leb (top neg (total_of ps)) most)
      (λ l. rw l (seen_by_lem t q d (Some (sign_of neg (total_of ps)))
      (complete neg ps (signed neg t) (record { form = w; bound = leb-true (top neg (total_of ps)) most l }))))
      (λ l. rw l (seen_by_lem t q d None (refused neg ps (signed neg t) w (λ h. let g = leb-false (top neg (total_of ps)) most l in omega arith))))
    where
      some : {ps : List WrittenPart} {t : List ℕ} → Pieces ps t → is_digit (byte t 0) ≡ true → 0 < length ps
      some no_piece d = true_false (is_digit 0) d no_digit
      some (piece i l q) d = suc-le-suc zero-le

pub form_seen : {s : List ℕ} {neg : Bool} {ps : List WrittenPart} → Form s neg ps
    → seen_at s ≡ pick (leb (top neg (total_of ps)) most) (Some (sign_of neg (total_of ps))) None
form_seen {neg = neg} f = ap seen_at f.text ∙ seen_total neg f.blanks f.blank f.bytes f.pieces f.digit
