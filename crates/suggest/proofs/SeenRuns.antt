-- For Cuts: a text that begins with no blank and in which a Duration is seen is a sign or none, parts that the lexer takes, and blanks, and the total fits
-- under the sign. By what is known of a Duration's run. Assumes nothing.
use Rattle.std.specs.Prelude.{Some, None}
use mathlib.Core.Path.{◌≡◌, refl, ap, sym, subst, ◌∙◌}
use mathlib.Core.Bool.{Bool, true, false, ◌&&◌, ◌||◌}
use mathlib.Core.List.{List, [], ◌∷◌, ◌++◌, append_assoc}
use Prim.Native.Nat.{ℕ, suc, ◌+◌, ◌≤◌, ◌<◌}
use native.Mathlib.Nat.{not-suc-le-zero}
use native.Mathlib.Omega.{arith}
use borrow.Author.Tests.{eqb-true}
use lib.Dec.{eqb}
use lib.IntN.{ℤ}
use lib.ListN.{length, take, drop, length-drop, take-append-drop}
use lib.Seq.{get_or-take, length-take-le}
use Rattle.base.specs.Choice.{pick}
use Rattle.base.specs.Bytes.{byte, each}
use Rattle.base.specs.Classes.{is_digit, is_space}
use Rattle.base.specs.Digits.{in_digits}
use Rattle.base.specs.Runs.{run, reach}
use Rattle.base.proofs.Tests.{and_left, and_right, by_cases, pick_first, zero_one}
use Rattle.token.specs.Kind.{kind_number, duration_number}
use Rattle.token.specs.Helpers.{is_duration}
use Rattle.token.proofs.KindNumbers.{number_kind_lem}
use Rattle.lexeme.specs.declared.Lexeme.{Lexeme}
use Rattle.go_duration.specs.Fraction.{most}
use Rattle.go_duration.specs.Parse.{sign_of}
use Rattle.go_duration.specs.Written.{WrittenPart, part_bytes, Parts, none, more, total_of, Accepted}
use Rattle.go_duration.proofs.Durations as durations
use Rattle.scan.specs.Number.{lex_number}
use Rattle.scan.proofs.Scanned.{DurationRun, Scanned}
use Rattle.scan.proofs.Numbers.{number_on_line}
use Rattle.scan.specs.Run.{in_blank}
use Rattle.lexer.specs.Token.{start_at}
use Rattle.suggest.specs.Helpers.{starts_number, seen_by}
use Rattle.suggest.proofs.PartCuts.{digit_front}
use Rattle.suggest.proofs.PieceRuns.{Fit, Begun, number_fits}
use Rattle.suggest.proofs.PieceParts.{fit_rest, pieces_of}
use Rattle.suggest.proofs.PieceFronts.{no_minus}
use Rattle.suggest.proofs.SeenForms.{seen_at, signed, top, Form}

-- what is seen, by its parts
pub record SeenAs (s : List ℕ) (z : ℤ) : Type 0 where
  pub neg : Bool
  pub parts : List WrittenPart
  pub form : Form s neg parts
  pub bound : top neg (total_of parts) ≤ most
  pub value : z ≡ sign_of neg (total_of parts)

-- blanks to the end
blanks_run : (s : List ℕ) → run in_blank s ≡ length s → each is_space s ≡ true
unfolding run
blanks_run [] e = refl
blanks_run (b ∷ s) e =
    by_cases (is_space b) (λ q. rw q (blanks_run s (let h : suc (run in_blank s) ≡ suc (length s) = rw q at e in omega arith)))
    (λ q. let h : 0 ≡ suc (length s) = rw q at e in absurd (omega arith))

other_duration : {z : ℤ} → None ≡ Some z → ⊥
other_duration e = zero_one cc

-- parts begin no timestamp
no_stamp : {ps : List WrittenPart} {t : List ℕ} → Parts ps t → 0 < length ps → (s b : List ℕ) → s ≡ t ++ b
    → eqb (byte s (reach in_digits s 0)) 45 ≡ false
no_stamp none h s b e = absurd (not-suc-le-zero h)
no_stamp (more {p = p} {s = t} i q) h s b e = no_minus s 0 p (t ++ b) (e ∙ append_assoc (part_bytes p) t b) i

-- a text of parts whose bytes fit, with a digit behind the sign
form_of : (s : List ℕ) (neg : Bool) {ps : List WrittenPart} {t : List ℕ} (b : List ℕ) → Parts ps t → s ≡ signed neg t ++ b → each is_space b ≡ true
    → is_digit (byte s (pick neg 1 0)) ≡ true → Fit s 0 (length (signed neg t)) → Form s neg ps
form_of s neg {t = t} b parts x blank d f =
    record {
      bytes = t;
      blanks = b;
      pieces = pieces_of parts b (fit_rest s (signed neg []) (t ++ b) (length (signed neg t)) (length t) (x ∙ sign neg) (size neg) f);
      digit = digit_front t b (rw (x, after_sign neg) at d) blank;
      blank = blank;
      text = x;
    }
  where
    sign : (g : Bool) → signed g t ++ b ≡ signed g [] ++ (t ++ b)
    sign true = refl
    sign false = refl

    size : (g : Bool) → length (signed g t) ≡ length (signed g []) + length t
    size true = omega arith
    size false = omega arith

    after_sign : (g : Bool) → byte (signed g t ++ b) (pick g 1 0) ≡ byte (t ++ b) 0
    after_sign true = refl
    after_sign false = refl

-- tests in another order
swap : (a b c : Bool) → a || b ≡ true → (c || b) || a ≡ true
swap a b true e = refl
swap a true false e = refl
swap true false false e = refl
swap false false false e = e

module _ (s : List ℕ) (z : ℤ) (e : seen_at s ≡ Some z) where
  abbrev token : Lexeme
  token = lex_number s

  begun : is_digit (byte s 0) || eqb (byte s 0) 45 ≡ true
  unfolding starts_number
  begun = (pick_first (starts_number (byte s 0)) other_duration e).0

  abbrev to_the_end : Bool
  to_the_end = eqb (start_at s token.len) (length s)

  tested : (to_the_end && is_duration token.kind ≡ true) × (Some token.nanos ≡ Some z)
  unfolding seen_by
  tested = pick_first (to_the_end && is_duration token.kind) other_duration (pick_first (starts_number (byte s 0)) other_duration e).1

  is_duration_lem : is_duration token.kind ≡ true
  is_duration_lem = and_right to_the_end (is_duration token.kind) tested.0

  scanned : Scanned s token
  scanned = (number_on_line s (swap (is_digit (byte s 0)) (eqb (byte s 0) 45) (eqb (byte s 0) 43) begun)).scanned

  run_of : DurationRun s token
  run_of = scanned.duration (number_kind_lem token.kind duration_number (eqb-true (kind_number token.kind) duration_number is_duration_lem))

  written : durations.Form (take token.len s) token.nanos
  written = durations.form (take token.len s) token.nanos run_of.value run_of.no_plus run_of.not_zero

  module _ (neg : Bool) (ps : List WrittenPart) (a : Accepted neg ps (take token.len s)) (m : neg ≡ eqb (byte (take token.len s) 0) 45) where
    abbrev blanks : List ℕ
    blanks = drop token.len s

    sign : neg ≡ eqb (byte s 0) 45
    sign = rw (get_or-take token.len s 0 0 scanned.within.some) at m

    text_is : s ≡ signed neg a.form.rest ++ blanks
    text_is = sym (take-append-drop token.len s) ∙ ap (λ (l : List ℕ). l ++ blanks) a.form.bytes

    size : token.len ≡ length (signed neg a.form.rest)
    size = sym (length-take-le token.len s scanned.within.ends) ∙ ap length a.form.bytes

    blank : each is_space blanks ≡ true
    unfolding start_at reach
    blank =
        let h = eqb-true (start_at s token.len) (length s) (and_left to_the_end (is_duration token.kind) tested.0) in
        blanks_run blanks (omega (arith, length-drop token.len s))

    begins : Begun s token
    begins =
        number_fits s begun
        (λ q. no_stamp a.form.parts a.form.some s blanks (subst (λ (g : Bool). s ≡ signed g a.form.rest ++ blanks) (sign ∙ q) text_is))
        is_duration_lem

    has_form : Form s neg ps
    has_form = form_of s neg blanks a.form.parts text_is blank (rw sign begins.digit) (rw (← size) begins.fits)

  pub seen_form : SeenAs s z
  seen_form =
      let w = written in
      let v = w.value in
      let y = tested.1 in
      record { neg = w.neg; parts = w.parts; form = has_form w.neg w.parts w.accepted w.sign; bound = w.accepted.bound; value = cc }
