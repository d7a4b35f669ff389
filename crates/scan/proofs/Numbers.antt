-- For the crate above, `lexer`: numbers, timestamps and durations are within the text, end between characters and stay on their line; a
-- Duration's run is one that `parse` accepts, a timestamp's is judged by `date_of`. By the steps of Goes.antt and cases on the tests. Assumes nothing.
use mathlib.Core.Path.{◌≡◌, refl, ap, ◌∙◌}
use mathlib.Core.Bool.{Bool, true, false, not, ◌&&◌, ◌||◌}
use mathlib.Core.List.{List, [], ◌∷◌}
use Prim.Native.Nat.{ℕ, ◌+◌, ◌≤◌, ◌<◌, zero-le}
use native.Mathlib.Omega.{arith}
use borrow.Author.Tests.{eqb-true, not-false}
use lib.Dec.{ltb, eqb}
use lib.ListN.{length, take}
use lib.Seq.{get_or-take, length-take-le}
use Rattle.std.proofs.Common.{Option, Some, None, ℤ}
use Rattle.std.proofs.lemmas.Bool.Decides.{nat_tests}
use Rattle.base.specs.Choice.{pick}
use Rattle.base.specs.Bytes.{byte, same_bytes}
use Rattle.base.specs.Classes.{is_digit, is_lower_alpha, is_ident_part, is_duration_unit}
use Rattle.base.specs.Digits.{in_digits}
use Rattle.base.specs.Kinds.{begins_unit}
use Rattle.base.specs.Runs.{reach, past}
use Rattle.base.proofs.Reaches.{reach_ge, reach_one}
use Rattle.base.proofs.Walks.{past_ge}
use Rattle.base.proofs.Tests.{by_cases, and_left, and_right, pick_case, in_text, no_digit}
use Rattle.token.specs.Kind.{kind_number}
use Rattle.token.specs.declared.kind.TokenKind.TheVariants as K
use Rattle.token.specs.declared.kind.TokenKind.{TokenKind}
use Rattle.token.specs.declared.reason.Reason.{Reason}
use Rattle.token.specs.declared.reason.Reason.TheVariants as R
use Rattle.lexeme.specs.Lexeme.{whole, illegal, precise}
use Rattle.lexeme.proofs.Within.{extent_within, illegal_within, precise_within, duration_within}
use Rattle.go_duration.specs.Parse.{unsigned, parse_of}
use Rattle.go_duration.proofs.Durations.{sent_digit, sent_minus}
use Rattle.rfc3339.specs.Instant.{date_of, is_date}
use Rattle.rfc3339.specs.declared.parse.Instant.{Instant}
use Rattle.scan.specs.Run.{in_stamp, unit_piece}
use Rattle.scan.specs.Number.{lex_precision, past_fraction, at_duration_unit, duration_by, lex_duration, goes_on_float, number_kind, value_end}
use Rattle.scan.specs.Number.{lex_tail, timestamp_by, lex_timestamp, lex_digits, at_inf, is_sign, lex_number}
use Rattle.scan.proofs.Parts.{by_first, unit_in}
use Rattle.scan.proofs.Flats.{flat_none}
use Rattle.scan.proofs.Runs.{one_byte, micro, one_turn, micro_turn}
use Rattle.scan.proofs.Goes.{Goes, goes_none, goes_then, goes_digits, goes_stamp, goes_units, goes_byte, goes_over, either_high}
use Rattle.scan.proofs.Goes.{goes_fraction, goes_value}
use Rattle.scan.proofs.Scanned.{Plain, plain, no_stamp, OnLine, Ends, plain_scanned, whole_scanned, illegal_scanned}

float : Plain K.Float
unfolding kind_number
float = plain K.Float refl

number_plain : (x : Bool) → Plain (number_kind x)
unfolding kind_number
number_plain true = float
number_plain false = plain K.Int refl

-- a unit's first byte belongs to the run of the units
unit_lower : (a : ℕ) → is_duration_unit a ≡ true → is_lower_alpha a ≡ true
unfolding is_duration_unit is_lower_alpha
unit_lower a e = grind (arith, nat_tests)

micro_there : (s : List ℕ) (f : ℕ) → at_duration_unit (byte s f) (byte s (f + 1)) ≡ true → one_byte s f ≡ false → micro s f ≡ true
unfolding at_duration_unit
micro_there s f e q = grind (arith, nat_tests, unit_lower)

-- and so the run goes on over it
unit_more : (s : List ℕ) (f : ℕ) → at_duration_unit (byte s f) (byte s (f + 1)) ≡ true → f < past unit_piece s f
unit_more s f e =
    let h = unit_in s f (and_left (begins_unit (byte s f)) _ (rw by_first at e)) in
    by_cases (one_byte s f) (λ q. omega (arith, one_turn s f h q, past_ge unit_piece s (f + 1)))
    (λ q. omega (arith, micro_turn s f h q (micro_there s f e q), past_ge unit_piece s (f + 2)))

-- how a number begins whose digits and fraction end at f
pub data Begins (s : List ℕ) (f : ℕ) : Type 0 where
  digit : is_digit (byte s 0) ≡ true → 0 < f → Begins s f
  minus : byte s 0 ≡ 45 → 1 < f → Begins s f

module _ (s : List ℕ) where
  begins_some : {f : ℕ} → Begins s f → 0 < f
  begins_some (digit e h) = h
  begins_some (minus e h) = omega arith

  ends_at : (e : ℕ) → 0 < e → Goes s 0 e → Ends s e
  ends_at e h g = record { some = h; inside = g.le zero-le; between = g.between }

  whole_on_line : (k : TokenKind) (e : ℕ) → Plain k → 0 < e → Goes s 0 e → OnLine s (whole k e)
  whole_on_line k e p h g = record { scanned = whole_scanned s e (ends_at e h g) k p; flat = g.flat (flat_none s) }

  precise_on_line : (k : TokenKind) (e n : ℕ) → Plain k → e < n → Goes s 0 n → OnLine s (precise k e n)
  precise_on_line k e n p h g =
      record {
        scanned = plain_scanned p (precise_within s k e n h (g.le zero-le)) g.between (no_stamp p.not_timestamp (λ q. cc));
        flat = g.flat (flat_none s);
      }

  -- a number that ends at e, before its precision
  precision_on_line : (k : TokenKind) (e : ℕ) → Plain k → 0 < e → Goes s 0 e → OnLine s (lex_precision k s e)
  unfolding lex_precision
  precision_on_line k e p h g =
      pick_case (OnLine s) (eqb (byte s e) 112 && is_digit (byte s (e + 1)))
      (λ q. let l = reach_ge in_digits s (e + 1) in
      let t = goes_over s 112 (omega arith) (omega arith) e (and_left (eqb (byte s e) 112) (is_digit (byte s (e + 1))) q) in
      precise_on_line k e (reach in_digits s (e + 1)) p (omega arith) (goes_then s g (goes_then s t (goes_digits s (e + 1)))))
      (λ q. whole_on_line k e p h g)

  -- the run of a duration, n bytes with a unit after the digits
  module _ (f n : ℕ) (b : Begins s f) (l : f < n) (h : n ≤ length s) where
    first_byte_lem : byte (take n s) 0 ≡ byte s 0
    first_byte_lem = get_or-take n s 0 0 (omega arith)

    sent : (byte (take n s) 0 ≡ 43 → ⊥) × (same_bytes (unsigned (take n s)) (48 ∷ []) ≡ false)
    sent = go b
      where
        go : Begins s f → (byte (take n s) 0 ≡ 43 → ⊥) × (same_bytes (unsigned (take n s)) (48 ∷ []) ≡ false)
        go (digit e q) = sent_digit (take n s) (ap is_digit first_byte_lem ∙ e) (omega (arith, length-take-le n s h))
        go (minus e q) = sent_minus (take n s) (first_byte_lem ∙ e) (omega (arith, length-take-le n s h))

    begun : is_digit (byte s 0) || eqb (byte s 0) 45 ≡ true
    unfolding is_digit
    begun = go b
      where
        go : Begins s f → is_digit (byte s 0) || eqb (byte s 0) 45 ≡ true
        go (digit e q) = rw e
        go (minus e q) = rw e

    duration_on_line : (p : Option ℤ) → parse_of (take n s) ≡ p → Goes s 0 n → OnLine s (duration_by p n)
    unfolding kind_number
    duration_on_line (Some z) e g =
        record {
          scanned = record {
            within = duration_within s n z (omega arith) h;
            not_eof = λ q. absurd (omega (arith, ap kind_number q));
            not_string = λ q. absurd (omega (arith, ap kind_number q));
            boundary = g.between;
            duration = λ q. record { value = e; first = begun; no_plus = sent.0; not_zero = sent.1 };
            timestamp = no_stamp (λ q. absurd (omega (arith, ap kind_number q))) (λ q. cc);
          };
          flat = g.flat (flat_none s);
        }
    duration_on_line None e g =
        record { scanned = illegal_scanned s n (ends_at n (omega arith) g) R.BadDuration 0 (λ q. cc) (omega arith); flat = g.flat (flat_none s) }

  -- a number whose digits end at n and whose fraction ends at f
  tail_on_line : (n f : ℕ) → Begins s f → Goes s 0 f → OnLine s (lex_tail s n f)
  unfolding lex_tail lex_duration
  tail_on_line n f b g =
      let u = goes_then s g (goes_units s f) in
      let x = ltb n f || goes_on_float (byte s f) in
      let v = goes_value s f x in
      pick_case (OnLine s) (at_duration_unit (byte s f) (byte s (f + 1)))
      (λ e. duration_on_line f (past unit_piece s f) b (unit_more s f e) (u.le zero-le) _ refl u)
      (λ e. precision_on_line (number_kind x) (value_end s f x) (number_plain x) (omega (arith, begins_some b, v.ge)) (goes_then s g v))

  -- a timestamp's run, n bytes, be it a date or none
  date_on_line : (r : Option Instant) (n : ℕ) → date_of (take n s) ≡ r → 0 < n → Goes s 0 n → OnLine s (timestamp_by r n)
  unfolding kind_number
  date_on_line (Some i) n d h g =
      record {
        scanned = record {
          within = extent_within s K.Timestamp n h (g.le zero-le) 0 n 0 (omega arith) (omega arith);
          not_eof = λ q. absurd (omega (arith, ap kind_number q));
          not_string = λ q. absurd (omega (arith, ap kind_number q));
          boundary = g.between;
          duration = λ q. absurd (omega (arith, ap kind_number q));
          timestamp = record { date = λ _. ap is_date d; none = λ q. cc };
        };
        flat = g.flat (flat_none s);
      }
  date_on_line None n d h g =
      record {
        scanned =
            plain_scanned (plain K.Illegal refl)
            (illegal_within s R.BadTimestamp 0 n 0 h (g.le zero-le) (omega arith) (λ _. omega arith)) g.between
            (record { date = λ q. absurd (omega arith); none = λ _. ap is_date d });
        flat = g.flat (flat_none s);
      }

  -- a timestamp whose first digits end at n
  timestamp_on_line : (n : ℕ) → 0 < n → Goes s 0 n → OnLine s (lex_timestamp s n)
  unfolding lex_timestamp
  timestamp_on_line n h g =
      date_on_line _ (reach in_stamp s n) refl (omega (arith, reach_ge in_stamp s n)) (goes_then s g (goes_stamp s n))

  -- the digits from i on, where there is one
  digits_on_line : (i : ℕ) → Goes s 0 i → is_digit (byte s i) ≡ true → ((f : ℕ) → i < f → Begins s f) → OnLine s (lex_digits s i)
  unfolding lex_digits
  digits_on_line i h e b =
      let n = reach in_digits s i in
      let l = reach_one in_digits s i (in_text is_digit s i no_digit e) e in
      let g = goes_then s h (goes_digits s i) in
      let f = goes_fraction s n in
      pick_case (OnLine s) ((eqb i 0 && eqb n 4) && eqb (byte s n) 45)
      (λ q. timestamp_on_line n (omega arith) g)
      (λ q. tail_on_line n (past_fraction s n) (b (past_fraction s n) (omega (arith, f.ge))) (goes_then s g f))

  -- the byte at the front is a sign
  module _ (e : is_sign (byte s 0) ≡ true) where
    sign : Goes s 0 1
    sign = goes_byte s is_sign refl refl (either_high 43 45 (omega arith) (omega arith)) 0 e

    inf_goes : at_inf s ≡ true → Goes s 0 4
    unfolding at_inf
    inf_goes q =
        let x : Bool = eqb (byte s 1) 105 in
        let y : Bool = eqb (byte s 2) 110 in
        let z : Bool = eqb (byte s 3) 102 in
        let word = and_left ((x && y) && z) (not (is_ident_part (byte s 4))) q in
        let two = and_left (x && y) z word in
        goes_then s sign
        (goes_then s (goes_over s 105 (omega arith) (omega arith) 1 (and_left x y two))
        (goes_then s (goes_over s 110 (omega arith) (omega arith) 2 (and_right x y two))
        (goes_over s 102 (omega arith) (omega arith) 3 (and_right (x && y) z word))))

    sign_on_line : (reason : Reason) → (reason ≡ R.BadTimestamp → ⊥) → OnLine s (illegal reason 0 1)
    sign_on_line reason h = record { scanned = illegal_scanned s 1 (ends_at 1 (omega arith) sign) reason 0 h (omega arith); flat = sign.flat (flat_none s) }

  -- the byte at the front is a sign or a digit
  pub number_on_line : is_sign (byte s 0) || is_digit (byte s 0) ≡ true → OnLine s (lex_number s)
  unfolding lex_number is_digit
  number_on_line e =
      let p : Bool = eqb (byte s 0) 43 in
      let m : Bool = eqb (byte s 0) 45 in
      let d : Bool = is_digit (byte s 1) in
      pick_case (OnLine s) (is_sign (byte s 0) && at_inf s)
      (λ q. let g = inf_goes (and_left (is_sign (byte s 0)) (at_inf s) q) (and_right (is_sign (byte s 0)) (at_inf s) q) in
      whole_on_line K.Float 4 float (omega arith) g)
      (λ _. pick_case (OnLine s) p (λ q. sign_on_line (rw q) R.PlusWithoutInf (λ t. cc))
      (λ q. pick_case (OnLine s) (m && not d) (λ r. sign_on_line (rw (q, and_left m (not d) r)) R.MinusWithoutDigit (λ t. cc))
      (λ r. go m refl q r)))
    where
      go : (x : Bool) → eqb (byte s 0) 45 ≡ x → eqb (byte s 0) 43 ≡ false → x && not (is_digit (byte s 1)) ≡ false → OnLine s (lex_digits s (pick x 1 0))
      go true t q r = digits_on_line 1 (sign (rw (q, t))) (not-false (is_digit (byte s 1)) r) (λ f h. minus (eqb-true (byte s 0) 45 t) h)
      go false t q r =
          let u : is_digit (byte s 0) ≡ true = rw (q, t) at e in
          digits_on_line 0 (goes_none s 0) u (λ f h. digit u h)
