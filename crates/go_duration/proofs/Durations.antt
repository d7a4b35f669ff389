-- For WrittenSums and the lexer: `parse_of` against the form of durations. It accepts a written duration exactly where its total fits under its sign, and
-- what it accepts is a written duration. By the sign, and the sums of WrittenRuns. Assumes nothing.
use Rattle.std.proofs.Common.{◌≡◌, ℕ, ◌+◌, ◌<◌, ◌≤◌, Bool, true, false, Option, Some, None, eqb, ltb, leb, List, [], ◌∷◌, length, drop, ℤ, sym, refl, ap, ◌∙◌, zero-le, not-suc-le-zero, zero-add, add-one, arith, length-append, length-drop, ltb-false, ltb-true, ne_eqb, eqb-true, le-leb, leb-true}
use Rattle.std.proofs.lemmas.Option.{none-some}
use borrow.Author.Tests.{eqb-false, lt-leb}
use Rattle.base.specs.Choice.{pick}
use Rattle.base.specs.Bytes.{byte, same_bytes}
use Rattle.base.specs.Classes.{is_digit}
use Rattle.base.proofs.Tests.{by_cases, true_false, pick_first, pick_second}
use Rattle.base.proofs.Words.{same_eq}
use Rattle.go_duration.specs.Fraction.{most}
use Rattle.go_duration.specs.Parse.{sum_from, sign_of, with_sign, unsigned, parse_of}
use Rattle.go_duration.specs.Written.{WrittenPart, part_bytes, Parts, none, more, Duration, total_of, Accepted}
use Rattle.base.proofs.Fronts.{begins}
use Rattle.go_duration.proofs.WrittenParts.{unit_byte}
use Rattle.go_duration.proofs.WrittenCuts.{part_size}
use Rattle.go_duration.proofs.WrittenRuns.{bounded, parts_begin, sum_is, sum_parts, same_parts}

-- ---- the sign, and the run after it
-- parts begin with no sign
no_sign : (x : ℕ) (l : List ℕ) → eqb 0 x ≡ false → unit_byte x ≡ true → begins unit_byte l ≡ false → eqb (byte l 0) x ≡ false
no_sign x [] z u e = z
no_sign x (b ∷ l) z u e = by_cases (eqb b x) (λ q. true_false (unit_byte x) u (rw (eqb-true b x q) at e)) (λ q. q)

minus : is_digit 45 ≡ false
unfolding is_digit
minus = refl

plus : is_digit 43 ≡ false
unfolding is_digit
plus = refl

module _ (neg : Bool) (ps : List WrittenPart) (run : List ℕ) (w : Duration neg ps run) where
  sign_is : eqb (byte run 0) 45 ≡ neg
  sign_is = rw w.bytes (go neg)
    where
      go : (b : Bool) → eqb (byte (pick b (45 ∷ w.rest) w.rest) 0) 45 ≡ b
      go true = refl
      go false = no_sign 45 w.rest refl (rw minus) (parts_begin w.parts)

  rest_is : unsigned run ≡ w.rest
  unfolding unsigned
  rest_is = rw w.bytes (go neg)
    where
      go : (b : Bool) → unsigned (pick b (45 ∷ w.rest) w.rest) ≡ w.rest
      go true = refl
      go false = rw (no_sign 45 w.rest refl (rw minus) (parts_begin w.parts), no_sign 43 w.rest refl (rw plus) (parts_begin w.parts))

-- ---- a written duration is accepted where its total fits
-- at least a digit and a unit
parts_size : {ps : List WrittenPart} {s : List ℕ} → Parts ps s → 0 < length ps → 1 < length s
parts_size none h = absurd (not-suc-le-zero h)
parts_size (more {p = p} {s = s} i q) h = omega (arith, part_size p i, length-append (part_bytes p) s)

-- which `0` alone has not
not_zero : (l : List ℕ) → 1 < length l → same_bytes l (48 ∷ []) ≡ false
not_zero l h = by_cases (same_bytes l (48 ∷ [])) (λ q. absurd (omega (arith, ap length (same_eq l (48 ∷ []) q)))) (λ q. q)

finish_is : (neg : Bool) (n : ℕ) → with_sign neg (bounded n) ≡ pick (leb (pick neg n (n + 1)) most) (Some (sign_of neg n)) None
unfolding with_sign
finish_is neg n = go neg (ltb most n) refl
  where
    go : (b r : Bool) → ltb most n ≡ r
        → with_sign b (pick r None (Some n)) ≡ pick (leb (pick b n (n + 1)) most) (Some (sign_of b n)) None
    go true true q = rw (lt-leb n most (ltb-true most n q))
    go true false q = rw (le-leb n most (ltb-false most n q))
    go false true q = rw (lt-leb (n + 1) most (let h = ltb-true most n q in omega arith))
    go false false q = rw add-one

module _ (neg : Bool) (ps : List WrittenPart) (run : List ℕ) where
  -- what has to be at most 2^63
  abbrev top : ℕ
  top = pick neg (total_of ps) (total_of ps + 1)

  -- what `parse_of` makes of a written duration
  parse_is : Duration neg ps run → parse_of run ≡ pick (leb top most) (Some (sign_of neg (total_of ps))) None
  unfolding parse_of
  parse_is w =
      let h = parts_size w.parts w.some in
      rw (rest_is neg ps run w, not_zero w.rest h, ne_eqb (length w.rest) 0 (omega arith), sign_is neg ps run w, sum_is w.parts 0 zero-le, zero-add)
      (finish_is neg (total_of ps))

  -- completeness: what is written and fits is accepted, with its total under its sign
  pub complete : Accepted neg ps run → parse_of run ≡ Some (sign_of neg (total_of ps))
  complete a = rw (parse_is a.form, le-leb top most a.bound)

  -- and what does not fit is refused
  pub refused : Duration neg ps run → (top ≤ most → ⊥) → parse_of run ≡ None
  refused w h = rw (parse_is w, lt-leb top most (omega arith))

  -- the value of an accepted duration
  pub value_is : (z : ℤ) → Duration neg ps run → parse_of run ≡ Some z → Accepted neg ps run × (z ≡ sign_of neg (total_of ps))
  value_is z w e =
      let h = pick_first (leb top most) (none-some z) (sym (parse_is w) ∙ e) in
      let v = h.1 in
      (record { form = w; bound = leb-true top most h.0 }, cc)

-- ---- what is accepted is a written duration

-- a sum, where the run after the sign is no `0` alone
module _ (run : List ℕ) (z : ℤ) (e : parse_of run ≡ Some z) (n : same_bytes (unsigned run) (48 ∷ []) ≡ false) where
  finished : (0 < length (unsigned run)) × (with_sign (eqb (byte run 0) 45) (sum_from 0 0 (unsigned run)) ≡ Some z)
  unfolding parse_of
  finished =
      let f = pick_second (eqb (length (unsigned run)) 0) (none-some z) (rw n at e) in
      let h = eqb-false (length (unsigned run)) 0 f.0 in
      (omega arith, f.1)

  summed : (d : ℕ) × (sum_from 0 0 (unsigned run) ≡ Some d)
  unfolding with_sign
  summed = go (sum_from 0 0 (unsigned run)) refl
    where
      go : (t : Option ℕ) → sum_from 0 0 (unsigned run) ≡ t → (d : ℕ) × (sum_from 0 0 (unsigned run) ≡ Some d)
      go None q = absurd (none-some z (rw q at finished.1))
      go (Some d) q = (d, q)

-- the run is its sign and what follows, if it is no `+`
signed : (run : List ℕ) → (byte run 0 ≡ 43 → ⊥) → run ≡ pick (eqb (byte run 0) 45) (45 ∷ unsigned run) (unsigned run)
unfolding unsigned
signed [] h = refl
signed (b ∷ s) h = by_cases (eqb b 45) (λ q. rw (eqb-true b 45 q)) (λ q. rw (q, ne_eqb b 43 h))

-- what an accepted run is
pub record Form (run : List ℕ) (z : ℤ) : Type 0 where
  pub neg : Bool
  pub parts : List WrittenPart
  pub sign : neg ≡ eqb (byte run 0) 45
  pub accepted : Accepted neg parts run
  pub value : z ≡ sign_of neg (total_of parts)

-- A `+` and `0` alone are outside: the form has neither, and the lexer sends neither (`sent_digit`, `sent_minus`), since a duration's run starts
-- with a digit, or with `-` and a digit, and a unit follows the digits.
pub form : (run : List ℕ) (z : ℤ) → parse_of run ≡ Some z → (byte run 0 ≡ 43 → ⊥) → same_bytes (unsigned run) (48 ∷ []) ≡ false → Form run z
form run z e h n =
    let s = summed run z e n in
    let r = sum_parts (unsigned run) 0 s.0 s.1 in
    let w : Duration (eqb (byte run 0) 45) r.written run = record {
      rest = unsigned run;
      parts = r.parts;
      some = some_parts r.parts (finished run z e n).0;
      bytes = signed run h;
    } in
    let v = value_is (eqb (byte run 0) 45) r.written run z w e in
    record { neg = eqb (byte run 0) 45; parts = r.written; sign = refl; accepted = v.0; value = v.1 }
  where
    some_parts : {ps : List WrittenPart} {s : List ℕ} → Parts ps s → 0 < length s → 0 < length ps
    some_parts none h = h
    some_parts (more i q) h = omega arith

-- what the lexer sends: a digit and more
pub sent_digit : (run : List ℕ) → is_digit (byte run 0) ≡ true → 1 < length run → (byte run 0 ≡ 43 → ⊥) × (same_bytes (unsigned run) (48 ∷ []) ≡ false)
unfolding unsigned
sent_digit run d h = (
  λ e. true_false (is_digit (byte run 0)) d (rw e plus),
  rw (digit_no_sign 45 minus, digit_no_sign 43 plus) (not_zero run h),
)
  where
    digit_no_sign : (x : ℕ) → is_digit x ≡ false → eqb (byte run 0) x ≡ false
    digit_no_sign x n = ne_eqb (byte run 0) x (λ e. true_false (is_digit (byte run 0)) d (rw e n))

-- or a minus, and two bytes at least
pub sent_minus : (run : List ℕ) → byte run 0 ≡ 45 → 2 < length run → (byte run 0 ≡ 43 → ⊥) × (same_bytes (unsigned run) (48 ∷ []) ≡ false)
unfolding unsigned
sent_minus run e h = (omega arith, rw e (not_zero (drop 1 run) (omega (arith, length-drop 1 run))))

-- ---- a run is a written duration in one way only
pub same_sign : (neg neg' : Bool) (ps qs : List WrittenPart) (run : List ℕ) → Duration neg ps run → Duration neg' qs run → neg ≡ neg'
same_sign neg neg' ps qs run w v = sym (sign_is neg ps run w) ∙ sign_is neg' qs run v

pub same_written : (neg neg' : Bool) (ps qs : List WrittenPart) (run : List ℕ) → Duration neg ps run → Duration neg' qs run → ps ≡ qs
same_written neg neg' ps qs run w v = same_parts w.parts (rw (sym (rest_is neg ps run w) ∙ rest_is neg' qs run v) v.parts)
