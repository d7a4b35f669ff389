-- For SeenRuns: what the lexer takes for a Duration begins with a digit, or with `-` and a digit, has a digit behind each point and no byte 0xCE. By the
-- steps of `lex_number`. Assumes nothing.
use mathlib.Core.Path.{◌≡◌, refl}
use mathlib.Core.Bool.{Bool, true, false, not, ◌&&◌, ◌||◌}
use mathlib.Core.List.{List, [], ◌∷◌}
use Prim.Native.Nat.{ℕ, ◌+◌, ◌≤◌, ◌<◌, zero-le, suc-le-suc}
use native.Mathlib.Omega.{arith}
use borrow.Author.Tests.{ltb-true, ltb-false, eqb-true, not-false, ne_eqb}
use lib.Dec.{ltb, eqb}
use lib.ListN.{take, drop}
use Rattle.std.proofs.Common.{Option, Some, None, ℤ}
use Rattle.base.specs.Choice.{pick}
use Rattle.base.specs.Bytes.{byte}
use Rattle.base.specs.Classes.{is_digit, is_lower_alpha}
use Rattle.base.specs.Digits.{in_digits}
use Rattle.base.specs.Runs.{run, reach, walk, past}
use Rattle.base.proofs.Tests.{and_left, and_right, or_case, by_cases, true_false, pick_case, digit_range, within_low, within_high, and-false}
use Rattle.base.proofs.Reaches.{reach_all}
use Rattle.token.specs.Kind.{kind_number}
use Rattle.token.specs.Helpers.{is_duration}
use Rattle.lexeme.specs.declared.Lexeme.{Lexeme}
use Rattle.go_duration.specs.Parse.{parse_of}
use Rattle.scan.specs.Run.{unit_piece}
use Rattle.scan.specs.Number.{lex_precision, past_fraction, at_duration_unit, duration_by, lex_duration, goes_on_float, number_kind, value_end}
use Rattle.scan.specs.Number.{lex_tail, lex_digits, at_inf, is_sign, lex_number}

-- a byte and the next that can stand in a Duration: no 0xCE, and a digit behind a point
abbrev pub fit : ℕ → ℕ → Bool
fit a b = not (eqb a 0xCE || (eqb a 46 && not (is_digit b)))

abbrev pub Fit : List ℕ → ℕ → ℕ → Type 0
Fit s i e = (k : ℕ) → i ≤ k → k < e → fit (byte s k) (byte s (k + 1)) ≡ true

digit_fit : (a b : ℕ) → is_digit a ≡ true → fit a b ≡ true
digit_fit a b d = let h = digit_range a d in rw (ne_eqb a 0xCE (omega arith), ne_eqb a 46 (omega arith))

-- a piece of one byte
abbrev one : ℕ → ℕ → Bool
one a b = (is_digit a || is_lower_alpha a) || (eqb a 46 && is_digit b)

one_fit : (a b : ℕ) → one a b ≡ true → fit a b ≡ true
unfolding is_lower_alpha
one_fit a b e =
    or_case (is_digit a || is_lower_alpha a) (eqb a 46 && is_digit b) e
    (λ q. or_case (is_digit a) (is_lower_alpha a) q (digit_fit a b) (λ l. low (within_low 97 122 a l) (within_high 97 122 a l)))
    (λ q. rw (eqb-true a 46 (and_left (eqb a 46) (is_digit b) q), and_right (eqb a 46) (is_digit b) q))
  where
    low : 97 ≤ a → a ≤ 122 → fit a b ≡ true
    low h l = rw (ne_eqb a 0xCE (omega arith), ne_eqb a 46 (omega arith))

-- ---- the pieces

-- the pieces are within the run of bytes that fit
walk_fit : (s : List ℕ) → walk unit_piece 0 s ≤ run fit s
unfolding walk run unit_piece
walk_fit [] = zero-le
walk_fit (a ∷ []) = go (one a 0) refl
  where
    go : (x : Bool) → one a 0 ≡ x → walk unit_piece 0 (a ∷ []) ≤ run fit (a ∷ [])
    go true p = rw (p, one_fit a 0 p) (suc-le-suc zero-le)
    go false p = rw (p, and-false (eqb a 0xC2)) zero-le
walk_fit (a ∷ b ∷ s) = go (one a b) (eqb a 0xC2 && eqb b 0xB5) refl refl (walk_fit (b ∷ s)) (walk_fit s)
  where
    go : (x y : Bool) → one a b ≡ x → eqb a 0xC2 && eqb b 0xB5 ≡ y → walk unit_piece 0 (b ∷ s) ≤ run fit (b ∷ s) → walk unit_piece 0 s ≤ run fit s
        → walk unit_piece 0 (a ∷ b ∷ s) ≤ run fit (a ∷ b ∷ s)
    go true y p q f g = rw (p, one_fit a b p) (suc-le-suc f)
    go false true p q f g =
        let c = eqb-true a 0xC2 (and_left (eqb a 0xC2) (eqb b 0xB5) q) in
        let d = eqb-true b 0xB5 (and_right (eqb a 0xC2) (eqb b 0xB5) q) in
        rw (p, q, c, d) (suc-le-suc (suc-le-suc g))
    go false false p q f g = rw (p, q) zero-le

past_fit : (s : List ℕ) (i : ℕ) → Fit s i (past unit_piece s i)
unfolding past reach
past_fit s i k h l = reach_all fit s i k h (omega (arith, walk_fit (drop i s)))

module _ (s : List ℕ) where
  fit_then : {i j e : ℕ} → Fit s i j → Fit s j e → Fit s i e
  fit_then {i} {j} {e} f g k h l = by_cases (ltb k j) (λ q. f k h (ltb-true k j q)) (λ q. g k (ltb-false k j q) l)

  digits_fit : (i : ℕ) → Fit s i (reach in_digits s i)
  digits_fit i k h l = digit_fit (byte s k) (byte s (k + 1)) (reach_all in_digits s i k h l)

  fraction_fit : (i : ℕ) → Fit s i (past_fraction s i)
  unfolding past_fraction
  fraction_fit i =
      let x = eqb (byte s i) 46 in
      let y = is_digit (byte s (i + 1)) in
      pick_case (Fit s i) (x && y)
      (λ e. fit_then (point e) (digits_fit (i + 1)))
      (λ e k h l. absurd (omega arith))
    where
      point : eqb (byte s i) 46 && is_digit (byte s (i + 1)) ≡ true → Fit s i (i + 1)
      point e k h l =
          let n : i ≡ k = omega arith in
          let d : is_digit (byte s (k + 1)) ≡ true = rw n at (and_right (eqb (byte s i) 46) (is_digit (byte s (i + 1))) e) in
          let z : byte s k ≡ 46 = rw n at (eqb-true (byte s i) 46 (and_left (eqb (byte s i) 46) (is_digit (byte s (i + 1))) e)) in
          rw (z, d)

  -- ---- the tokens

  -- a token is no Duration, or fits
  abbrev Fits : Lexeme → Type 0
  Fits r = is_duration r.kind ≡ true → Fit s 0 r.len

  duration_fits : (p : Option ℤ) (n : ℕ) → Fit s 0 n → Fits (duration_by p n)
  duration_fits (Some z) n f e = f
  duration_fits None n f e = f

  precision_fits : (x : Bool) (e : ℕ) → Fits (lex_precision (number_kind x) s e)
  unfolding lex_precision kind_number
  precision_fits x e =
      pick_case Fits (eqb (byte s e) 112 && is_digit (byte s (e + 1))) (λ q. none x) (λ q. none x)
    where
      none : {n : ℕ} (x : Bool) → is_duration (number_kind x) ≡ true → Fit s 0 n
      none true q = true_false false q refl
      none false q = true_false false q refl

  tail_fits : (n f : ℕ) → Fit s 0 f → Fits (lex_tail s n f)
  unfolding lex_tail lex_duration
  tail_fits n f g =
      pick_case Fits (at_duration_unit (byte s f) (byte s (f + 1)))
      (λ q. duration_fits (parse_of (take (past unit_piece s f) s)) (past unit_piece s f) (fit_then g (past_fit s f)))
      (λ q. precision_fits (ltb n f || goes_on_float (byte s f)) (value_end s f (ltb n f || goes_on_float (byte s f))))

  -- digits that no `-` follows
  lex_fits : (i : ℕ) → Fit s 0 i → (eqb i 0 && eqb (reach in_digits s i) 4) && eqb (byte s (reach in_digits s i)) 45 ≡ false
      → Fits (lex_digits s i)
  unfolding lex_digits
  lex_fits i g t =
      let n = reach in_digits s i in
      rw t (tail_fits n (past_fraction s n) (fit_then g (fit_then (digits_fit i) (fraction_fit n))))

  -- what a Duration is
  pub record Begun (r : Lexeme) : Type 0 where
    pub fits : Fit s 0 r.len
    pub digit : is_digit (byte s (pick (eqb (byte s 0) 45) 1 0)) ≡ true

  abbrev Thus : Lexeme → Type 0
  Thus r = is_duration r.kind ≡ true → Begun r

  pub number_fits : is_digit (byte s 0) || eqb (byte s 0) 45 ≡ true → (eqb (byte s 0) 45 ≡ false → eqb (byte s (reach in_digits s 0)) 45 ≡ false)
      → is_duration (lex_number s).kind ≡ true → Begun (lex_number s)
  unfolding lex_number kind_number
  number_fits h t =
      pick_case Thus (is_sign (byte s 0) && at_inf s) (λ q e. true_false false e refl)
      (λ _. pick_case Thus (eqb (byte s 0) 43) (λ q e. true_false false e refl)
      (λ _. pick_case Thus (eqb (byte s 0) 45 && not (is_digit (byte s 1))) (λ q e. true_false false e refl)
      (λ q. go (eqb (byte s 0) 45) refl q)))
    where
      go : (x : Bool) → eqb (byte s 0) 45 ≡ x → x && not (is_digit (byte s 1)) ≡ false → Thus (lex_digits s (pick x 1 0))
      go true m q e = record { fits = lex_fits 1 sign refl e; digit = rw m (not-false (is_digit (byte s 1)) q) }
        where
          sign : Fit s 0 1
          sign k h l = let z : k ≡ 0 = omega arith in rw (z, eqb-true (byte s 0) 45 m)
      go false m q e =
          record {
            fits = lex_fits 0 (λ k h l. absurd (omega arith)) (rw (t m) (and-false (eqb (reach in_digits s 0) 4))) e;
            digit = rw m (or_case (is_digit (byte s 0)) (eqb (byte s 0) 45) h (λ d. d) (λ d. true_false (eqb (byte s 0) 45) d m));
          }
