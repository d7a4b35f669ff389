-- For `nanos` and Bounds: the first nine digits of a fraction, with zeros after fewer, write its nanoseconds. By the number of the first digits as a
-- quotient of the number of all, itself by induction on the digits. Assumes nothing.
use mathlib.Core.Path.{◌≡◌, refl}
use mathlib.Core.Bool.{true}
use mathlib.Core.List.{List, [], ◌∷◌}
use Prim.Native.Nat.{ℕ, zero, suc, ◌+◌, ◌-◌, ◌*◌, ◌/◌, ◌^◌, ◌≤◌, ◌<◌}
use native.Mathlib.Nat.{pow-suc, div-div-eq-div-mul, mul-div-mul_right, mul_assoc, pow-le-pow_right, lt_of_lt_of_le}
use native.Mathlib.Numerals.{add-one}
use native.Mathlib.Omega.{arith}
use lib.Dec.{ltb, lit<}
use lib.ListN.{length, length-drop, length-take, get_or-eq_default}
use lib.Seq.{get_or-take, get_or-drop}
use borrow.Author.Tests.{ltb-true, ltb-false}
use Rattle.base.specs.Bytes.{byte}
use Rattle.base.specs.Classes.{is_digit}
use Rattle.base.specs.Digits.{value_from}
use Rattle.base.proofs.Tests.{by_cases, digit_range}
use Rattle.base.specs.Digits.{in_digits}
use Rattle.base.proofs.Reaches.{reach_le, reach_all}
use Rattle.rfc3339.specs.Grammar.{secfrac_place, has_secfrac, secfrac_end}
use Rattle.rfc3339.specs.Instant.{secfrac_digits, secfrac_nanos}
use Rattle.rfc3339.proofs.Places.{digit_in}

-- ---- the number of the first k digits, with zeros after fewer: a byte past the end is 0, and counts as the digit 0
abbrev pub front : ℕ → List ℕ → ℕ
front zero l = 0
front (suc k) l = front k l * 10 + (byte l k - 48)

front_none : (k : ℕ) → front k [] ≡ 0
front_none zero = refl
front_none (suc k) = omega (arith, front_none k)

front_first : (k b : ℕ) (l : List ℕ) → front (suc k) (b ∷ l) ≡ (b - 48) * 10 ^ k + front k l
front_first zero b l = omega arith
front_first (suc k) b l = rw (pow-suc 10 k, ← mul_assoc (b - 48) (10 ^ k) 10) (omega (arith, front_first k b l))

abbrev Digits : List ℕ → Type 0
Digits l = (j : ℕ) → byte l j - 48 ≤ 9

front_lt : (k : ℕ) (l : List ℕ) → Digits l → front k l < 10 ^ k
front_lt zero l d = lit< tt
front_lt (suc k) l d = omega (arith, front_lt k l d, d k, pow-suc 10 k)

-- as a quotient, after digits of the number w
front_after : (w k : ℕ) (l : List ℕ) → Digits l → value_from w l * 10 ^ k / 10 ^ length l ≡ w * 10 ^ k + front k l
unfolding value_from
front_after w k [] d = omega (arith, front_none k)
front_after w zero (b ∷ l) d =
    let e = front_after (w * 10 + (b - 48)) 0 l (λ j. d (suc j)) in
    rw (pow-suc 10 (length l), ← div-div-eq-div-mul (value_from (w * 10 + (b - 48)) l * 10 ^ 0) (10 ^ length l) 10, e) (omega (arith, d 0))
front_after w (suc k) (b ∷ l) d =
    let e = front_after (w * 10 + (b - 48)) k l (λ j. d (suc j)) in
    let v = value_from (w * 10 + (b - 48)) l in
    rw (pow-suc 10 k, pow-suc 10 (length l), ← mul_assoc v (10 ^ k) 10, mul-div-mul_right (v * 10 ^ k) (10 ^ length l) (lit< tt), e)
    (omega (arith, front_first k b l))

-- ---- the digits of a run's fraction
module _ (s : List ℕ) where
  has_digits : secfrac_place s < secfrac_end s → has_secfrac s ≡ true
  unfolding secfrac_end
  has_digits h = by_cases (has_secfrac s) (λ e. e) (λ e. let f : secfrac_end s ≡ secfrac_place s = rw e in absurd (omega arith))

  pub fraction_in : secfrac_place s < secfrac_end s → secfrac_end s ≤ length s
  unfolding secfrac_end
  fraction_in h =
      let e = has_digits h in
      rw e (reach_le in_digits s (secfrac_place s + 1) (omega (arith, digit_in s e)))

  pub fraction_digit : (i : ℕ) → secfrac_place s < i → i < secfrac_end s → is_digit (byte s i) ≡ true
  unfolding secfrac_end
  fraction_digit i g h = reach_all in_digits s (secfrac_place s + 1) i (omega arith) (rw (has_digits (omega arith)) at h)

  fraction_length : length (secfrac_digits s) ≡ secfrac_end s - (secfrac_place s + 1)
  unfolding secfrac_digits
  fraction_length = simp (length-take, length-drop) (grind (arith, fraction_in))

  -- a byte of them, and 0 past the end
  fraction_byte : (j i : ℕ) → i ≡ secfrac_place s + 1 + j → i < secfrac_end s → byte (secfrac_digits s) j ≡ byte s i
  unfolding secfrac_digits
  fraction_byte j i e h = let l : j < secfrac_end s - (secfrac_place s + 1) = omega arith in rw (e, get_or-take, get_or-drop)

  fraction_past : (j : ℕ) → secfrac_end s ≤ secfrac_place s + 1 + j → byte (secfrac_digits s) j ≡ 0
  fraction_past j h = get_or-eq_default (secfrac_digits s) 0 (omega (arith, fraction_length))

  fraction_digits : Digits (secfrac_digits s)
  fraction_digits j =
      let i = secfrac_place s + 1 + j in
      by_cases (ltb i (secfrac_end s))
      (λ e. let h = ltb-true i _ e in rw (fraction_byte j i refl h) (omega (arith, digit_range (byte s i) (fraction_digit i (omega arith) h))))
      (λ e. rw (fraction_past j (ltb-false i _ e)) (omega arith))

  pub places_all : secfrac_nanos (secfrac_digits s) ≡ front 9 (secfrac_digits s)
  unfolding secfrac_nanos
  places_all = omega (arith, front_after 0 9 (secfrac_digits s) fraction_digits)

  pub nanos_lt : secfrac_nanos (secfrac_digits s) < 10 ^ 9
  nanos_lt = rw places_all (front_lt 9 (secfrac_digits s) fraction_digits)

  -- ---- a digit more, or a zero, for which there is room
  module _ (k : ℕ) where
    pub front_room : k < 9 → front k (secfrac_digits s) < 10 ^ 8
    front_room h = let l : k ≤ 8 = omega arith in lt_of_lt_of_le (front_lt k (secfrac_digits s) fraction_digits) (pow-le-pow_right (lit< tt) l)

    pub front_digit : (i : ℕ) → i ≡ secfrac_place s + 1 + k → i < secfrac_end s
        → front (k + 1) (secfrac_digits s) ≡ front k (secfrac_digits s) * 10 + (byte s i - 48)
    front_digit i e h = rw (add-one, fraction_byte k i e h)

    pub front_zero : secfrac_end s ≤ secfrac_place s + 1 + k → front (k + 1) (secfrac_digits s) ≡ front k (secfrac_digits s) * 10
    front_zero h = rw (add-one, fraction_past k h) (omega arith)

-- for the loop of `nanos`
pub ruleset nanos_laws = (fraction_digit, fraction_in, places_all, front_room, front_digit, front_zero)
