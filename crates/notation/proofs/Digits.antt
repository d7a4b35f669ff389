-- For the listing: how many bytes a number is written in, at most, by the library's bound, and for any number by induction on the digits.
use Rattle.std.proofs.Common.{ℕ, zero, suc, ◌^◌, ◌<◌, ◌≤◌, List, [], ◌∷◌, ◌++◌, Bool, true, false, length, ℤ, pos, negsuc, arith, length-append}
use Rattle.std.proofs.lemmas.Fmt.{length-decimal-le}
use Rattle.base.specs.Choice.{pick}
use Rattle.notation.specs.Decimal.{digits_of, number_text}
use Rattle.notation.proofs.Texts.{decimal_text}

-- a number below 10 ^ k has at most k digits
pub digits_few : (k n : ℕ) → 0 < k → n < 10 ^ k → n < 2 ^ 64 → length (number_text (pos n)) ≤ k
digits_few k n p h f = rw (← decimal_text n f) (length-decimal-le k n p h f)

one_more : (b : Bool) (l : List ℕ) (d k : ℕ) → length l ≤ k → length (pick b [] l ++ (d ∷ [])) ≤ suc k
one_more true l d k h = omega arith
one_more false l d k h = omega (arith, length-append l (d ∷ []))

digits_most : (k n : ℕ) → length (digits_of k n) ≤ k
unfolding digits_of
digits_most zero n = omega arith
digits_most (suc k) n = search (one_more, digits_most k)

-- a signed number has at most 21 bytes
pub number_most : (z : ℤ) → length (number_text z) ≤ 21
number_most (pos n) = omega (arith, digits_most 20 n)
number_most (negsuc n) = omega (arith, digits_most 20 (suc n))
