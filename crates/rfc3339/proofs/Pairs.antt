-- For Steps and Fields: where the number of two digits lies. By cases on the digits. Assumes nothing.
use mathlib.Core.Path.{◌≡◌}
use mathlib.Core.Bool.{true, ◌&&◌, ◌||◌, or-false}
use mathlib.Core.List.{List}
use Prim.Native.Nat.{ℕ, suc, ◌+◌, ◌≤◌}
use native.Mathlib.Omega.{arith}
use borrow.Author.Tests.{le-leb, leb-true, leb-false}
use lib.Dec.{leb, leb-zero}
use Rattle.base.specs.Bytes.{byte, within}
use Rattle.base.specs.Classes.{is_digit}
use Rattle.base.proofs.Tests.{and_right, and-true, and-false, by_cases, within_low, within_high}
use Rattle.rfc3339.specs.Grammar.{parse_grammar, pair_of, is_pair, hour_end, is_second}

pub pair_low : (lo hi : ℕ) (s : List ℕ) (i : ℕ) → is_pair lo hi s i ≡ true → lo ≤ pair_of s i
unfolding is_pair
pair_low lo hi s i e = within_low lo hi (pair_of s i) (and_right (is_digit (byte s i) && is_digit (byte s (i + 1))) _ e)

pub pair_high : (lo hi : ℕ) (s : List ℕ) (i : ℕ) → is_pair lo hi s i ≡ true → pair_of s i ≤ hi
unfolding is_pair
pair_high lo hi s i e = within_high lo hi (pair_of s i) (and_right (is_digit (byte s i) && is_digit (byte s (i + 1))) _ e)

-- a range, and the next number too: what a switch of the grammar adds
pub pair_or_next : (hi : ℕ) (s : List ℕ) (i : ℕ) → is_pair 0 hi s i || (is_pair (suc hi) (suc hi) s i && true) ≡ is_pair 0 (suc hi) s i
unfolding is_pair
pair_or_next hi s i =
    by_cases (is_digit (byte s i) && is_digit (byte s (i + 1))) (λ d. rw d (next (pair_of s i))) (λ d. rw d)
  where
    next : (x : ℕ) → within 0 hi x || (within (suc hi) (suc hi) x && true) ≡ within 0 (suc hi) x
    next x =
        by_cases (leb x hi) (λ e. rw (leb-zero x, e, le-leb x (suc hi) (omega (arith, leb-true x hi e))))
        (λ e. rw (leb-zero x, e, le-leb (suc hi) x (leb-false x hi e)) (and-true (leb x (suc hi))))

-- time-second by the switches of `parse`
pub second_is : (s : List ℕ) → is_second parse_grammar s ≡ is_pair 0 59 s (hour_end s + 4)
unfolding is_second
second_is s = rw (and-false (is_pair 60 60 s (hour_end s + 4))) (or-false (is_pair 0 59 s (hour_end s + 4)))
