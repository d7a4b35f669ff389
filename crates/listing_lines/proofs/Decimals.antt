-- `decimal_value`, a result of its own: the digits of a number, read as document 01 reads a number, give it back. By induction on the digits. Assumes
-- nothing.
use mathlib.Core.Path.{◌≡◌, refl, ◌∙◌}
use mathlib.Core.List.{List, [], ◌∷◌, ◌++◌}
use Prim.Native.Nat.{ℕ, zero, suc, ◌+◌, ◌-◌, ◌*◌, ◌/◌, ◌%◌, ◌^◌, ◌<◌}
use native.Mathlib.Nat.{div-lt_iff_lt-mul, pow-suc}
use native.Mathlib.Omega.{arith}
use lib.Dec.{eqb}
use borrow.Author.Tests.{eqb-true}
use Rattle.base.specs.Choice.{pick}
use Rattle.base.proofs.Tests.{pick_case}
use Rattle.base.specs.Digits.{value_from, value_of}
use Rattle.notation.specs.Decimal.{digits_of, decimal}

value_append : (w : ℕ) (xs ys : List ℕ) → value_from w (xs ++ ys) ≡ value_from (value_from w xs) ys
unfolding value_from
value_append w [] ys = refl
value_append w (x ∷ xs) ys = value_append (w * 10 + (x - 48)) xs ys

digits_value : (k n : ℕ) → n < 10 ^ k → value_of (digits_of k n) ≡ n
unfolding digits_of value_from
digits_value zero n h = omega arith
digits_value (suc k) n h =
    let f : n < 10 ^ k * 10 = rw (pow-suc 10 k) at h in
    let w = digits_value k (n / 10) ((div-lt_iff_lt-mul {k = 10} {x = n} {y = 10 ^ k} (omega arith)).1 f) in
    let front : value_from 0 (pick (eqb (n / 10) 0) [] (digits_of k (n / 10))) ≡ n / 10 =
    pick_case (λ (l : List ℕ). value_from 0 l ≡ n / 10) (eqb (n / 10) 0) (λ b. omega (arith, eqb-true (n / 10) 0 b)) (λ b. w) in
    value_append 0 (pick (eqb (n / 10) 0) [] (digits_of k (n / 10))) ((48 + n % 10) ∷ []) ∙ rw front (omega arith)

-- every number of 64 bits
pub decimal_value : (n : ℕ) → n < 2 ^ 64 → value_of (decimal n) ≡ n
decimal_value n h = digits_value 20 n (omega arith)
