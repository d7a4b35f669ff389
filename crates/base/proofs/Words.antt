-- For go_duration, scan and token_file: the test whether two lists of bytes are equal, against their equality. By induction on the lists. Assumes nothing.
use mathlib.Core.Path.{◌≡◌, refl, ap}
use mathlib.Core.Bool.{true, ◌&&◌}
use mathlib.Core.List.{List, [], ◌∷◌}
use Prim.Native.Nat.{ℕ}
use native.Mathlib.Omega.{arith}
use lib.Dec.{eqb}
use lib.ListN.{length}
use lib.Pointwise.{pointwise}
use borrow.Author.Tests.{eqb-true, eq-eqb}
use Rattle.base.specs.Bytes.{byte, same_bytes}
use Rattle.base.proofs.Tests.{and_left, and_right}

pub same_eq : (s t : List ℕ) → same_bytes s t ≡ true → s ≡ t
unfolding same_bytes
same_eq [] [] e = refl
same_eq [] (b ∷ t) e = cc
same_eq (a ∷ s) [] e = cc
same_eq (a ∷ s) (b ∷ t) e =
    let h = eqb-true a b (and_left (eqb a b) (same_bytes s t) e) in
    let q = same_eq s t (and_right (eqb a b) (same_bytes s t) e) in
    cc

pub same_refl : (s : List ℕ) → same_bytes s s ≡ true
unfolding same_bytes
same_refl [] = refl
same_refl (a ∷ s) = rw (eq-eqb a a refl, same_refl s)

-- the library's equality of two slices
pub equal_same : (s t : List ℕ) → pointwise eqb s t ≡ same_bytes s t
unfolding same_bytes
equal_same [] [] = refl
equal_same [] (b ∷ t) = refl
equal_same (a ∷ s) [] = refl
equal_same (a ∷ s) (b ∷ t) = ap (eqb a b &&◌) (equal_same s t)

-- a list of one, two or three bytes
pub one_byte_lem : (u : List ℕ) → length u ≡ 1 → byte u 0 ∷ [] ≡ u
one_byte_lem [] e = absurd (omega arith)
one_byte_lem (a ∷ []) e = refl
one_byte_lem (a ∷ b ∷ u) e = absurd (omega arith)

pub two_bytes : (u : List ℕ) → length u ≡ 2 → byte u 0 ∷ byte u 1 ∷ [] ≡ u
two_bytes [] e = absurd (omega arith)
two_bytes (a ∷ []) e = absurd (omega arith)
two_bytes (a ∷ b ∷ []) e = refl
two_bytes (a ∷ b ∷ c ∷ u) e = absurd (omega arith)

pub three_bytes : (u : List ℕ) → length u ≡ 3 → byte u 0 ∷ byte u 1 ∷ byte u 2 ∷ [] ≡ u
three_bytes [] e = absurd (omega arith)
three_bytes (a ∷ []) e = absurd (omega arith)
three_bytes (a ∷ b ∷ []) e = absurd (omega arith)
three_bytes (a ∷ b ∷ c ∷ []) e = refl
three_bytes (a ∷ b ∷ c ∷ d ∷ u) e = absurd (omega arith)
