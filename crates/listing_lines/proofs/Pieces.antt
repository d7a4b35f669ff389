-- For the loops `line_size` and `lines_size`, which count piece by piece: what is left, after what is counted, makes the whole. Assumes nothing.
use mathlib.Core.Path.{◌≡◌, ap}
use mathlib.Core.List.{List, [], ◌++◌}
use Prim.Native.Nat.{ℕ, ◌+◌}
use native.Mathlib.Omega.{arith}
use lib.ListN.{length, length-append}

-- n bytes of the text are counted, and the rest is left
pub record Counting (all : List ℕ) (n : ℕ) (rest : List ℕ) : Type 0 where
  pub sum : n + length rest ≡ length all

pub counting_start : (all : List ℕ) → Counting all 0 all
counting_start all = record { sum = omega arith }

pub counting_turn : {all rest : List ℕ} {n : ℕ} → Counting all n rest → (piece : List ℕ) {left : List ℕ} {k : ℕ} → rest ≡ piece ++ left → k ≡ n + length piece
    → Counting all k left
counting_turn w piece {left} e l = record { sum = omega (arith, w.sum, ap length e, length-append piece left) }

pub counting_end : {all rest : List ℕ} {n : ℕ} → Counting all n rest → rest ≡ [] → n ≡ length all
counting_end w e = omega (arith, w.sum, ap length e)
