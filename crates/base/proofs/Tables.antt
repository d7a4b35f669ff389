-- For the scales of go_duration and the first bytes of utf8: a rule over all numbers below a bound, from one test that antt computes. By induction on the
-- bound. Assumes nothing.
use mathlib.Core.Bool.{Bool, true, ◌&&◌}
use mathlib.Core.Logic.{⊎_elim}
use Prim.Native.Nat.{ℕ, zero, suc, ◌<◌}
use native.Mathlib.Nat.{not-suc-le-zero, eq-or-lt_of_le, le_of_suc-le-suc}
use lib.Dec.{T}
use Rattle.base.proofs.Tests.{both_left, both_right}

-- the test passes at each number below n
abbrev pub all : (ℕ → Bool) → ℕ → Bool
all f zero = true
all f (suc n) = f n && all f n

pub all_below : (f : ℕ → Bool) (n : ℕ) → T (all f n) → (k : ℕ) → k < n → T (f k)
all_below f zero t k h = absurd (not-suc-le-zero h)
all_below f (suc n) t k h =
    ⊎_elim (λ e. rw e (both_left (f n) (all f n) t)) (λ l. all_below f n (both_right (f n) (all f n) t) k l)
    (eq-or-lt_of_le (le_of_suc-le-suc h))
