-- For number.rt and name.rt: the parts of a number by the bytes that they begin with, and runs as slices. By cases on the tests; a byte that passes
-- one is in the text. Assumes nothing.
use mathlib.Core.Path.{◌≡◌, refl}
use mathlib.Core.Bool.{Bool, true, false, not, ◌&&◌, ◌||◌}
use mathlib.Core.List.{List}
use Prim.Native.Nat.{ℕ, ◌+◌, ◌≤◌, ◌<◌}
use native.Mathlib.Omega.{arith}
use borrow.Author.Tests.{eq-eqb}
use lib.Dec.{eqb}
use lib.ListN.{length, take}
use lib.Seq.{length-take-le}
use Rattle.std.proofs.lemmas.Bool.Decides.{nat_tests}
use Rattle.base.specs.Bytes.{byte}
use Rattle.base.specs.Classes.{is_digit, is_duration_unit}
use Rattle.base.specs.Digits.{in_digits}
use Rattle.base.specs.Kinds.{begins_unit}
use Rattle.base.specs.Runs.{reach, past}
use Rattle.base.proofs.Tests.{in_text, no_digit}
use Rattle.base.proofs.Reaches.{reach_ge, reach_le, reach_end, reach_step}
use Rattle.base.proofs.Walks.{past_le}
use Rattle.scan.specs.Run.{in_stamp}
use Rattle.scan.specs.Number.{at_duration_unit}

-- the digits after the first of them
pub from_second : (s : List ℕ) (i : ℕ) → is_digit (byte s (i + 1)) ≡ true → reach in_digits s (i + 2) ≡ reach in_digits s (i + 1)
from_second s i e =
    let q : i + 2 ≡ i + 1 + 1 = omega arith in
    rw q (reach_step in_digits s (i + 1) (in_text is_digit s (i + 1) no_digit e) e)

-- a byte that begins a unit begins `µs` or is ASCII
pub by_first : (a b : ℕ) → at_duration_unit a b ≡ begins_unit a && (not (eqb a 0xC2) || eqb b 0xB5)
unfolding begins_unit at_duration_unit is_duration_unit
by_first a b = grind (arith, nat_tests)

no_unit : begins_unit 0 ≡ false
unfolding begins_unit is_duration_unit
no_unit = refl

pub unit_in : (s : List ℕ) (f : ℕ) → begins_unit (byte s f) ≡ true → f < length s
unit_in s f = in_text begins_unit s f no_unit

-- a run, and a duration's pieces, as slices
pub reach_size : (p : ℕ → ℕ → Bool) (s : List ℕ) (i : ℕ) → i ≤ length s → length (take (reach p s i) s) ≡ reach p s i
reach_size p s i h = length-take-le (reach p s i) s (reach_le p s i h)

pub past_size : (f : List ℕ → ℕ) (s : List ℕ) (i : ℕ) → i ≤ length s → length (take (past f s i) s) ≡ past f s i
past_size f s i h = length-take-le (past f s i) s (past_le f s i h)

-- a `-` is in the text
pub stamp_size : (s : List ℕ) (n : ℕ) → byte s n ≡ 45 → length (take (reach in_stamp s n) s) ≡ reach in_stamp s n
stamp_size s n e =
    let h = in_text (λ a. eqb a 45) s n refl (eq-eqb (byte s n) 45 e) in
    reach_size in_stamp s n (omega arith)

-- for name.rt
pub ruleset runs = (reach_ge, reach_le, reach_end, reach_size)

-- for number.rt
pub ruleset units = (past_size, by_first, unit_in)
