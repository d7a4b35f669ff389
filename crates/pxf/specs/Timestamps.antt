-- What the function on timestamps gives to a C program.
use Rattle.std.specs.Prelude.{◌≡◌, List, [], ◌∷◌, ℕ, ℤ, pos, Option, Some, None}
use Rattle.rfc3339.specs.Instant.{date_of}
use Rattle.rfc3339.specs.declared.parse.Instant.{Instant}

-- Types that other files explain: `Instant` in rfc3339/specs/Instant.antt.

-- "a date: 1, seconds, nanoseconds, 0, 0, 0; no date: six zeros"
abbrev pub instant_numbers : Option Instant → List ℤ
instant_numbers (Some i) = pos 1 ∷ i.seconds ∷ pos i.nanos ∷ pos 0 ∷ pos 0 ∷ pos 0 ∷ []
instant_numbers None = pos 0 ∷ pos 0 ∷ pos 0 ∷ pos 0 ∷ pos 0 ∷ pos 0 ∷ []

-- `pxf_timestamp`: "returns 0 always", and the instant of the run, any bytes
pub record TimestampGiven (run : List ℕ) (r : ℕ) (A' : List ℤ) : Type 0 where
  pub number : r ≡ 0
  pub answer : A' ≡ instant_numbers (date_of run)
