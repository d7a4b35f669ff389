-- Document 01's units, and some numbers in digits, apart from the definitions that the reader of durations and demand 3 share.
use Rattle.std.specs.Prelude.{◌≡◌, ℕ, List, [], ◌∷◌, map, refl}
use Rattle.base.specs.Characters.{ascii}
use Rattle.base.specs.Bytes.{same_bytes}
use Rattle.base.specs.Digits.{value_from, value_of}
use Rattle.go_duration.specs.Units.{units, unit_of}

-- ---- "A unit is its nanoseconds"

-- a unit's bytes, and its nanoseconds
pub record Unit : Type 0 where
  pub bytes : List ℕ
  pub nanos : ℕ

abbrev unit : List ℕ → ℕ → Unit
unit l n = record { bytes = l; nanos = n }

-- document 01's table of units
abbrev pub unit_rows : List Unit
unit_rows =
    -- "1 for ns"
    (unit (ascii "ns") 1)
    -- "1,000 for us"
    ∷ (unit (ascii "us") 1000)
    -- "also with U+00B5"
    ∷ (unit (0xC2 ∷ 0xB5 ∷ ascii "s") 1000)
    -- "or U+03BC for the u"
    ∷ (unit (0xCE ∷ 0xBC ∷ ascii "s") 1000)
    -- "1,000,000 for ms"
    ∷ (unit (ascii "ms") 1000000)
    -- "1,000,000,000 for s"
    ∷ (unit (ascii "s") 1000000000)
    -- "60,000,000,000 for m"
    ∷ (unit (ascii "m") 60000000000)
    -- "3,600,000,000,000 for h"
    ∷ (unit (ascii "h") 3600000000000)
    ∷ []

-- every row of the table holds; the run of `1` and each unit stands in Examples
pub units_worked : map (λ (r : Unit). unit_of r.bytes) unit_rows ≡ map (λ (r : Unit). r.nanos) unit_rows
unfolding units unit_of same_bytes
units_worked = refl

-- ---- the number that digits write

-- digits, and the number that they write
pub record Number : Type 0 where
  pub digits : List ℕ
  pub value : ℕ

abbrev number : List ℕ → ℕ → Number
number l n = record { digits = l; value = n }

-- some of each length
abbrev pub number_rows : List Number
number_rows =
    -- "Missing digits of a whole number count as 0"
    (number [] 0)
    ∷ (number (ascii "10") 10)
    ∷ (number (ascii "0042") 42)
    ∷ (number (ascii "1234567890") 1234567890)
    ∷ []

-- every row of the table holds
pub numbers_worked : map (λ (r : Number). value_of r.digits) number_rows ≡ map (λ (r : Number). r.value) number_rows
unfolding value_from
numbers_worked = refl
