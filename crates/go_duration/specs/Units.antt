-- The units of durations.
use Rattle.std.specs.Prelude.{ℕ, List, [], ◌∷◌}
use Rattle.base.specs.Characters.{ascii}
use Rattle.base.specs.Choice.{pick}
use Rattle.base.specs.Bytes.{same_bytes}

-- document 01: "1 for ns, 1,000 for us (also with U+00B5 or U+03BC for the u), 1,000,000 for ms, 1,000,000,000 for s, 60,000,000,000 for m,
-- 3,600,000,000,000 for h"; `unit_of` of go_duration.rs
unfoldable pub units : List (List ℕ × ℕ)
units =
    (ascii "ns", 1)
    ∷ (ascii "us", 1000)
    ∷ (0xC2 ∷ 0xB5 ∷ ascii "s", 1000)
    ∷ (0xCE ∷ 0xBC ∷ ascii "s", 1000)
    ∷ (ascii "ms", 1000000)
    ∷ (ascii "s", 1000000000)
    ∷ (ascii "m", 60000000000)
    ∷ (ascii "h", 3600000000000)
    ∷ []

-- the nanoseconds of a unit in a table, or 0 where it is not there
abbrev pub unit_in : List (List ℕ × ℕ) → List ℕ → ℕ
unit_in [] u = 0
unit_in (r ∷ rs) u = pick (same_bytes u r.0) r.1 (unit_in rs u)

-- the nanoseconds of a unit, or 0 where it is none
unfoldable pub unit_of : List ℕ → ℕ
unfolding units
unit_of u = unit_in units u
