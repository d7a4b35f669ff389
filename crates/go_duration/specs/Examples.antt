-- Durations worked out by the definitions alone, as one table: document 01's P cases of durations, the edges of the rules, and each unit once.
use Rattle.std.specs.Prelude.{◌≡◌, ℕ, Option, Some, None, List, [], ◌∷◌, ◌++◌, map, replicate, ℤ, pos, negsuc, refl}
use Prim.Native.Char.{code}
use Rattle.std.specs.Float.Ieee.{mul, div, of_int, to_unsigned}
use Rattle.base.specs.Characters.{ascii}
use Rattle.base.specs.Bytes.{same_bytes}
use Rattle.base.specs.Classes.{is_digit}
use Rattle.base.specs.Runs as runs
use Rattle.base.specs.Digits.{value_from}
use Rattle.go_duration.specs.Fraction.{scale_of, product_of, nanos_of, add_digit, read_digits, frac_of, fraction_nanos}
use Rattle.go_duration.specs.Units.{units, unit_of}
use Rattle.go_duration.specs.Parse.{whole_end, has_point, fraction_start, fraction_end, unit_end, whole_of, part_unit, part_fraction}
use Rattle.go_duration.specs.Parse.{digitless, part_of, sum_from, with_sign, unsigned, parse_of}
use Rattle.go_duration.specs.Words.{Unit, unit_rows}

-- a run, and what it is as a duration
pub record Case : Type 0 where
  pub run : List ℕ
  pub want : Option ℤ

abbrev row : List ℕ → Option ℤ → Case
row t w = record { run = t; want = w }

-- 2^63 nanoseconds
abbrev large : List ℕ
large = ascii "9223372036854775808ns"

abbrev pub cases : List Case
cases =
    -- P
    (row (ascii "1.5ms") (Some (pos 1500000)))
    -- P, with `-`
    ∷ (row (code "-" ∷ large) (Some (negsuc 9223372036854775807)))
    -- P
    ∷ (row large None)
    -- P it written twice
    ∷ (row (large ++ large) None)
    -- the same under `-`
    ∷ (row (code "-" ∷ (large ++ large)) None)
    ∷ (row (ascii "9223372036854775807ns") (Some (pos 9223372036854775807)))
    ∷ (row (ascii "-9223372036854775807ns1ns") (Some (negsuc 9223372036854775807)))
    ∷ (row (ascii "9223372036854775809ns") None)
    ∷ (row (ascii "0") (Some (pos 0)))
    ∷ (row (ascii "+0") (Some (pos 0)))
    ∷ (row (ascii "-0") (Some (pos 0)))
    -- nothing
    ∷ (row ([]) None)
    ∷ (row (ascii "-") None)
    ∷ (row (ascii "5min") None)
    ∷ (row (ascii ".5m") (Some (pos 30000000000)))
    -- `5µs` (U+00B5)
    ∷ (row (ascii "5" ++ (0xC2 ∷ 0xB5 ∷ ascii "s")) (Some (pos 5000)))
    -- `5μs` (U+03BC)
    ∷ (row (ascii "5" ++ (0xCE ∷ 0xBC ∷ ascii "s")) (Some (pos 5000)))
    ∷ (row (ascii "1.s") (Some (pos 1000000000)))
    ∷ (row (ascii ".s") None)
    ∷ (row (ascii "5") None)
    ∷ (row (ascii "1h1.5m0s") (Some (pos 3690000000000)))
    -- 25 nines: one more than the exact whole part
    ∷ (row (ascii "0." ++ (replicate 25 (code "9") ++ ascii "s")) (Some (pos 1000000000)))
    -- `1` and each unit of document 01
    ∷ map (λ (u : Unit). row (code "1" ∷ u.bytes) (Some (pos u.nanos))) unit_rows

-- every row of the table holds
pub worked : map (λ (c : Case). parse_of c.run) cases ≡ map (λ (c : Case). c.want) cases
unfolding parse_of unsigned with_sign sum_from part_of digitless part_fraction part_unit whole_of unit_end fraction_end fraction_start has_point
    whole_end units unit_of value_from fraction_nanos frac_of read_digits add_digit nanos_of product_of scale_of mul div of_int to_unsigned runs.run
    runs.reach is_digit same_bytes
worked = refl
