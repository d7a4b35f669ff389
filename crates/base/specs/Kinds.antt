-- The table of byte kinds: a number for each byte, which adds up what the byte can be.
use Rattle.std.specs.Prelude.{◌≡◌, Bool, ◌||◌, List, [], ◌∷◌, ℕ, ◌+◌, ◌<◌, eqb, length}
use Prim.Native.Char.{code}
use Rattle.base.specs.Bytes.{byte, within}
use Rattle.base.specs.Choice.{pick}
use Rattle.base.specs.Classes.{is_digit, is_ident_part, is_duration_unit}

-- "a public constant table of 256 numbers": a row for sixteen bytes
abbrev pub kinds : List ℕ
kinds =
    -- 0x00 to 0x0F
    0 ∷ 0 ∷ 0 ∷ 0 ∷ 0 ∷ 0 ∷ 0 ∷ 0 ∷ 0 ∷ 0 ∷ 0 ∷ 0 ∷ 0 ∷ 0 ∷ 0 ∷ 0 ∷
    -- 0x10 to 0x1F
    0 ∷ 0 ∷ 0 ∷ 0 ∷ 0 ∷ 0 ∷ 0 ∷ 0 ∷ 0 ∷ 0 ∷ 0 ∷ 0 ∷ 0 ∷ 0 ∷ 0 ∷ 0 ∷
    -- 0x20 to 0x2F
    0 ∷ 0 ∷ 0 ∷ 0 ∷ 0 ∷ 0 ∷ 0 ∷ 0 ∷ 0 ∷ 0 ∷ 0 ∷ 0 ∷ 0 ∷ 0 ∷ 4 ∷ 0 ∷
    -- 0x30 to 0x3F
    5 ∷ 5 ∷ 5 ∷ 5 ∷ 5 ∷ 5 ∷ 5 ∷ 5 ∷ 5 ∷ 5 ∷ 0 ∷ 0 ∷ 0 ∷ 0 ∷ 0 ∷ 0 ∷
    -- 0x40 to 0x4F
    0 ∷ 6 ∷ 6 ∷ 6 ∷ 6 ∷ 6 ∷ 6 ∷ 6 ∷ 6 ∷ 6 ∷ 6 ∷ 6 ∷ 6 ∷ 6 ∷ 6 ∷ 6 ∷
    -- 0x50 to 0x5F
    6 ∷ 6 ∷ 6 ∷ 6 ∷ 6 ∷ 6 ∷ 6 ∷ 6 ∷ 6 ∷ 6 ∷ 6 ∷ 0 ∷ 0 ∷ 0 ∷ 0 ∷ 4 ∷
    -- 0x60 to 0x6F
    0 ∷ 6 ∷ 6 ∷ 6 ∷ 6 ∷ 6 ∷ 6 ∷ 6 ∷ 14 ∷ 6 ∷ 6 ∷ 6 ∷ 6 ∷ 14 ∷ 14 ∷ 6 ∷
    -- 0x70 to 0x7F
    6 ∷ 6 ∷ 6 ∷ 14 ∷ 6 ∷ 14 ∷ 6 ∷ 6 ∷ 6 ∷ 6 ∷ 6 ∷ 0 ∷ 0 ∷ 0 ∷ 0 ∷ 0 ∷
    -- 0x80 to 0x8F
    0 ∷ 0 ∷ 0 ∷ 0 ∷ 0 ∷ 0 ∷ 0 ∷ 0 ∷ 0 ∷ 0 ∷ 0 ∷ 0 ∷ 0 ∷ 0 ∷ 0 ∷ 0 ∷
    -- 0x90 to 0x9F
    0 ∷ 0 ∷ 0 ∷ 0 ∷ 0 ∷ 0 ∷ 0 ∷ 0 ∷ 0 ∷ 0 ∷ 0 ∷ 0 ∷ 0 ∷ 0 ∷ 0 ∷ 0 ∷
    -- 0xA0 to 0xAF
    0 ∷ 0 ∷ 0 ∷ 0 ∷ 0 ∷ 0 ∷ 0 ∷ 0 ∷ 0 ∷ 0 ∷ 0 ∷ 0 ∷ 0 ∷ 0 ∷ 0 ∷ 0 ∷
    -- 0xB0 to 0xBF
    0 ∷ 0 ∷ 0 ∷ 0 ∷ 0 ∷ 0 ∷ 0 ∷ 0 ∷ 0 ∷ 0 ∷ 0 ∷ 0 ∷ 0 ∷ 0 ∷ 0 ∷ 0 ∷
    -- 0xC0 to 0xCF
    0 ∷ 0 ∷ 8 ∷ 0 ∷ 0 ∷ 0 ∷ 0 ∷ 0 ∷ 0 ∷ 0 ∷ 0 ∷ 0 ∷ 0 ∷ 0 ∷ 0 ∷ 0 ∷
    -- 0xD0 to 0xDF
    0 ∷ 0 ∷ 0 ∷ 0 ∷ 0 ∷ 0 ∷ 0 ∷ 0 ∷ 0 ∷ 0 ∷ 0 ∷ 0 ∷ 0 ∷ 0 ∷ 0 ∷ 0 ∷
    -- 0xE0 to 0xEF
    0 ∷ 0 ∷ 0 ∷ 0 ∷ 0 ∷ 0 ∷ 0 ∷ 0 ∷ 0 ∷ 0 ∷ 0 ∷ 0 ∷ 0 ∷ 0 ∷ 0 ∷ 0 ∷
    -- 0xF0 to 0xFF
    0 ∷ 0 ∷ 0 ∷ 0 ∷ 0 ∷ 0 ∷ 0 ∷ 0 ∷ 0 ∷ 0 ∷ 0 ∷ 0 ∷ 0 ∷ 0 ∷ 0 ∷ 0 ∷
    []

-- the entry of a byte
abbrev pub kind_of : ℕ → ℕ
kind_of b = byte kinds b

-- "an ASCII letter"
unfoldable pub is_letter : ℕ → Bool
is_letter b = within (code "a") (code "z") b || within (code "A") (code "Z") b

-- "the first byte of a unit there": of ns, us, ms, s, m and h, and of µs, which begins with the first byte of U+00B5
unfoldable pub begins_unit : ℕ → Bool
begins_unit b = is_duration_unit b || eqb b 0xC2

-- "An entry adds 1 for a digit, 2 for an ASCII letter, 4 for a byte that can go on a name in `lexer.rs` and 8 for the first byte of a unit there"
unfoldable pub sum_of_kinds : ℕ → ℕ
sum_of_kinds b = ((pick (is_digit b) 1 0 + pick (is_letter b) 2 0) + pick (is_ident_part b) 4 0) + pick (begins_unit b) 8 0

-- "one theorem over the whole table says so"
pub record TableOfKinds : Type 0 where
  pub size : length kinds ≡ 256
  pub sums : (b : ℕ) → b < 256 → kind_of b ≡ sum_of_kinds b
