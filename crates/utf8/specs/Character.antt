-- Characters and their code points: RFC 3629, section 3; Unicode's property White_Space.
use Rattle.std.specs.Prelude.{Bool, false, not, ◌&&◌, ◌||◌, List, [], ◌∷◌, ℕ, ◌+◌, ◌*◌, ◌/◌, ◌%◌, eqb, ltb, leb, length, take}
use Rattle.base.specs.Choice.{pick}
use Rattle.base.specs.Bytes.{byte, within}
use Rattle.utf8.specs.Grammar.{Range, range, char_size}
use Rattle.utf8.specs.declared.character.Encoded.{Encoded}

-- Types of the code (src/character.rt). `Encoded`: at most four octets, the first `len` of the four `bytes`.

-- the free bits of a character of 1 to 4 octets, "x" in the table of section 3, and 0 for any other size
unfoldable pub code_bits : ℕ → List ℕ → ℕ
code_bits n s =
    pick (eqb n 1) (byte s 0)
    (pick (eqb n 2) (byte s 0 % 32 * 64 + byte s 1 % 64)
    (pick (eqb n 3) (byte s 0 % 16 * 4096 + byte s 1 % 64 * 64 + byte s 2 % 64)
    (pick (eqb n 4) (byte s 0 % 8 * 262144 + byte s 1 % 64 * 4096 + byte s 2 % 64 * 64 + byte s 3 % 64) 0)))

-- the code point of the character at the front of the list, or 0 where there is none
unfoldable pub code_of : List ℕ → ℕ
code_of s = code_bits (char_size s) s

-- a code point that UTF-8 encodes: at most 0x10FFFF and no surrogate
unfoldable pub is_scalar : ℕ → Bool
is_scalar r = leb r 0x10FFFF && not (within 0xD800 0xDFFF r)

-- the octets of a code point up to 0x10FFFF, by the table of section 3
unfoldable pub encode_of : ℕ → List ℕ
encode_of r =
    pick (ltb r 0x80) (r ∷ [])
    (pick (ltb r 0x800) ((0xC0 + r / 64) ∷ (0x80 + r % 64) ∷ [])
    (pick (ltb r 0x10000) ((0xE0 + r / 4096) ∷ (0x80 + r / 64 % 64) ∷ (0x80 + r % 64) ∷ [])
    ((0xF0 + r / 262144) ∷ (0x80 + r / 4096 % 64) ∷ (0x80 + r / 64 % 64) ∷ (0x80 + r % 64) ∷ [])))

-- the octets that an `Encoded` has
abbrev pub octets_of : Encoded → List ℕ
octets_of e = take e.len e.bytes

-- at most four octets, with 0 past them
abbrev pub encoded : List ℕ → Encoded
encoded l = record { bytes = byte l 0 ∷ byte l 1 ∷ byte l 2 ∷ byte l 3 ∷ []; len = length l }

-- Unicode's property White_Space, its 25 code points
unfoldable pub white_space : List Range
white_space =
    range 0x0009 0x000D ∷ range 0x0020 0x0020 ∷ range 0x0085 0x0085 ∷ range 0x00A0 0x00A0 ∷ range 0x1680 0x1680
    ∷ range 0x2000 0x200A ∷ range 0x2028 0x2029 ∷ range 0x202F 0x202F ∷ range 0x205F 0x205F ∷ range 0x3000 0x3000 ∷ []

-- a number is in one of the ranges
abbrev pub in_ranges : List Range → ℕ → Bool
in_ranges [] x = false
in_ranges (r ∷ rs) x = within r.lo r.hi x || in_ranges rs x

-- the code point is White_Space
unfoldable pub is_white : ℕ → Bool
unfolding white_space
is_white r = in_ranges white_space r

-- the length of the White_Space character at the front of the list, or 0 where there is none
unfoldable pub white_size : List ℕ → ℕ
white_size s = pick (is_white (code_of s)) (char_size s) 0
