-- Helper definitions, for proofs and inner contracts alone: the table of byte kinds as words of bits, and as it is read for blocks of bytes.
use Rattle.std.specs.Prelude.{Bool, false, not, ◌||◌, ℕ, zero, suc, ◌+◌, ◌*◌, ◌/◌, ◌%◌, ◌^◌, eqb}
use Rattle.std.specs.Int.Bits.{bit_and, bit_or}
use mir.Val.{bool_byte}
use Rattle.base.specs.Choice.{pick}
use Rattle.base.specs.Classes.{is_digit, is_ident_part}
use Rattle.base.specs.Kinds.{kind_of, is_letter, begins_unit}

-- an entry counts the kind n
abbrev pub counts : ℕ → ℕ → Bool
counts n k = not (eqb (bit_and k n) 0)

-- a bit for each of i entries from `at` on: whether it counts the kind n
unfoldable pub mask_of : ℕ → ℕ → ℕ → ℕ
mask_of n at zero = 0
mask_of n at (suc i) = bit_or (mask_of n at i) (bool_byte (counts n (kind_of (at + i))) * 2 ^ i % 18446744073709551616)

-- the bits of the kind n for the 64 bytes from which b is
abbrev pub word_of : ℕ → ℕ → ℕ
word_of n b = mask_of n (64 * (b / 64)) 64

-- the bit of a byte in such a word
abbrev pub has_bit : ℕ → ℕ → Bool
has_bit w b = not (eqb (bit_and (w / 2 ^ bit_and b 63) 1) 0)

-- n is one of the four kinds
abbrev pub is_kind : ℕ → Bool
is_kind n = ((eqb n 1 || eqb n 2) || eqb n 4) || eqb n 8

-- the test of a kind
unfoldable pub kind_test : ℕ → ℕ → Bool
kind_test n b = pick (eqb n 1) (is_digit b) (pick (eqb n 2) (is_letter b) (pick (eqb n 4) (is_ident_part b) (pick (eqb n 8) (begins_unit b) false)))

-- the same as the test of a run; what follows the byte does not count
abbrev pub in_kind : ℕ → ℕ → ℕ → Bool
in_kind n a b = kind_test n a
