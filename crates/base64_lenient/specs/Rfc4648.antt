-- Base 64 as RFC 4648 writes it: the two alphabets, and the text that encodes a list of bytes, three bytes at a time.
use Rattle.std.specs.Prelude.{List, [], ◌∷◌, ℕ, zero, suc, ◌+◌, ◌*◌, ◌/◌, ◌%◌, eqb, get_or}
use Prim.Native.Char.{code}
use Rattle.base.specs.Choice.{pick}
use Rattle.base.specs.Characters.{ascii}

-- section 4 and section 5: the standard alphabet, and the one that is safe in URLs and file names
pub data Alphabet : Type 0 where
  standard : Alphabet
  url_safe : Alphabet

-- Table 1 and Table 2: the characters of the values 0 to 63, in order
abbrev pub characters_of : Alphabet → List ℕ
characters_of standard = ascii "ABCDEFGHIJKLMNOPQRSTUVWXYZabcdefghijklmnopqrstuvwxyz0123456789+/"
characters_of url_safe = ascii "ABCDEFGHIJKLMNOPQRSTUVWXYZabcdefghijklmnopqrstuvwxyz0123456789-_"

-- the character that stands for a value
abbrev pub character_of : Alphabet → ℕ → ℕ
character_of a v = get_or (characters_of a) v 0

-- "(pad) =", in both tables
abbrev pub pad : ℕ
pad = code "="

-- section 3.2: a text has pad characters at its end, or it has none
pub data Padding : Type 0 where
  padded : Padding
  unpadded : Padding

-- so many pad characters where the text is padded
abbrev pub pads : Padding → ℕ → List ℕ
pads unpadded n = []
pads padded zero = []
pads padded (suc n) = pad ∷ pads padded n

-- Section 4: three bytes are 24 bits, which four characters stand for, six bits each, the first bits first. One byte at the end is two characters,
-- two bytes are three, filled up with pad characters. The bits of the last character that no byte has are the pad bits: here any.
unfoldable pub encode_with : Alphabet → Padding → ℕ → List ℕ → List ℕ
encode_with a p bits [] = []
encode_with a p bits (x ∷ []) = character_of a (x / 4) ∷ character_of a (x % 4 * 16 + bits) ∷ pads p 2
encode_with a p bits (x ∷ y ∷ []) =
    character_of a (x / 4) ∷ character_of a (x % 4 * 16 + y / 16) ∷ character_of a (y % 16 * 4 + bits) ∷ pads p 1
encode_with a p bits (x ∷ y ∷ z ∷ l) =
    character_of a (x / 4) ∷ character_of a (x % 4 * 16 + y / 16) ∷ character_of a (y % 16 * 4 + z / 64) ∷ character_of a (z % 64) ∷ encode_with a p bits l

-- the text of the bytes: "bits with value zero are added (on the right)"
abbrev pub encode : Alphabet → Padding → List ℕ → List ℕ
encode a p bytes = encode_with a p 0 bytes

-- how many numbers the pad bits of n bytes can be: there are four after one byte more than whole groups have, two after two bytes more
abbrev pub pad_bits_range : ℕ → ℕ
pad_bits_range n = pick (eqb (n % 3) 0) 1 (pick (eqb (n % 3) 1) 16 4)
