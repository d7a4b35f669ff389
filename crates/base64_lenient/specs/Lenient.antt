-- What `decode_base64_lenient` takes, and what it makes of it, in the terms of RFC 4648; document 02, #104.
use Rattle.std.specs.Prelude.{Bool, not, ◌&&◌, ◌||◌, List, [], ◌∷◌, map, ℕ, suc, ◌+◌, ◌*◌, ◌/◌, ◌%◌, eqb, ltb, length, drop}
use Prim.Native.Char.{code}
use Rattle.base.specs.Choice.{pick}
use Rattle.base.specs.Bytes.{each}
use Rattle.base64_lenient.specs.Rfc4648.{Alphabet, standard, url_safe, characters_of, pad}

-- ---- the characters of a run

-- `\r` and `\n`, which `decode_with` skips wherever they stand
abbrev pub is_line_break : ℕ → Bool
is_line_break b = eqb b (code "\r") || eqb b (code "\n")

-- the run without them
unfoldable pub without_breaks : List ℕ → List ℕ
without_breaks [] = []
without_breaks (b ∷ s) = pick (is_line_break b) (without_breaks s) (b ∷ without_breaks s)

-- what stands before the first pad character
unfoldable pub before_pads : List ℕ → List ℕ
before_pads [] = []
before_pads (b ∷ s) = pick (eqb b pad) [] (b ∷ before_pads s)

-- what stands from there on
abbrev pub from_pads : List ℕ → List ℕ
from_pads s = drop (length (before_pads s)) s

-- the place of a number in a list, or the list's length where it is not there
abbrev pub index_in : List ℕ → ℕ → ℕ
index_in [] c = 0
index_in (x ∷ l) c = pick (eqb x c) 0 (suc (index_in l c))

-- the value of a character in an alphabet, or 64
unfoldable pub value_in : Alphabet → ℕ → ℕ
value_in a c = index_in (characters_of a) c

-- whether the alphabet has the character
abbrev pub is_in : Alphabet → ℕ → Bool
is_in a c = ltb (value_in a c) 64

-- its value in the alphabet that has it; the alphabets have different characters for 62 and 63 alone
abbrev pub six_bits : ℕ → ℕ
six_bits c = pick (is_in standard c) (value_in standard c) (value_in url_safe c)

-- ---- which runs decode

-- all characters are of one alphabet: "the standard alphabet .. then the URL-safe one"
abbrev pub in_one_alphabet : List ℕ → Bool
in_one_alphabet cs = each (is_in standard) cs || each (is_in url_safe) cs

-- k pad characters after n others: none, where n leaves no single character, or those that RFC 4648 has
abbrev pub right_pads : ℕ → ℕ → Bool
right_pads n k =
    (eqb k 0 && not (eqb (n % 4) 1)) || ((eqb k 1 && eqb (n % 4) 3) || (eqb k 2 && eqb (n % 4) 2))

abbrev pub is_pad : ℕ → Bool
is_pad b = eqb b pad

-- `decode_base64_lenient` takes the run: its line breaks apart, it is characters of one alphabet and then as many pad characters as are right
unfoldable pub decodes : List ℕ → Bool
decodes run =
    let t = without_breaks run in
    in_one_alphabet (before_pads t) && (each is_pad (from_pads t) && right_pads (length (before_pads t)) (length (from_pads t)))

-- ---- what they decode to

-- six bits each, four of them as three bytes; of the last two or three, bits that make no byte are dropped
unfoldable pub regroup : List ℕ → List ℕ
regroup [] = []
regroup (a ∷ []) = []
regroup (a ∷ b ∷ []) = (a * 4 + b / 16) ∷ []
regroup (a ∷ b ∷ c ∷ []) = (a * 4 + b / 16) ∷ (b % 16 * 16 + c / 4) ∷ []
regroup (a ∷ b ∷ c ∷ d ∷ l) = (a * 4 + b / 16) ∷ (b % 16 * 16 + c / 4) ∷ (c % 4 * 64 + d) ∷ regroup l

-- the bytes that a run decodes to
unfoldable pub decoded : List ℕ → List ℕ
decoded run = regroup (map six_bits (before_pads (without_breaks run)))
