-- Signs as bytes; the test of a digit, which the lexer, the reader of durations and demand 3 share, worked out over all bytes; entries of the table of byte
-- kinds.
use Rattle.std.specs.Prelude.{◌≡◌, refl, Bool, true, false, List, [], ◌∷◌, ◌++◌, map, ℕ, zero, suc, replicate}
use Rattle.base.specs.Characters.{ascii}
use Rattle.base.specs.Bytes.{each}
use Rattle.base.specs.Classes.{is_digit}
use Rattle.base.specs.Kinds.{kind_of}

-- so many numbers from n on
abbrev from : ℕ → ℕ → List ℕ
from n zero = []
from n (suc k) = n ∷ from (suc n) k

-- the printable ASCII characters are the bytes from 32 to 126, and the control characters that definitions name are these
pub printable : ascii " !\"#$%&'()*+,-./0123456789:;<=>?@ABCDEFGHIJKLMNOPQRSTUVWXYZ[\\]^_`abcdefghijklmnopqrstuvwxyz{|}~" ≡ from 32 95
printable = refl

pub controls : ascii "\t\n\r" ≡ 9 ∷ 10 ∷ 13 ∷ []
controls = refl

-- of the 256 bytes, the ten from `0` (48) to `9` (57) are digits
pub digits : map is_digit (from 0 256) ≡ replicate 48 false ++ (replicate 10 true ++ replicate 198 false)
unfolding is_digit
digits = refl

-- a digit, two letters, two letters that begin units, the two signs of a name, one of none; the first bytes of U+00B5 and of U+03BC
pub entries : map kind_of (ascii "7Aphu_.-" ++ (0xC2 ∷ 0xCE ∷ [])) ≡ 5 ∷ 6 ∷ 6 ∷ 14 ∷ 14 ∷ 4 ∷ 4 ∷ 0 ∷ 8 ∷ 0 ∷ []
entries = refl

-- bytes, and whether each of them is a digit
pub record Case : Type 0 where
  pub bytes : List ℕ
  pub want : Bool

abbrev row : List ℕ → Bool → Case
row l b = record { bytes = l; want = b }

abbrev pub cases : List Case
cases =
    -- no byte
    (row [] true)
    ∷ (row (ascii "7") true)
    ∷ (row (ascii "09") true)
    ∷ (row (ascii "a1") false)
    ∷ (row (ascii "1.2") false)
    ∷ (row (ascii "12a") false)
    ∷ []

-- every row of the table holds
pub worked : map (λ (c : Case). each is_digit c.bytes) cases ≡ map (λ (c : Case). c.want) cases
unfolding is_digit
worked = refl
