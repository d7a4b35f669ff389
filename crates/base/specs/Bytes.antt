-- Bytes of a text, ranges of numbers, and equality of lists of bytes.
use Rattle.std.specs.Prelude.{Bool, true, false, ◌&&◌, List, [], ◌∷◌, ℕ, ◌<◌, leb, eqb, get_or}

-- the byte at k, or 0 past the end
abbrev pub byte : List ℕ → ℕ → ℕ
byte s k = get_or s k 0

-- lo ≤ x ≤ hi
abbrev pub within : ℕ → ℕ → ℕ → Bool
within lo hi x = leb lo x && leb x hi

-- the two lists have the same bytes
unfoldable pub same_bytes : List ℕ → List ℕ → Bool
same_bytes [] [] = true
same_bytes [] (b ∷ t) = false
same_bytes (a ∷ s) [] = false
same_bytes (a ∷ s) (b ∷ t) = eqb a b && same_bytes s t

-- each byte of the list passes the test
abbrev pub each : (ℕ → Bool) → List ℕ → Bool
each t [] = true
each t (b ∷ bs) = t b && each t bs

-- each number of the list is a byte
abbrev pub AreBytes : List ℕ → Type 0
AreBytes s = (k : ℕ) → byte s k < 256
