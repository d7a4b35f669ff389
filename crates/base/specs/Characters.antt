-- Bytes by their signs: `code "a"` is the code point of a character, and here are the bytes of an ASCII text.
use Rattle.std.specs.Prelude.{List, [], ◌∷◌, ℕ}
use Prim.Native.Char.{code}
use Prim.Native.String as string
use Prim.Native.String.{String}

-- the bytes of a text of ASCII characters
abbrev pub ascii : String → List ℕ
ascii string.[] = []
ascii (string.◌∷◌ c s) = code c ∷ ascii s
