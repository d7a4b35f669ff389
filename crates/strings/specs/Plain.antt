-- Helper definitions, for proofs and inner contracts alone: parts of a string literal that are read at once, bytes that stand for themselves, for
-- `lex_string` pushes every byte that is no quote, newline or backslash, and escapes of one letter.
use Rattle.std.specs.Prelude.{◌≡◌, Option, Some, None, Bool, not, ◌&&◌, List, [], ◌∷◌, ℕ, ◌+◌, ◌≤◌, eqb, length, drop}
use Prim.Native.Char.{code}
use Rattle.base.specs.Choice.{pick}
use Rattle.utf8.specs.Grammar.{Octets}
use Rattle.lexeme.specs.declared.Mode.{Mode}
use Rattle.strings.specs.Piece.{simple_of}
use Rattle.strings.specs.Decode.{prepend, decode}

-- Types that other files explain: `Mode` in lexeme/specs/Lexeme.antt.

-- no quote, newline or backslash
unfoldable pub is_ordinary : ℕ → Bool
is_ordinary b = (not (eqb b (code "\"")) && not (eqb b (code "\n"))) && not (eqb b (code "\\"))

-- the same as the test of a run; what follows the byte does not count
abbrev pub in_ordinary : ℕ → ℕ → Bool
in_ordinary a b = is_ordinary a

-- the byte that a backslash and a letter stand for
unfoldable pub simple_at : ℕ → ℕ → Option ℕ
simple_at x y = pick (eqb x (code "\\")) (simple_of y) None

-- a byte before others, where there is one; else none of them
abbrev pub before : Option ℕ → List ℕ → List ℕ
before None bs = []
before (Some b) bs = b ∷ bs

-- the bytes that the escapes of one letter at the front stand for
unfoldable pub simple_bytes : List ℕ → List ℕ
simple_bytes [] = []
simple_bytes (x ∷ []) = []
simple_bytes (x ∷ y ∷ l) = before (simple_at x y) (simple_bytes l)

-- in each mode, the text from i to r stands for n bytes, which are whole characters, and makes no report
pub record Spells (s : List ℕ) (i r n : ℕ) : Type 0 where
  pub bytes : List ℕ
  pub count : length bytes ≡ n
  pub whole : Octets bytes
  pub later : i + n ≤ r
  pub inside : r ≤ length s
  pub is : (m : Mode) → decode m i 0 (drop i s) ≡ prepend bytes [] (decode m r 0 (drop r s))
