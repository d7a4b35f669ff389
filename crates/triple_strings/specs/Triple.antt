-- Triple-quoted strings: `lex_triple_string`.
use Rattle.std.specs.Prelude.{Bool, ◌&&◌, List, [], ◌∷◌, ℕ, suc, ◌+◌, ◌-◌, leb, ltb, eqb, length, take, drop}
use Prim.Native.Char.{code}
use Rattle.base.specs.Choice.{pick}
use Rattle.base.specs.Bytes.{byte}
use Rattle.utf8.specs.Check.{char_end}
use Rattle.token.specs.declared.kind.TokenKind.TheVariants as K
use Rattle.token.specs.declared.reason.Reason.TheVariants as R
use Rattle.lexeme.specs.Lexeme.{extent, illegal, Note, note_at_start}
use Rattle.lexeme.specs.declared.Lexeme.{Lexeme}
use Rattle.lexeme.specs.declared.Mode.{Mode}
use Rattle.lexeme.specs.declared.Mode.TheVariants.{Strict, Tolerant}
use Rattle.triple_strings.specs.Dedent.{dedent}

-- Types that other files explain: `TokenKind` in token/specs/Kind.antt; `Lexeme`, `Mode` in lexeme/specs/Lexeme.antt.

-- three quotes at the front; past the end `byte` gives 0
unfoldable pub quotes : List ℕ → Bool
quotes l = eqb (byte l 0) (code "\"") && (eqb (byte l 1) (code "\"") && eqb (byte l 2) (code "\""))

-- how many bytes stand before the first three quotes, or all of them
unfoldable pub until_quotes : List ℕ → ℕ
until_quotes [] = 0
until_quotes (x ∷ xs) = pick (quotes (x ∷ xs)) 0 (suc (until_quotes xs))

-- the length of what stands between the opening quotes and the closing ones, or the end
unfoldable pub raw_size : List ℕ → ℕ
raw_size s = until_quotes (drop 3 s)

-- the raw bytes
unfoldable pub raw_bytes : List ℕ → List ℕ
raw_bytes s = take (raw_size s) (drop 3 s)

-- closing quotes are there
unfoldable pub closed : List ℕ → Bool
closed s = ltb (raw_size s + 3) (length s)

-- document 01: "open triple strings two [bytes before the end], never before their content", and after the character there
unfoldable pub open_triple_end : List ℕ → ℕ
open_triple_end s = char_end s (pick (leb 5 (length s)) (length s - 2) 3)

-- "open triple string"; the tolerant reader takes all that is left and reports it
abbrev pub open_triple : Mode → List ℕ → Lexeme
open_triple Strict s = illegal R.OpenTripleString 0 (open_triple_end s)
open_triple Tolerant s = extent K.String (length s) 0 (length (dedent (raw_bytes s))) 1

-- the triple-quoted string at the front of s, which begins with three quotes
unfoldable pub lex_triple_string : Mode → List ℕ → Lexeme
lex_triple_string m s = pick (closed s) (extent K.String (raw_size s + 6) 0 (length (dedent (raw_bytes s))) 0) (open_triple m s)

-- the bytes of an open one: an Illegal has none
abbrev pub open_triple_bytes : Mode → List ℕ → List ℕ
open_triple_bytes Strict s = []
open_triple_bytes Tolerant s = dedent (raw_bytes s)

-- the bytes that go to the string buffer
unfoldable pub triple_bytes : Mode → List ℕ → List ℕ
triple_bytes m s = pick (closed s) (dedent (raw_bytes s)) (open_triple_bytes m s)

-- the report of an open one, at its start
abbrev pub open_triple_notes : Mode → List Note
open_triple_notes Strict = []
open_triple_notes Tolerant = note_at_start R.OpenTripleString ∷ []

-- its reports
unfoldable pub triple_notes : Mode → List ℕ → List Note
triple_notes m s = pick (closed s) [] (open_triple_notes m)
