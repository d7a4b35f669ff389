-- How a text is read: document 01, "Mode (strict or tolerant) and bytes limit are inputs"; and what the lexers then find at the front of a text.
use Rattle.std.specs.Prelude.{List, ℕ}
use Rattle.lexeme.specs.Lexeme.{Note}
use Rattle.lexeme.specs.declared.Lexeme.{Lexeme}
use Rattle.lexeme.specs.declared.Mode.{Mode}
use Rattle.lexeme.specs.declared.Mode.TheVariants as M
use Rattle.lexer.specs.Lexer.{lexeme_of, string_of, notes_of}
use Rattle.lexer.specs.declared.reading.Reading.{Reading}
use Rattle.lexer.specs.declared.reading.Reading.TheVariants.{Strict, Tolerant}

-- Types of the code (src/reading.rt). `Reading` is `Strict` or `Tolerant`, as the lexers' `Mode` is.
-- Types that other files explain: `Lexeme`, `Mode` in lexeme/specs/Lexeme.antt.

-- the mode of the lexers in a reading, which is strict or tolerant
abbrev pub mode_of : Reading → Mode
mode_of Strict = M.Strict
mode_of Tolerant = M.Tolerant

-- the token at the front of a text that starts with no blank
unfoldable pub lexeme_in : Reading → ℕ → List ℕ → Lexeme
lexeme_in r limit s = lexeme_of (mode_of r) limit s

-- the bytes that it lays into the string buffer
unfoldable pub string_in : Reading → List ℕ → List ℕ
string_in r s = string_of (mode_of r) s

-- its reports, in order
unfoldable pub notes_in : Reading → ℕ → List ℕ → List Note
notes_in r limit s = notes_of (mode_of r) limit s
