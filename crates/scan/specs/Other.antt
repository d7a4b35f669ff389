-- A character that begins no token.
use Rattle.std.specs.Prelude.{List, ℕ}
use Rattle.utf8.specs.Character.{code_of}
use Rattle.utf8.specs.Check.{char_end}
use Rattle.token.specs.declared.reason.Reason.TheVariants as R
use Rattle.lexeme.specs.Lexeme.{illegal}
use Rattle.lexeme.specs.declared.Lexeme.{Lexeme}

-- Types that other files explain: `Lexeme` in lexeme/specs/Lexeme.antt.

-- "1 unexpected character (detail: its code point)"
unfoldable pub lex_other : List ℕ → Lexeme
lex_other s = illegal R.UnexpectedCharacter (code_of s) (char_end s 1)
