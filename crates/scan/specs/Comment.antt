-- Comments: `lex_line_comment` and `lex_block_comment`.
use Rattle.std.specs.Prelude.{List, [], ◌∷◌, ℕ, ◌+◌, ◌-◌, ltb, leb, length}
use Rattle.base.specs.Choice.{pick}
use Rattle.base.specs.Runs.{reach}
use Rattle.utf8.specs.Check.{char_end}
use Rattle.token.specs.declared.kind.TokenKind.TheVariants as K
use Rattle.token.specs.declared.reason.Reason.TheVariants as R
use Rattle.lexeme.specs.Lexeme.{whole, extent, illegal, Note, note_at_start}
use Rattle.lexeme.specs.declared.Lexeme.{Lexeme}
use Rattle.lexeme.specs.declared.Mode.{Mode}
use Rattle.lexeme.specs.declared.Mode.TheVariants.{Strict, Tolerant}
use Rattle.scan.specs.Run.{in_line, in_body}

-- Types that other files explain: `TokenKind` in token/specs/Kind.antt; `Lexeme`, `Mode` in lexeme/specs/Lexeme.antt.

-- `lex_line_comment`: `#` or `//` to the end of the line
unfoldable pub lex_line_comment : List ℕ → Lexeme
lex_line_comment s = whole K.Comment (reach in_line s 0)

-- document 01: "Strict open block comments stop one byte before the end .. never before their content", and after the character there
unfoldable pub open_end : List ℕ → ℕ
open_end s = char_end s (pick (leb 3 (length s)) (length s - 1) 2)

-- where the comment's body ends: at `*/`, or at the end of the text
unfoldable pub body_end : List ℕ → ℕ
body_end s = reach in_body s 2

-- "2 open block comment"; the tolerant reader takes all that is left and reports it
unfoldable pub open_comment : Mode → List ℕ → Lexeme
open_comment Strict s = illegal R.OpenBlockComment 0 (open_end s)
open_comment Tolerant s = extent K.Comment (length s) 0 (length s) 1

-- `lex_block_comment`: through `*/`, or open
unfoldable pub lex_block_comment : Mode → List ℕ → Lexeme
lex_block_comment m s = pick (ltb (body_end s) (length s)) (whole K.Comment (body_end s + 2)) (open_comment m s)

-- the report of an open comment, at its start
abbrev pub open_comment_notes : Mode → List Note
open_comment_notes Strict = []
open_comment_notes Tolerant = note_at_start R.OpenBlockComment ∷ []

-- the reports of the comment at the front of s
unfoldable pub block_notes : Mode → List ℕ → List Note
block_notes m s = pick (ltb (body_end s) (length s)) [] (open_comment_notes m)
