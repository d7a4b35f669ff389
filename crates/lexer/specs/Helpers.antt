-- Helper definitions, for proofs and inner contracts alone: tokens that their first byte tells (marks), and what the functions below the next token
-- require.
use Rattle.std.specs.Prelude.{◌≡◌, true, Option, Some, None, List, ℕ, ◌+◌, ◌≤◌, ◌<◌, eqb, length, drop}
use Prim.Native.Char.{code}
use Rattle.base.specs.Choice.{pick}
use Rattle.base.specs.Bytes.{byte}
use Rattle.utf8.specs.Grammar.{Octets}
use Rattle.token.specs.Helpers.{is_newline, on_one_line, Flat, Walkable}
use Rattle.token.specs.declared.kind.TokenKind.{TokenKind}
use Rattle.token.specs.declared.kind.TokenKind.TheVariants as K
use Rattle.token.specs.declared.place.Place.{Place}
use Rattle.token.specs.declared.reason.Reason.{Reason}
use Rattle.token.specs.declared.reason.Reason.TheVariants as R
use Rattle.lexeme.specs.Lexeme.{whole, bare}
use Rattle.lexeme.specs.Helpers.{notes_numbers}
use Rattle.lexeme.specs.declared.Lexeme.{Lexeme}
use Rattle.scan.specs.Bytes.{bytes_stop}
use Rattle.scan.specs.Helpers.{stop_reason}
use Rattle.triple_strings.specs.Triple.{quotes}
use Rattle.lexer.specs.Reading.{lexeme_in, string_in, notes_in}
use Rattle.lexer.specs.declared.reading.Reading.{Reading}

-- Types that other files explain: `TokenKind` in token/specs/Kind.antt; `Place` in token/specs/Place.antt; `Lexeme` in lexeme/specs/Lexeme.antt;
-- `Reason` in token/specs/Reason.antt; `Reading` in Reading.antt.

-- the kind of a token of one byte
unfoldable pub single_of : ℕ → Option TokenKind
single_of a =
    pick (eqb a (code "{")) (Some K.LBrace)
    (pick (eqb a (code "}")) (Some K.RBrace)
    (pick (eqb a (code "[")) (Some K.LBracket)
    (pick (eqb a (code "]")) (Some K.RBracket)
    (pick (eqb a (code "(")) (Some K.LParen)
    (pick (eqb a (code ")")) (Some K.RParen)
    (pick (eqb a (code "=")) (Some K.Equals)
    (pick (eqb a (code ":")) (Some K.Colon)
    (pick (eqb a (code ",")) (Some K.Comma) None))))))))

-- the kind of the mark that a byte is: a newline or a token of one byte
unfoldable pub mark_of : ℕ → Option TokenKind
mark_of a = pick (eqb a (code "\n")) (Some K.Newline) (single_of a)

-- the token of a mark: a newline has no value, any other mark is its own
unfoldable pub mark_lexeme : TokenKind → Lexeme
mark_lexeme k = pick (is_newline k) (bare k 1) (whole k 1)

-- the reason of the one report of a token, at its start, where it is no string of one line
unfoldable pub start_reason : ℕ → List ℕ → Option Reason
start_reason limit s =
    pick (eqb (byte s 0) (code "/")) (Some R.OpenBlockComment)
    (pick (eqb (byte s 0) (code "b")) (stop_reason (bytes_stop limit 0 (drop 2 s))) (pick (quotes s) (Some R.OpenTripleString) None))

-- where a quote stands at the front, the whole is UTF8-octets, as the rest of a well-formed text from a quote on is
abbrev pub FromQuote : List ℕ → Type 0
FromQuote s = byte s 0 ≡ code "\"" → Octets s

-- a place of the text at which a token of the kind starts, which has so many bytes
pub record Ending (text : List ℕ) (start : Place) (kind : TokenKind) (len : ℕ) : Type 0 where
  pub walkable : Walkable text start (start.offset + len)
  pub flat : on_one_line kind ≡ true → Flat (drop start.offset text) len

-- a token that starts at a place, whose numbers can be counted from the text's start
pub record Placing (start : Place) (x : Lexeme) : Type 0 where
  pub value : start.offset + x.value < 0x8000000000000000
  pub precision : start.offset + x.precision < 0x8000000000000000

-- a String that has bytes stands at the front of the list; it takes len bytes of it, under some limit, and stands for size bytes
pub record StringFront (m : Reading) (s : List ℕ) (len size : ℕ) : Type 0 where
  pub some : 0 < length (string_in m s)
  pub counted : length (string_in m s) ≡ size
  pub limit : ℕ
  pub ends : (lexeme_in m limit s).len ≡ len

-- a place of a text that is read, at which a token with reports starts, and room for these
pub record ReportRoom (m : Reading) (limit : ℕ) (text : List ℕ) (start : Place) (room at : ℕ) : Type 0 where
  pub walkable : Walkable text start start.offset
  pub some : 0 < length (notes_in m limit (drop start.offset text))
  pub fits : at + length (notes_numbers text start.offset (notes_in m limit (drop start.offset text))) ≤ room
