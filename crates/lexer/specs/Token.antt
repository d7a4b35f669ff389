-- The next token from an offset of the text, with its places: document 01, "Places and records".
use Rattle.std.specs.Prelude.{List, ℕ, ◌+◌, eqb, drop}
use Rattle.base.specs.Choice.{pick}
use Rattle.base.specs.Runs.{reach}
use Rattle.token.specs.Kind.{is_string}
use Rattle.token.specs.Place.{place_at}
use Rattle.token.specs.declared.place.Place.{Place}
use Rattle.token.specs.declared.kind.TokenKind.{TokenKind}
use Rattle.lexeme.specs.declared.Lexeme.{Lexeme}
use Rattle.scan.specs.Run.{in_blank}
use Rattle.lexer.specs.Reading.{lexeme_in}
use Rattle.lexer.specs.declared.reading.Reading.{Reading}
use Rattle.lexer.specs.declared.next.Found.{Found}
use Rattle.lexer.specs.declared.next.Token.{Token}

-- Types of the code (src/next.rt). `Found`, a token relative to its start, and where it starts: `start`, `lexeme`. `Token`, a token with its places:
-- as a `Lexeme`, but `start` and `end` are places, and `value` and `precision` offsets of the text.
-- Types that other files explain: `Place` in token/specs/Place.antt; `TokenKind` in token/specs/Kind.antt; `Lexeme` in lexeme/specs/Lexeme.antt;
-- `Reading` in Reading.antt.

-- where the token after an offset starts: past the blanks
unfoldable pub start_at : List ℕ → ℕ → ℕ
start_at text at = reach in_blank text at

-- the token that starts at an offset, relative to it
abbrev pub found_from : Reading → ℕ → List ℕ → ℕ → Found
found_from m limit text i = record { start = i; lexeme = lexeme_in m limit (drop i text) }

-- the token after an offset, relative to its start
unfoldable pub found_at : Reading → ℕ → List ℕ → ℕ → Found
found_at m limit text at = found_from m limit text (start_at text at)

-- where it ends
abbrev pub found_end : Found → ℕ
found_end f = f.start + f.lexeme.len

-- a token between two places, the first of which is at the offset i; a String's value place is put in where its buffer is known
abbrev pub placed : ℕ → Place → Place → Lexeme → Token
placed i start end x =
    record {
      kind = x.kind;
      reason = x.reason;
      detail = x.detail;
      start = start;
      end = end;
      value = i + x.value;
      size = x.size;
      precision = pick (eqb x.digits 0) 0 (i + x.precision);
      digits = x.digits;
      nanos = x.nanos;
      reports = x.reports;
    }

-- a token found in the text, with its places
abbrev pub token_of : List ℕ → Found → Token
token_of text f = placed f.start (place_at text f.start) (place_at text (found_end f)) f.lexeme

-- the token after an offset of the text: `next_token`
unfoldable pub next_token : Reading → ℕ → List ℕ → ℕ → Token
next_token m limit text at = token_of text (found_at m limit text at)

-- how many bytes a token of the kind and value length lays into the string buffer
unfoldable pub string_size : TokenKind → ℕ → ℕ
string_size k n = pick (is_string k) n 0
