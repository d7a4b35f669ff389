-- Bytes literals: `lex_bytes`.
use Rattle.std.specs.Prelude.{List, [], ◌∷◌, ℕ, ◌+◌, ◌*◌, ◌/◌, ltb, eqb, drop}
use Prim.Native.Char.{code}
use Rattle.base.specs.Choice.{pick}
use Rattle.utf8.specs.Check.{char_end}
use Rattle.token.specs.declared.kind.TokenKind.TheVariants as K
use Rattle.token.specs.declared.reason.Reason.TheVariants as R
use Rattle.lexeme.specs.Lexeme.{extent, illegal, Note, note_at_start}
use Rattle.lexeme.specs.declared.Lexeme.{Lexeme}
use Rattle.lexeme.specs.declared.Mode.{Mode}
use Rattle.lexeme.specs.declared.Mode.TheVariants.{Strict, Tolerant}
use Rattle.scan.specs.declared.bytes.Stop.{Stop}
use Rattle.scan.specs.declared.bytes.Stop.TheVariants as stop

-- Types of the code (src/bytes.rt). `Stop`, where a bytes literal stops, n bytes after its opening quote: `Over n`, the limit is passed; `Closed n`,
-- the closing quote; `Newline n`; `Open n`, the end of the text.
-- Types that other files explain: `TokenKind` in token/specs/Kind.antt; `Lexeme`, `Mode` in lexeme/specs/Lexeme.antt.

-- document 01: "before each byte, the closing quote included, floor(n ÷ 4) × 3 above the limit, n being the bytes since the opening quote, is
-- reason 13"; so n bytes on, the literal stops over the limit, at its closing quote, at a newline, or open at the end of the text
unfoldable pub bytes_stop : ℕ → ℕ → List ℕ → Stop
bytes_stop limit n [] = stop.Open n
bytes_stop limit n (b ∷ s) =
    pick (ltb limit (n / 4 * 3)) (stop.Over n)
    (pick (eqb b (code "\"")) (stop.Closed n) (pick (eqb b (code "\n")) (stop.Newline n) (bytes_stop limit (n + 1) s)))

-- "a Bytes value is the run between its quotes"; an empty one has its place at the token's end
abbrev pub bytes_value : ℕ → ℕ → ℕ → Lexeme
bytes_value len n reports = extent K.Bytes len (pick (eqb n 0) len 2) n reports

-- "14 open bytes literal", n bytes between its quote and its end; the tolerant reader takes them as the value and reports it
abbrev pub open_bytes_literal : Mode → ℕ → Lexeme
open_bytes_literal Strict n = illegal R.OpenBytes 0 (n + 2)
open_bytes_literal Tolerant n = bytes_value (n + 2) n 1

-- the literal by where it stops: "13 bytes over limit", closed, or open
abbrev pub bytes_by : Mode → List ℕ → Stop → Lexeme
bytes_by m s (stop.Over n) = illegal R.BytesOverLimit 0 (char_end s (n + 2))
bytes_by m s (stop.Closed n) = bytes_value (n + 3) n 0
bytes_by m s (stop.Newline n) = open_bytes_literal m n
bytes_by m s (stop.Open n) = open_bytes_literal m n

-- `lex_bytes`: the literal at the front of s, which begins with `b"`
unfoldable pub lex_bytes : Mode → ℕ → List ℕ → Lexeme
lex_bytes m limit s = bytes_by m s (bytes_stop limit 0 (drop 2 s))

-- what the tolerant reader reports of it, at its start: that it ended at a newline, or that it is open
abbrev pub stop_notes : Mode → Stop → List Note
stop_notes Strict e = []
stop_notes Tolerant (stop.Over n) = []
stop_notes Tolerant (stop.Closed n) = []
stop_notes Tolerant (stop.Newline n) = note_at_start R.BytesEndedAtNewline ∷ []
stop_notes Tolerant (stop.Open n) = note_at_start R.OpenBytes ∷ []

-- the reports of the literal at the front of s
unfoldable pub bytes_notes : Mode → ℕ → List ℕ → List Note
bytes_notes m limit s = stop_notes m (bytes_stop limit 0 (drop 2 s))
