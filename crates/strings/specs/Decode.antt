-- What a string literal stands for, from the byte after its opening quote to where it stops.
use Rattle.std.specs.Prelude.{Option, Some, None, List, [], ◌∷◌, ◌++◌, ℕ, zero, suc, ◌+◌, ◌-◌}
use Prim.Native.Char.{code}
use Rattle.base.specs.Choice.{pick}
use Rattle.base.specs.Bytes.{byte}
use Rattle.utf8.specs.Character.{octets_of, encoded}
use Rattle.token.specs.Reason.{is_unknown_escape}
use Rattle.token.specs.declared.reason.Reason.{Reason}
use Rattle.lexeme.specs.Lexeme.{Note}
use Rattle.lexeme.specs.declared.Mode.{Mode}
use Rattle.lexeme.specs.declared.Mode.TheVariants.{Strict, Tolerant}
use Rattle.strings.specs.Piece.{piece_of}
use Rattle.strings.specs.declared.piece.Piece.{Piece}
use Rattle.strings.specs.declared.piece.Piece.TheVariants as piece
use Rattle.strings.specs.declared.literal.End.{End}
use Rattle.strings.specs.declared.literal.End.TheVariants as end
use Rattle.strings.specs.declared.literal.Step.{Step}
use Rattle.strings.specs.declared.literal.Step.TheVariants.{Go, Stop}

-- Types of the code (src/literal.rt). `End`, how a literal ends: `Closed`; `AtNewline`; `Cut`, after a backslash at the end of the text; `Open`, at
-- the end of the text; `Bad escape`, at a bad escape. `Step`, what a mode makes of a piece: `Go encoded used reason`, the bytes of `encoded` are
-- decoded from `used` bytes of text, and its reason is reported, where it has one; `Stop end stop`, the literal ends at the offset `stop`.
-- Types that other files explain: `Encoded` in utf8/specs/Character.antt; `Mode` in lexeme/specs/Lexeme.antt; `Piece` in Piece.antt;
-- `Reason` in token/specs/Reason.antt.

-- the decoded bytes, the reports of bad escapes in order, where the literal stops, and how it ends
pub record Decoded : Type 0 where
  pub bytes : List ℕ
  pub notes : List Note
  pub stop : ℕ
  pub ending : End

-- What a mode makes of a piece at an offset. Document 01: "Tolerant strings leave an unescaped newline for the next token"; "A bad escape is
-- reported at its letter and kept as backslash and letter"; "A backslash at the end is dropped"
unfoldable pub step_of : Mode → ℕ → Piece → Step
step_of m at (piece.Bytes e used) = Go e used None
step_of Strict at (piece.Bad escape used) = Stop (end.Bad escape) (at + used)
step_of Tolerant at (piece.Bad escape used) = Go (encoded (code "\\" ∷ escape.letter ∷ [])) used (Some escape.reason)
step_of m at piece.Close = Stop end.Closed (at + 1)
step_of Strict at piece.Newline = Stop end.AtNewline (at + 1)
step_of Tolerant at piece.Newline = Stop end.AtNewline at
step_of m at piece.Cut = Stop end.Cut (at + 1)
step_of m at piece.Open = Stop end.Open at

-- "9 unknown escape (detail: its byte)"
unfoldable pub letter_detail : Reason → ℕ → ℕ
letter_detail reason letter = pick (is_unknown_escape reason) letter 0

-- the report of a bad escape whose backslash stands at the offset
unfoldable pub step_notes : Option Reason → ℕ → ℕ → List Note
step_notes None letter at = []
step_notes (Some reason) letter at = record { reason = reason; detail = letter_detail reason letter; offset = at + 1 } ∷ []

-- what a step gives, before what the rest gives
abbrev pub prepend : List ℕ → List Note → Decoded → Decoded
prepend bs ns d = record { bytes = bs ++ d.bytes; notes = ns ++ d.notes; stop = d.stop; ending = d.ending }

-- a literal that stops at p: nothing is left of it
abbrev pub stopped : End → ℕ → Decoded
stopped e p = record { bytes = []; notes = []; stop = p; ending = e }

-- A step goes on with what f gives after the bytes of it that are left, or ends the literal. A bad escape is "kept as backslash and letter", so the
-- letter that is reported is the second decoded byte.
abbrev pub follow : Step → ℕ → (ℕ → Decoded) → Decoded
follow (Go e used reason) at f = prepend (octets_of e) (step_notes reason (byte e.bytes 1) at) (f (used - 1))
follow (Stop e p) at f = stopped e p

-- The list stands at the offset `at` of the token, and its first k bytes belong to a step that is counted already.
unfoldable pub decode : Mode → ℕ → ℕ → List ℕ → Decoded
decode m at k [] = stopped end.Open at
decode m at (suc k) (x ∷ xs) = decode m (suc at) k xs
decode m at zero (x ∷ xs) = follow (step_of m at (piece_of (x ∷ xs))) at (λ n. decode m (suc at) n xs)
