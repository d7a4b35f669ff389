-- The token that a string literal is, its decoded bytes and its reports: `lex_string` and `string_token`.
use Rattle.std.specs.Prelude.{Option, Some, None, is_some, Bool, List, [], ◌∷◌, ◌++◌, ℕ, eqb, length, drop}
use Rattle.std.specs.Option.{option_or}
use Rattle.base.specs.Choice.{pick}
use Rattle.utf8.specs.Grammar.{valid_to}
use Rattle.utf8.specs.Check.{char_end}
use Rattle.token.specs.Reason.{is_unknown_escape}
use Rattle.token.specs.declared.kind.TokenKind.TheVariants as K
use Rattle.token.specs.declared.reason.Reason.{Reason}
use Rattle.token.specs.declared.reason.Reason.TheVariants as R
use Rattle.lexeme.specs.Lexeme.{extent, illegal_reported, Note, note_at_start}
use Rattle.lexeme.specs.declared.Lexeme.{Lexeme}
use Rattle.lexeme.specs.declared.Mode.{Mode}
use Rattle.lexeme.specs.declared.Mode.TheVariants.{Strict, Tolerant}
use Rattle.strings.specs.Decode.{Decoded, letter_detail, decode}
use Rattle.strings.specs.declared.literal.End.{End}
use Rattle.strings.specs.declared.literal.End.TheVariants as end

-- Types that other files explain: `TokenKind` in token/specs/Kind.antt; `Reason` in token/specs/Reason.antt; `Lexeme`, `Mode` in
-- lexeme/specs/Lexeme.antt; `End` in Decode.antt.

-- the bytes are UTF-8
unfoldable pub well_formed : List ℕ → Bool
well_formed l = eqb (valid_to l) (length l)

-- the literal at the front of s, decoded from the byte after its opening quote
unfoldable pub literal_of : Mode → List ℕ → Decoded
literal_of m s = decode m 1 0 (drop 1 s)

-- the reason that an ending gives a strict literal: "newline in string", "open escape", "open string", or the bad escape's
unfoldable pub end_reason : End → Option Reason
end_reason end.Closed = None
end_reason end.AtNewline = Some R.NewlineInString
end_reason end.Cut = Some R.OpenEscape
end_reason end.Open = Some R.OpenString
end_reason (end.Bad escape) = Some escape.reason

-- `string_token`: "string not UTF-8", or no reason
abbrev pub bytes_reason : Decoded → Option Reason
bytes_reason d = pick (well_formed d.bytes) None (Some R.StringNotUtf8)

-- the reason that makes a literal Illegal: strict, its ending's before that of its bytes
unfoldable pub literal_reason : Mode → Decoded → Option Reason
literal_reason Strict d = option_or (end_reason d.ending) (bytes_reason d)
literal_reason Tolerant d = bytes_reason d

-- the detail of a bad escape that ends a literal
unfoldable pub end_detail : End → ℕ
end_detail end.Closed = 0
end_detail end.AtNewline = 0
end_detail end.Cut = 0
end_detail end.Open = 0
end_detail (end.Bad escape) = letter_detail escape.reason escape.letter

-- where an ending leaves the token's end: "If the Rust stops inside a character ..; ours ends after that character", which only an unknown escape can
unfoldable pub literal_end : List ℕ → End → ℕ → ℕ
literal_end s end.Closed stop = stop
literal_end s end.AtNewline stop = stop
literal_end s end.Cut stop = stop
literal_end s end.Open stop = stop
literal_end s (end.Bad escape) stop = pick (is_unknown_escape escape.reason) (char_end s stop) stop

-- the tolerant report of an ending, at the token's start: "string ended at newline", "open escape", "open string"
unfoldable pub end_notes : End → List Note
end_notes end.Closed = []
end_notes end.AtNewline = note_at_start R.StringEndedAtNewline ∷ []
end_notes end.Cut = note_at_start R.OpenEscape ∷ []
end_notes end.Open = note_at_start R.OpenString ∷ []
end_notes (end.Bad escape) = []

-- the reports of a literal, in order; a strict one has none
unfoldable pub literal_notes : Mode → Decoded → List Note
literal_notes Strict d = []
literal_notes Tolerant d = d.notes ++ end_notes d.ending

-- a String, or Illegal for its reason; with its reports in either case
abbrev pub token_for : Option Reason → Mode → List ℕ → Decoded → Lexeme
token_for None m s d = extent K.String d.stop 0 (length d.bytes) (length (literal_notes m d))
token_for (Some reason) m s d = illegal_reported reason (end_detail d.ending) (literal_end s d.ending d.stop) (length (literal_notes m d))

abbrev pub literal_token : Mode → List ℕ → Decoded → Lexeme
literal_token m s d = token_for (literal_reason m d) m s d

-- the string literal at the front of s, which begins with a quote
unfoldable pub lex_string : Mode → List ℕ → Lexeme
lex_string m s = literal_token m s (literal_of m s)

-- the bytes that go to the string buffer: a String's value; an Illegal literal has none
unfoldable pub string_bytes : Mode → List ℕ → List ℕ
string_bytes m s = pick (is_some (literal_reason m (literal_of m s))) [] (literal_of m s).bytes

-- its reports
unfoldable pub string_notes : Mode → List ℕ → List Note
string_notes m s = literal_notes m (literal_of m s)
