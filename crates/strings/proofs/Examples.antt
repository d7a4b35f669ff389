-- Document 01's miniature cases on strings, and the corners that the Rust decides, each computed from the definitions: one list, one theorem.
-- Assumes nothing.
use mathlib.Core.Path.{◌≡◌, refl}
use mathlib.Core.List.{List, [], ◌∷◌, ◌++◌, map}
use Prim.Native.Nat.{ℕ}
use Rattle.base.specs.Characters.{ascii}
use Rattle.token.specs.Reason.{reason_number}
use Rattle.token.specs.declared.kind.TokenKind.TheVariants as K
use Rattle.token.specs.declared.reason.Reason.{Reason}
use Rattle.token.specs.declared.reason.Reason.TheVariants as R
use Rattle.lexeme.specs.Lexeme.{Note, extent, illegal_reported, illegal, note_at_start}
use Rattle.lexeme.specs.declared.Lexeme.{Lexeme}
use Rattle.lexeme.specs.declared.Mode.{Mode}
use Rattle.lexeme.specs.declared.Mode.TheVariants.{Strict, Tolerant}
use Rattle.base.specs.Runs.{run, reach, walk, past}
use Rattle.utf8.specs.Grammar.{char_size, utf8_char, valid_to}
use Rattle.utf8.specs.Check.{is_tail, char_end}
use Rattle.utf8.specs.Character.{is_scalar, encode_of}
use Rattle.strings.specs.Piece.{hex_of, oct_of, simple_of, letters, hex_byte, hex_piece, oct_byte, oct_piece, hex_count, hex_value}
use Rattle.strings.specs.Piece.{code_piece, escape_piece, piece_of}
use Rattle.strings.specs.Decode.{step_of, letter_detail, step_notes, decode}
use Rattle.strings.specs.Literal.{well_formed, literal_of, end_reason, literal_reason, end_detail, literal_end}
use Rattle.strings.specs.Literal.{end_notes, literal_notes, lex_string, string_bytes, string_notes}

-- a text and what its literal is
record Example : Type 0 where
  mode : Mode
  text : List ℕ
  token : Lexeme
  bytes : List ℕ
  notes : List Note

abbrev example : Mode → List ℕ → Lexeme → List ℕ → List Note → Example
example m s t bs ns = record { mode = m; text = s; token = t; bytes = bs; notes = ns }

-- the same text with what the definitions make of it
abbrev computed : Example → Example
computed x = example x.mode x.text (lex_string x.mode x.text) (string_bytes x.mode x.text) (string_notes x.mode x.text)

abbrev note : Reason → ℕ → ℕ → Note
note r d o = record { reason = r; detail = d; offset = o }

examples : List Example
examples =
    -- P `"\é"`, strict: Illegal 9, detail 195, 0..4
    example Strict (ascii "\"\\" ++ (0xC3 ∷ 0xA9 ∷ ascii "\"")) (illegal R.UnknownEscape 195 4) [] []
    -- P the quote that is left: Illegal 10 at 4..5
    ∷ example Strict (ascii "\"") (illegal R.OpenString 0 1) [] []
    -- P `"\u12zz"`, tolerant: value `\uzz`, report 7 at column 3
    ∷ example Tolerant (ascii "\"\\u12zz\"") (extent K.String 8 0 4 1)
    (ascii "\\uzz") (note R.BadU 0 2 ∷ [])
    -- `"\é"`, tolerant
    ∷ example Tolerant (ascii "\"\\" ++ (0xC3 ∷ 0xA9 ∷ ascii "\"")) (extent K.String 5 0 3 1) (ascii "\\" ++ (0xC3 ∷ 0xA9 ∷ []))
    (note R.UnknownEscape 195 2 ∷ [])
    -- `"a\`, both modes: the backslash is dropped
    ∷ example Strict (ascii "\"a\\") (illegal R.OpenEscape 0 3) [] []
    ∷ example Tolerant (ascii "\"a\\") (extent K.String 3 0 1 1) (ascii "a") (note_at_start R.OpenEscape ∷ [])
    -- backslash and newline is an unknown escape and goes on; a bare newline ends, and strict reading takes it
    ∷ example Tolerant (ascii "\"\\\na\n") (extent K.String 4 0 3 2) (ascii "\\\na") (note R.UnknownEscape 10 2 ∷ note_at_start R.StringEndedAtNewline ∷ [])
    ∷ example Strict (ascii "\"a\nb") (illegal R.NewlineInString 0 3) [] []
    -- `"\x4"`: no digit is consumed
    ∷ example Strict (ascii "\"\\x4\"") (illegal R.BadX 0 3) [] []
    ∷ example Tolerant (ascii "\"\\x4\"") (extent K.String 5 0 3 1) (ascii "\\x4") (note R.BadX 0 2 ∷ [])
    ∷ example Strict
    (ascii "\"\\x4a\\101\\u00e9\\U0001F600\\n\"")
    (extent K.String 28 0 9 0) (ascii "JA" ++ (0xC3 ∷ 0xA9 ∷ 0xF0 ∷ 0x9F ∷ 0x98 ∷ 0x80 ∷ ascii "\n")) []
    -- `"\ud800"`, tolerant: a bad code point loses all its digits; and `\u` with too few bytes loses none
    ∷ example Tolerant (ascii "\"\\ud800\"") (extent K.String 8 0 2 1) (ascii "\\u") (note R.BadU 0 2 ∷ [])
    ∷ example Tolerant (ascii "\"\\u1\"") (extent K.String 5 0 3 1) (ascii "\\u1") (note R.BadU 0 2 ∷ [])
    -- `"\xff\q`, tolerant: not UTF-8, and its reports stay
    ∷ example Tolerant (ascii "\"\\xff\\q") (illegal_reported R.StringNotUtf8 0 7 2) [] (note R.UnknownEscape 113 6 ∷ note_at_start R.OpenString ∷ [])
    ∷ []

examples_hold : map computed examples ≡ examples
unfolding examples run reach walk past char_size utf8_char valid_to is_tail char_end is_scalar encode_of hex_of oct_of simple_of letters reason_number
    hex_byte hex_piece oct_byte oct_piece hex_count hex_value code_piece escape_piece piece_of step_of letter_detail step_notes decode well_formed
    literal_of end_reason literal_reason end_detail literal_end end_notes literal_notes lex_string string_bytes string_notes
examples_hold = refl
