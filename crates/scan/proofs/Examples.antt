-- Worked examples as one table, the P cases of document 01 that are no strings among them. antt computes every row. Assumes nothing.
use mathlib.Core.Path.{◌≡◌, refl}
use mathlib.Core.List.{List, [], ◌∷◌, ◌++◌, map}
use Prim.Native.Nat.{ℕ}
use Prim.Native.Char.{code}
use lib.Ieee.{mul, div, of_int, to_unsigned}
use lib.IntN.{pos, negsuc}
use Rattle.base.specs.Characters.{ascii}
use Rattle.base.specs.Runs as runs
use Rattle.base.specs.Bytes.{same_bytes}
use Rattle.base.specs.Classes.{is_digit, is_lower_alpha, is_ident_start, is_ident_part, is_duration_unit, is_space}
use Rattle.base.specs.Digits.{value_from}
use Rattle.token.specs.declared.kind.TokenKind.TheVariants as K
use Rattle.token.specs.declared.reason.Reason.TheVariants as R
use Rattle.lexeme.specs.Lexeme.{extent, whole, illegal, precise, duration, Note, note_at_start}
use Rattle.lexeme.specs.declared.Lexeme.{Lexeme}
use Rattle.lexeme.specs.declared.Mode.{Mode}
use Rattle.lexeme.specs.declared.Mode.TheVariants.{Strict, Tolerant}
use Rattle.utf8.specs.Grammar.{utf8_char, char_size}
use Rattle.utf8.specs.Check.{is_tail, char_end}
use Rattle.utf8.specs.Character.{code_bits, code_of}
use Rattle.go_duration.specs.Fraction.{scale_of, product_of, nanos_of, add_digit, read_digits, frac_of, fraction_nanos}
use Rattle.go_duration.specs.Units.{units, unit_of}
use Rattle.go_duration.specs.Parse.{whole_end, has_point, fraction_start, fraction_end, unit_end, whole_of, part_unit, part_fraction, digitless}
use Rattle.go_duration.specs.Parse.{part_of, sum_from, with_sign, unsigned, parse_of}
use Rattle.rfc3339.specs.Calendar.{is_leap, month_length}
use Rattle.rfc3339.specs.Grammar as grammar
use Rattle.rfc3339.specs.Instant.{date_by}
use Rattle.scan.specs.Run.{ends_timestamp, unit_piece}
use Rattle.scan.specs.Comment.{lex_line_comment, open_end, body_end, open_comment, lex_block_comment, block_notes}
use Rattle.scan.specs.Name.{name_kind, lex_ident, directive, lex_directive}
use Rattle.scan.specs.Bytes.{bytes_stop, lex_bytes, bytes_notes}
use Rattle.scan.specs.Number.{lex_precision, past_point, past_sign, past_exponent, past_fraction, at_duration_unit, lex_duration, value_end}
use Rattle.scan.specs.Number.{lex_tail, lex_timestamp, lex_digits, at_inf, lex_number}
use Rattle.scan.specs.Other.{lex_other}

-- a token and its reports
record Answer : Type 0 where
  token : Lexeme
  notes : List Note

-- what a lexer answers, and what it should
record Case : Type 0 where
  found : Answer
  want : Answer

abbrev told : Lexeme → List Note → Lexeme → List Note → Case
told t n w m = record { found = record { token = t; notes = n }; want = record { token = w; notes = m } }

-- a token that has no reports
abbrev row : Lexeme → Lexeme → Case
row t w = told t [] w []

-- a block comment, and a bytes literal
abbrev block : Mode → List ℕ → Lexeme → List Note → Case
block m s w n = told (lex_block_comment m s) (block_notes m s) w n

abbrev bytes : Mode → ℕ → List ℕ → Lexeme → List Note → Case
bytes m limit s w n = told (lex_bytes m limit s) (bytes_notes m limit s) w n

-- `9223372036854775808ns`
abbrev most : List ℕ
most = ascii "9223372036854775808ns"

abbrev cases : List Case
cases =
    -- P `1.ms`: Float, then Ident
    (row (lex_number (ascii "1.ms")) (whole K.Float 2))
    -- P its rest
    ∷ (row (lex_ident (ascii "ms")) (whole K.Ident 2))
    -- P `1.5ms`
    ∷ (row (lex_number (ascii "1.5ms")) (duration 5 (pos 1500000)))
    -- P `/* a` strict
    ∷ (block Strict (ascii "/* a") (illegal R.OpenBlockComment 0 3) [])
    -- P its rest
    ∷ (row (lex_ident (ascii "a")) (whole K.Ident 1))
    -- P `/* a` tolerant
    ∷ (block Tolerant (ascii "/* a") (extent K.Comment 4 0 4 1) (note_at_start R.OpenBlockComment ∷ []))
    -- P `-9223372036854775808ns`
    ∷ (row (lex_number (code "-" ∷ most)) (duration 22 (negsuc 9223372036854775807)))
    -- P without `-`
    ∷ (row (lex_number most) (illegal R.BadDuration 0 21))
    -- P written twice
    ∷ (row (lex_number (most ++ most)) (illegal R.BadDuration 0 42))
    -- P `b"AAAA"`, limit 3
    ∷ (bytes Strict 3 (ascii "b\"AAAA\"") (extent K.Bytes 7 2 4 0) [])
    -- P limit 2
    ∷ (bytes Strict 2 (ascii "b\"AAAA\"") (illegal R.BytesOverLimit 0 6) [])
    -- limit 2, tolerant
    ∷ (bytes Tolerant 2 (ascii "b\"AAAA\"") (illegal R.BytesOverLimit 0 6) [])
    -- P `2024-`, as document 02, #101, has it
    ∷ (row (lex_number (ascii "2024-")) (illegal R.BadTimestamp 0 5))
    ∷ (row (lex_number (ascii "1970-01-01T00:00:00Z")) (whole K.Timestamp 20))
    -- P `-2024-`: Int, then Illegal 17
    ∷ (row (lex_number (ascii "-2024-")) (whole K.Int 5))
    -- P its rest
    ∷ (row (lex_number (ascii "-")) (illegal R.MinusWithoutDigit 0 1))
    -- P `12p3`
    ∷ (row (lex_number (ascii "12p3")) (precise K.Int 2 4))
    -- P `12p`: Int, then Ident
    ∷ (row (lex_number (ascii "12p")) (whole K.Int 2))
    -- P its rest
    ∷ (row (lex_ident (ascii "p")) (whole K.Ident 1))
    -- `5μs` with U+03BC: Int, Illegal 1, Ident
    ∷ (row (lex_number (ascii "5" ++ (0xCE ∷ 0xBC ∷ ascii "s"))) (whole K.Int 1))
    -- its rest
    ∷ (row (lex_other (0xCE ∷ 0xBC ∷ ascii "s")) (illegal R.UnexpectedCharacter 956 2))
    -- and the rest of that
    ∷ (row (lex_ident (ascii "s")) (whole K.Ident 1))
    -- `5µs` with U+00B5, and a blank
    ∷ (row (lex_number (ascii "5" ++ (0xC2 ∷ 0xB5 ∷ ascii "s "))) (duration 4 (pos 5000)))
    ∷ (row (lex_number (ascii "5min")) (illegal R.BadDuration 0 4))
    ∷ (row (lex_number (ascii "1..2")) (whole K.Float 2))
    ∷ (row (lex_number (ascii "1e")) (whole K.Float 2))
    ∷ (row (lex_number (ascii "1.5e-3p20")) (precise K.Float 6 9))
    ∷ (row (lex_number (ascii "2024-01//")) (illegal R.BadTimestamp 0 7))
    -- `2024-é)`
    ∷ (row (lex_number (ascii "2024-" ++ (0xC3 ∷ 0xA9 ∷ ascii ")"))) (illegal R.BadTimestamp 0 7))
    ∷ (row (lex_number (ascii "+inf")) (whole K.Float 4))
    ∷ (row (lex_number (ascii "-infx")) (illegal R.MinusWithoutDigit 0 1))
    ∷ (row (lex_number (ascii "+1")) (illegal R.PlusWithoutInf 0 1))
    -- a line comment
    ∷ (row (lex_line_comment (ascii "# a\n")) (whole K.Comment 3))
    -- a closed comment
    ∷ (block Strict (ascii "/***/a") (whole K.Comment 5) [])
    -- an open comment that ends in a character, strict
    ∷ (block Strict (ascii "/*" ++ (0xC3 ∷ 0xA9 ∷ [])) (illegal R.OpenBlockComment 0 4) [])
    -- `/*` strict
    ∷ (block Strict (ascii "/*") (illegal R.OpenBlockComment 0 2) [])
    ∷ (row (lex_ident (ascii "null ")) (whole K.Null 4))
    ∷ (row (lex_ident (ascii "a.b_1")) (whole K.Ident 5))
    ∷ (row (lex_directive (ascii "@dataset")) (whole K.AtDataset 8))
    ∷ (row (lex_directive (ascii "@x")) (extent K.AtDirective 2 1 1 0))
    -- `@` alone
    ∷ (row (lex_directive (ascii "@ ")) (illegal R.AtWithoutName 0 1))
    -- an empty literal
    ∷ (bytes Strict 0 (ascii "b\"\"") (extent K.Bytes 3 3 0 0) [])
    -- over the limit inside a character
    ∷ (bytes Strict 0 (ascii "b\"aaa" ++ (0xC3 ∷ 0xA9 ∷ ascii "\"")) (illegal R.BytesOverLimit 0 7) [])
    -- a newline, strict
    ∷ (bytes Strict 9 (ascii "b\"A\n") (illegal R.OpenBytes 0 3) [])
    -- a newline, tolerant
    ∷ (bytes Tolerant 9 (ascii "b\"A\n") (extent K.Bytes 3 2 1 1) (note_at_start R.BytesEndedAtNewline ∷ []))
    -- open, tolerant
    ∷ (bytes Tolerant 9 (ascii "b\"") (extent K.Bytes 2 2 0 1) (note_at_start R.OpenBytes ∷ []))
    -- U+1F600
    ∷ (row (lex_other (0xF0 ∷ 0x9F ∷ 0x98 ∷ 0x80 ∷ [])) (illegal R.UnexpectedCharacter 128512 4))
    ∷ []

worked : map (λ (c : Case). c.found) cases ≡ map (λ (c : Case). c.want) cases
unfolding same_bytes is_digit is_lower_alpha is_ident_start is_ident_part is_duration_unit is_space runs.run runs.reach runs.walk runs.past utf8_char
    char_size is_tail char_end code_bits code_of scale_of product_of nanos_of add_digit read_digits frac_of fraction_nanos units unit_of value_from
    whole_end has_point fraction_start fraction_end unit_end whole_of part_unit part_fraction digitless part_of sum_from with_sign unsigned parse_of mul
    div of_int to_unsigned is_leap month_length grammar.pair_of grammar.is_pair grammar.year_of grammar.is_fullyear grammar.is_full_date grammar.is_t
    grammar.hour_end grammar.is_hour grammar.is_second grammar.has_secfrac grammar.secfrac_end grammar.is_secfrac grammar.is_partial_time
    grammar.is_z grammar.is_date_time date_by ends_timestamp unit_piece lex_line_comment open_end body_end open_comment lex_block_comment
    block_notes name_kind lex_ident directive lex_directive bytes_stop lex_bytes bytes_notes lex_precision past_point past_sign past_exponent
    past_fraction at_duration_unit lex_duration value_end lex_tail lex_timestamp lex_digits at_inf lex_number lex_other
worked = refl
