-- The miniature cases of the papers hold, all by one computation: every definition from the bytes to the buffers is unfolded. Assumes nothing.
use mathlib.Core.Path.{refl}
use lib.Ieee.{mul, div, of_int, to_unsigned}
use Rattle.base.specs.Runs.{run, reach, walk, past}
use Rattle.base.specs.Bytes.{same_bytes}
use Rattle.base.specs.Classes.{is_digit, is_lower_alpha, is_ident_start, is_ident_part, is_duration_unit, is_space}
use Rattle.base.specs.Digits.{value_from}
use Rattle.utf8.specs.Grammar.{utf8_char, char_size, valid_to}
use Rattle.utf8.specs.Check.{is_tail, char_end}
use Rattle.utf8.specs.Character.{code_bits, code_of, is_scalar, encode_of}
use Rattle.go_duration.specs.Fraction.{scale_of, product_of, nanos_of, add_digit, read_digits, frac_of, fraction_nanos}
use Rattle.go_duration.specs.Units.{units, unit_of}
use Rattle.go_duration.specs.Parse.{whole_end, has_point, fraction_start, fraction_end, unit_end, whole_of, part_unit}
use Rattle.go_duration.specs.Parse.{part_fraction, digitless, part_of, sum_from, with_sign, unsigned, parse_of}
use Rattle.rfc3339.specs.Grammar.{pair_of, is_pair, is_fullyear, is_full_date, is_date_time}
use Rattle.rfc3339.specs.Instant.{date_by}
use Rattle.token.specs.Kind.{kind_number}
use Rattle.token.specs.Reason.{reason_number}
use Rattle.token.specs.Place.{place_at}
use Rattle.lexeme.specs.Reports.{report_of}
use Rattle.scan.specs.Run.{ends_timestamp, unit_piece}
use Rattle.scan.specs.Comment.{lex_line_comment, open_end, body_end, open_comment, lex_block_comment, block_notes}
use Rattle.scan.specs.Name.{name_kind, lex_ident, directive, lex_directive}
use Rattle.scan.specs.Bytes.{bytes_stop, lex_bytes, bytes_notes}
use Rattle.scan.specs.Number.{lex_precision, past_point, past_sign, past_exponent, past_fraction, at_duration_unit, lex_duration}
use Rattle.scan.specs.Number.{value_end, lex_tail, lex_timestamp, lex_digits, at_inf, lex_number}
use Rattle.scan.specs.Other.{lex_other}
use Rattle.strings.specs.Piece.{hex_of, oct_of, simple_of, letters, hex_byte, hex_piece, oct_byte, oct_piece, hex_count, hex_value}
use Rattle.strings.specs.Piece.{code_piece, escape_piece, piece_of}
use Rattle.strings.specs.Decode.{step_of, letter_detail, step_notes, decode}
use Rattle.strings.specs.Literal.{well_formed, literal_of, end_reason, literal_reason, end_detail, literal_end}
use Rattle.strings.specs.Literal.{end_notes, literal_notes, lex_string, string_bytes, string_notes}
use Rattle.lexer.specs.Lexer.{class_of, class_at, lex_by, lexeme_of, string_by, string_of, notes_by, notes_of}
use Rattle.lexer.specs.Reading.{lexeme_in, string_in, notes_in}
use Rattle.lexer.specs.Token.{start_at, found_at, next_token, string_size}
use Rattle.reading.specs.Tokens.{and_then, tokens_for, tokens_to, tokens}
use Rattle.reading.specs.Buffers.{records_of, strings_of, reports_of, record_rows, report_rows}
use Rattle.reading.specs.Miniature.{cases, AsThePaperSays}

pub miniature_holds : AsThePaperSays
unfolding cases run reach walk past same_bytes is_digit is_lower_alpha is_ident_start is_ident_part is_duration_unit is_space utf8_char char_size valid_to
    is_tail char_end code_bits code_of is_scalar encode_of scale_of product_of nanos_of add_digit read_digits frac_of fraction_nanos units unit_of
    value_from whole_end has_point fraction_start fraction_end unit_end whole_of part_unit part_fraction digitless part_of sum_from with_sign unsigned
    parse_of mul div of_int to_unsigned pair_of is_pair is_fullyear is_full_date is_date_time date_by kind_number reason_number place_at report_of
    ends_timestamp unit_piece lex_line_comment open_end body_end open_comment lex_block_comment block_notes name_kind lex_ident directive lex_directive
    bytes_stop lex_bytes bytes_notes lex_precision past_point past_sign past_exponent past_fraction at_duration_unit lex_duration value_end lex_tail
    lex_timestamp lex_digits at_inf lex_number lex_other hex_of oct_of simple_of letters hex_byte hex_piece oct_byte oct_piece hex_count hex_value
    code_piece escape_piece piece_of step_of letter_detail step_notes decode well_formed literal_of end_reason literal_reason end_detail literal_end
    end_notes literal_notes lex_string string_bytes string_notes class_of class_at lex_by lexeme_of string_by string_of notes_by notes_of lexeme_in
    string_in notes_in start_at found_at next_token string_size and_then tokens_for tokens_to tokens records_of strings_of reports_of record_rows
    report_rows
miniature_holds = refl
