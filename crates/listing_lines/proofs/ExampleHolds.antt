-- Document 01's example is listed as the paper says, by one computation: every definition from the bytes to the lines is unfolded. Assumes nothing.
use mathlib.Core.Path.{refl}
use lib.Ieee.{mul, div, of_int, to_unsigned}
use Rattle.base.specs.Runs.{run, reach, walk, past}
use Rattle.base.specs.Bytes.{same_bytes}
use Rattle.base.specs.Classes.{is_digit, is_lower_alpha, is_ident_start, is_ident_part, is_duration_unit, is_space}
use Rattle.base.specs.Digits.{value_from}
use Rattle.utf8.specs.Grammar.{utf8_char, char_size, valid_to}
use Rattle.utf8.specs.Check.{check_of}
use Rattle.go_duration.specs.Fraction.{scale_of, product_of, nanos_of, add_digit, read_digits, frac_of, fraction_nanos}
use Rattle.go_duration.specs.Units.{units, unit_of}
use Rattle.go_duration.specs.Parse.{whole_end, has_point, fraction_start, fraction_end, unit_end, whole_of, part_unit, part_fraction}
use Rattle.go_duration.specs.Parse.{digitless, part_of, sum_from, with_sign, unsigned, parse_of}
use Rattle.token.specs.Kind.{kind_number}
use Rattle.token.specs.Place.{place_at}
use Rattle.scan.specs.Run.{unit_piece}
use Rattle.scan.specs.Name.{name_kind, lex_ident}
use Rattle.scan.specs.Number.{lex_precision, past_point, past_sign, past_exponent, past_fraction, at_duration_unit, lex_duration}
use Rattle.scan.specs.Number.{value_end, lex_tail, lex_digits, at_inf, lex_number}
use Rattle.lexer.specs.Lexer.{class_of, class_at, lex_by, lexeme_of}
use Rattle.lexer.specs.Reading.{lexeme_in}
use Rattle.lexer.specs.Token.{start_at, found_at, next_token, string_size}
use Rattle.notation.specs.Decimal.{digits_of}
use Rattle.reading.specs.Tokens.{and_then, tokens_for, tokens_to, tokens}
use Rattle.reading.specs.Buffers.{records_of}
use Rattle.listing_lines.specs.Lines.{line_text, lines_of}
use Rattle.listing_lines.specs.Listing.{printed}
use Rattle.listing_lines.specs.Example.{ExampleListed}

pub example_holds : ExampleListed
unfolding run reach walk past same_bytes is_digit is_lower_alpha is_ident_start is_ident_part is_duration_unit is_space utf8_char char_size valid_to check_of
    scale_of product_of nanos_of add_digit read_digits frac_of fraction_nanos units unit_of value_from whole_end has_point fraction_start fraction_end
    unit_end whole_of part_unit part_fraction digitless part_of sum_from with_sign unsigned parse_of mul div of_int to_unsigned kind_number place_at
    unit_piece name_kind lex_ident lex_precision past_point past_sign past_exponent past_fraction at_duration_unit lex_duration value_end lex_tail
    lex_digits at_inf lex_number class_of class_at lex_by lexeme_of lexeme_in start_at found_at next_token string_size digits_of and_then tokens_for
    tokens_to tokens records_of line_text lines_of printed
example_holds = refl
