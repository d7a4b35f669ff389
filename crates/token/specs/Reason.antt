-- The reasons of Illegal tokens and of reports: document 01, "Reasons", and document 02, #101.
use Rattle.std.specs.Prelude.{◌≡◌, Bool, ◌||◌, ◌⊎◌, Option, Some, None, ℕ, ◌≤◌, eqb}
use Rattle.base.specs.Choice.{pick}
use Rattle.base.specs.Bytes.{within}
use Rattle.token.specs.Kind.{illegal_number}
use Rattle.token.specs.declared.reason.Reason.{Reason}
use Rattle.token.specs.declared.reason.Reason.TheVariants as R

-- Types of the code (src/reason.rt). `Reason`: the reasons that are numbered here, in this order.

-- no reason: of a token that is not Illegal
abbrev pub none : ℕ
none = 0

-- "1 unexpected character (detail: its code point)"
abbrev pub unexpected_character : ℕ
unexpected_character = 1

-- "2 open block comment"
abbrev pub open_block_comment : ℕ
open_block_comment = 2

-- "3 newline in string"
abbrev pub newline_in_string : ℕ
newline_in_string = 3

-- "4 open escape"
abbrev pub open_escape : ℕ
open_escape = 4

-- "5 bad `\x`"
abbrev pub bad_x : ℕ
bad_x = 5

-- "6 bad octal"
abbrev pub bad_octal : ℕ
bad_octal = 6

-- "7 bad `\u`"
abbrev pub bad_u : ℕ
bad_u = 7

-- "8 bad `\U`"
abbrev pub bad_capital_u : ℕ
bad_capital_u = 8

-- "9 unknown escape (detail: its byte)"
abbrev pub unknown_escape : ℕ
unknown_escape = 9

-- "10 open string"
abbrev pub open_string : ℕ
open_string = 10

-- "11 string not UTF-8"
abbrev pub string_not_utf8 : ℕ
string_not_utf8 = 11

-- "12 open triple string"
abbrev pub open_triple_string : ℕ
open_triple_string = 12

-- "13 bytes over limit"
abbrev pub bytes_over_limit : ℕ
bytes_over_limit = 13

-- "14 open bytes literal"
abbrev pub open_bytes : ℕ
open_bytes = 14

-- "15 `@` without name"
abbrev pub at_without_name : ℕ
at_without_name = 15

-- "16 `+` without `inf`"
abbrev pub plus_without_inf : ℕ
plus_without_inf = 16

-- "17 `-` without digit or `inf`"
abbrev pub minus_without_digit : ℕ
minus_without_digit = 17

-- "18 bad duration"
abbrev pub bad_duration : ℕ
bad_duration = 18

-- "19 string ended at newline"
abbrev pub string_ended_at_newline : ℕ
string_ended_at_newline = 19

-- "20 bytes ended at newline"
abbrev pub bytes_ended_at_newline : ℕ
bytes_ended_at_newline = 20

-- "21", a bad timestamp; document 02, #101: "a bad one is Illegal, reason 21, in both modes, and token files now allow that reason"
abbrev pub bad_timestamp : ℕ
bad_timestamp = 21

-- the number of a reason
unfoldable pub reason_number : Reason → ℕ
reason_number R.UnexpectedCharacter = unexpected_character
reason_number R.OpenBlockComment = open_block_comment
reason_number R.NewlineInString = newline_in_string
reason_number R.OpenEscape = open_escape
reason_number R.BadX = bad_x
reason_number R.BadOctal = bad_octal
reason_number R.BadU = bad_u
reason_number R.BadCapitalU = bad_capital_u
reason_number R.UnknownEscape = unknown_escape
reason_number R.OpenString = open_string
reason_number R.StringNotUtf8 = string_not_utf8
reason_number R.OpenTripleString = open_triple_string
reason_number R.BytesOverLimit = bytes_over_limit
reason_number R.OpenBytes = open_bytes
reason_number R.AtWithoutName = at_without_name
reason_number R.PlusWithoutInf = plus_without_inf
reason_number R.MinusWithoutDigit = minus_without_digit
reason_number R.BadDuration = bad_duration
reason_number R.StringEndedAtNewline = string_ended_at_newline
reason_number R.BytesEndedAtNewline = bytes_ended_at_newline
reason_number R.BadTimestamp = bad_timestamp

-- whether a reason is the one of the name
abbrev pub is_unknown_escape : Reason → Bool
is_unknown_escape r = eqb (reason_number r) unknown_escape

-- the number of a token's reason; "else 0"
abbrev pub number_of : Option Reason → ℕ
number_of None = none
number_of (Some r) = reason_number r

-- the reasons of Illegal tokens: "19 and 20 are reports only"
abbrev pub of_illegal : ℕ → Bool
of_illegal r = within unexpected_character bad_duration r || eqb r bad_timestamp

-- which reason a record has with which kind; document 01: "reason 1 to 18 exactly for kind 1, else 0"; document 02, #101, adds 21 for kind 1
abbrev pub reason_ok : ℕ → ℕ → Bool
reason_ok kind r = pick (eqb kind illegal_number) (of_illegal r) (eqb r none)

-- the same in plain logic
pub record ReasonRule (kind r : ℕ) : Type 0 where
  pub illegal : kind ≡ illegal_number → ((unexpected_character ≤ r) × (r ≤ bad_duration)) ⊎ (r ≡ bad_timestamp)
  pub other : (kind ≡ illegal_number → ⊥) → r ≡ none
