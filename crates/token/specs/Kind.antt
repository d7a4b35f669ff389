-- The numbers of the kinds of tokens.
use Rattle.std.specs.Prelude.{Bool, ℕ, eqb}
use Rattle.token.specs.declared.kind.TokenKind.{TokenKind}
use Rattle.token.specs.declared.kind.TokenKind.TheVariants as K

-- Types of the code (src/kind.rt). `TokenKind`: the kinds of token.rs, in its order.

-- the numbers of the kinds that are asked for by name
abbrev pub eof_number : ℕ
eof_number = 0

abbrev pub illegal_number : ℕ
illegal_number = 1

abbrev pub newline_number : ℕ
newline_number = 2

abbrev pub comment_number : ℕ
comment_number = 3

abbrev pub string_number : ℕ
string_number = 5

abbrev pub bytes_number : ℕ
bytes_number = 10

abbrev pub timestamp_number : ℕ
timestamp_number = 11

abbrev pub duration_number : ℕ
duration_number = 12

-- and the last number
abbrev pub last_number : ℕ
last_number = 25

-- document 01: "Kind numbers follow `TokenKind` from Eof 0 to AtProto 25"
unfoldable pub kind_number : TokenKind → ℕ
kind_number K.Eof = eof_number
kind_number K.Illegal = illegal_number
kind_number K.Newline = newline_number
kind_number K.Comment = comment_number
kind_number K.Ident = 4
kind_number K.String = string_number
kind_number K.Int = 6
kind_number K.Float = 7
kind_number K.Bool = 8
kind_number K.Null = 9
kind_number K.Bytes = bytes_number
kind_number K.Timestamp = timestamp_number
kind_number K.Duration = duration_number
kind_number K.LBrace = 13
kind_number K.RBrace = 14
kind_number K.LBracket = 15
kind_number K.RBracket = 16
kind_number K.LParen = 17
kind_number K.RParen = 18
kind_number K.Equals = 19
kind_number K.Colon = 20
kind_number K.Comma = 21
kind_number K.AtType = 22
kind_number K.AtDirective = 23
kind_number K.AtDataset = 24
kind_number K.AtProto = last_number

-- whether a kind is the one of the name
abbrev pub is_eof : TokenKind → Bool
is_eof k = eqb (kind_number k) eof_number

abbrev pub is_string : TokenKind → Bool
is_string k = eqb (kind_number k) string_number
