-- Numbers, timestamps and durations: `lex_number` and what it calls.
use Rattle.std.specs.Prelude.{Bool, not, ◌&&◌, ◌||◌, Option, Some, None, List, ℕ, ℤ, ◌+◌, ltb, eqb, take}
use Prim.Native.Char.{code}
use Rattle.base.specs.Choice.{pick}
use Rattle.base.specs.Bytes.{byte}
use Rattle.base.specs.Classes.{is_digit, is_ident_part, is_duration_unit}
use Rattle.base.specs.Digits.{in_digits}
use Rattle.base.specs.Runs.{reach, past}
use Rattle.go_duration.specs.Parse.{parse_of}
use Rattle.rfc3339.specs.Instant.{date_of}
use Rattle.rfc3339.specs.declared.parse.Instant.{Instant}
use Rattle.token.specs.declared.kind.TokenKind.{TokenKind}
use Rattle.token.specs.declared.kind.TokenKind.TheVariants as K
use Rattle.token.specs.declared.reason.Reason.TheVariants as R
use Rattle.lexeme.specs.Lexeme.{whole, illegal, precise, duration}
use Rattle.lexeme.specs.declared.Lexeme.{Lexeme}
use Rattle.scan.specs.Run.{in_stamp, unit_piece}

-- Types that other files explain: `Instant` in rfc3339/specs/Instant.antt; `TokenKind` in
-- token/specs/Kind.antt; `Lexeme` in lexeme/specs/Lexeme.antt.

-- `lex_precision`: a number that ends at e; its precision is `p` and one or more digits, or nothing
unfoldable pub lex_precision : TokenKind → List ℕ → ℕ → Lexeme
lex_precision k s e =
    pick (eqb (byte s e) (code "p") && is_digit (byte s (e + 1))) (precise k e (reach in_digits s (e + 1))) (whole k e)

-- past a point and digits or none
unfoldable pub past_point : List ℕ → ℕ → ℕ
past_point s i = pick (eqb (byte s i) (code ".")) (reach in_digits s (i + 1)) i

-- a sign
abbrev pub is_sign : ℕ → Bool
is_sign a = eqb a (code "+") || eqb a (code "-")

-- the letter before an exponent
abbrev pub is_exponent : ℕ → Bool
is_exponent a = eqb a (code "e") || eqb a (code "E")

-- past a sign or nothing
unfoldable pub past_sign : List ℕ → ℕ → ℕ
past_sign s i = pick (is_sign (byte s i)) (i + 1) i

-- past `e` or `E`, a sign or none, and digits or none
unfoldable pub past_exponent : List ℕ → ℕ → ℕ
past_exponent s i = pick (is_exponent (byte s i)) (reach in_digits s (past_sign s (i + 1))) i

-- past a point and at least one digit, or nothing
unfoldable pub past_fraction : List ℕ → ℕ → ℕ
past_fraction s i = pick (eqb (byte s i) (code ".") && is_digit (byte s (i + 1))) (reach in_digits s (i + 1)) i

-- `at_duration_unit`: the first byte of a unit, or U+00B5
unfoldable pub at_duration_unit : ℕ → ℕ → Bool
at_duration_unit a b = is_duration_unit a || (eqb a 0xC2 && eqb b 0xB5)

-- a duration of n bytes where `go_duration::parse` accepts it, else "18 bad duration"
abbrev pub duration_by : Option ℤ → ℕ → Lexeme
duration_by (Some z) n = duration n z
duration_by None n = illegal R.BadDuration 0 n

-- `lex_duration`, the units from f on
unfoldable pub lex_duration : List ℕ → ℕ → Lexeme
lex_duration s f = duration_by (parse_of (take (past unit_piece s f) s)) (past unit_piece s f)

-- what goes on after the digits as a float
abbrev pub goes_on_float : ℕ → Bool
goes_on_float a = (eqb a (code ".") || eqb a (code "e")) || eqb a (code "E")

-- the kind of a number: `lex_float` or an Int
abbrev pub number_kind : Bool → TokenKind
number_kind float = pick float K.Float K.Int

-- where its value ends, its digits and fraction ending at f
unfoldable pub value_end : List ℕ → ℕ → Bool → ℕ
value_end s f float = pick float (past_exponent s (past_point s f)) f

-- a number whose digits end at n and whose fraction ends at f
unfoldable pub lex_tail : List ℕ → ℕ → ℕ → Lexeme
lex_tail s n f =
    let float = ltb n f || goes_on_float (byte s f) in
    pick (at_duration_unit (byte s f) (byte s (f + 1))) (lex_duration s f) (lex_precision (number_kind float) s (value_end s f float))

-- a run of n bytes that `rfc3339::parse` takes is a Timestamp; document 02, #101: "a bad one is Illegal, reason 21, in both modes"
abbrev pub timestamp_by : Option Instant → ℕ → Lexeme
timestamp_by (Some i) n = whole K.Timestamp n
timestamp_by None n = illegal R.BadTimestamp 0 n

-- `lex_timestamp`, the first digits ending at n: the run is judged by itself
unfoldable pub lex_timestamp : List ℕ → ℕ → Lexeme
lex_timestamp s n = let e = reach in_stamp s n in timestamp_by (date_of (take e s)) e

-- the digits from i on, and what follows them; document 01: "An unsigned run of exactly four digits before `-` starts a timestamp run"
unfoldable pub lex_digits : List ℕ → ℕ → Lexeme
lex_digits s i =
    let n = reach in_digits s i in
    pick ((eqb i 0 && eqb n 4) && eqb (byte s n) (code "-")) (lex_timestamp s n) (lex_tail s n (past_fraction s n))

-- `inf` after a sign, where no name byte follows
unfoldable pub at_inf : List ℕ → Bool
at_inf s = ((eqb (byte s 1) (code "i") && eqb (byte s 2) (code "n")) && eqb (byte s 3) (code "f")) && not (is_ident_part (byte s 4))

-- `lex_number`: "16 `+` without `inf`; 17 `-` without digit or `inf`"
unfoldable pub lex_number : List ℕ → Lexeme
lex_number s =
    pick (is_sign (byte s 0) && at_inf s) (whole K.Float 4)
    (pick (eqb (byte s 0) (code "+")) (illegal R.PlusWithoutInf 0 1)
    (pick (eqb (byte s 0) (code "-") && not (is_digit (byte s 1))) (illegal R.MinusWithoutDigit 0 1)
    (lex_digits s (pick (eqb (byte s 0) (code "-")) 1 0))))
