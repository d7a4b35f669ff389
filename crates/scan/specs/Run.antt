-- The runs of bytes that lexer.rs knows: each test sees a byte and the one after it.
use Rattle.std.specs.Prelude.{Bool, not, ◌&&◌, ◌||◌, List, ℕ, eqb}
use Prim.Native.Char.{code}
use Rattle.base.specs.Choice.{pick}
use Rattle.base.specs.Bytes.{byte}
use Rattle.base.specs.Classes.{is_digit, is_lower_alpha, is_ident_part, is_space}

-- `lex_timestamp`: a blank, a newline, `,` `]` `}` `)` `#`, or the start of a comment ends a timestamp
unfoldable pub ends_timestamp : ℕ → ℕ → Bool
ends_timestamp a b =
    ((((((is_space a || eqb a (code "\n")) || eqb a (code ",")) || eqb a (code "]")) || eqb a (code "}")) || eqb a (code ")")) || eqb a (code "#"))
    || (eqb a (code "/") && (eqb b (code "/") || eqb b (code "*")))

-- a timestamp
abbrev pub in_stamp : ℕ → ℕ → Bool
in_stamp a b = not (ends_timestamp a b)

-- `skip_spaces`: the blanks between tokens
abbrev pub in_blank : ℕ → ℕ → Bool
in_blank a b = is_space a

-- the bytes to the end of the line
abbrev pub in_line : ℕ → ℕ → Bool
in_line a b = not (eqb a (code "\n"))

-- the body of a block comment
abbrev pub in_body : ℕ → ℕ → Bool
in_body a b = not (eqb a (code "*") && eqb b (code "/"))

-- the bytes of a name
abbrev pub in_name : ℕ → ℕ → Bool
in_name a b = is_ident_part a

-- `lex_duration`: the piece of a duration at the front: a digit, a lower-case letter, a point before a digit; U+00B5. U+03BC is none
unfoldable pub unit_piece : List ℕ → ℕ
unit_piece s =
    pick ((is_digit (byte s 0) || is_lower_alpha (byte s 0)) || (eqb (byte s 0) (code ".") && is_digit (byte s 1))) 1
    (pick (eqb (byte s 0) 0xC2 && eqb (byte s 1) 0xB5) 2 0)
