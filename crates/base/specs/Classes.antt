-- The classes of bytes that lexer.rs tests for.
use Rattle.std.specs.Prelude.{Bool, ◌||◌, ℕ, eqb}
use Prim.Native.Char.{code}
use Rattle.base.specs.Bytes.{within}

-- `is_digit`: an ASCII digit
unfoldable pub is_digit : ℕ → Bool
is_digit b = within (code "0") (code "9") b

-- `is_lower_alpha`: a lower-case ASCII letter
unfoldable pub is_lower_alpha : ℕ → Bool
is_lower_alpha b = within (code "a") (code "z") b

-- `is_ident_start`: an ASCII letter or `_`
unfoldable pub is_ident_start : ℕ → Bool
is_ident_start b = (within (code "a") (code "z") b || within (code "A") (code "Z") b) || eqb b (code "_")

-- `is_ident_part`: a byte that can go on a name
unfoldable pub is_ident_part : ℕ → Bool
is_ident_part b = (is_ident_start b || is_digit b) || eqb b (code ".")

-- `is_duration_unit`: the first byte of an ASCII unit, one of h m s n u
unfoldable pub is_duration_unit : ℕ → Bool
is_duration_unit b = (((eqb b (code "h") || eqb b (code "m")) || eqb b (code "s")) || eqb b (code "n")) || eqb b (code "u")

-- `skip_spaces`: space, tab, carriage return
unfoldable pub is_space : ℕ → Bool
is_space b = (eqb b (code " ") || eqb b (code "\t")) || eqb b (code "\r")
