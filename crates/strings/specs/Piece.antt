-- One step of a string literal: a byte, an escape, or what ends it. From `lex_string`, `read_hex_byte`, `read_oct_rest`, `read_hex_rune`.
use Rattle.std.specs.Prelude.{Option, Some, None, is_some, unwrap_or, option_and_then, option_map, List, [], ◌∷◌, ℕ, zero, suc, ◌+◌, ◌-◌, ◌*◌}
use Rattle.std.specs.Prelude.{ltb, eqb, length, drop}
use Prim.Native.Char.{code}
use Rattle.base.specs.Choice.{pick}
use Rattle.base.specs.Bytes.{byte, within}
use Rattle.utf8.specs.Character.{encoded, is_scalar, encode_of}
use Rattle.token.specs.declared.reason.Reason.{Reason}
use Rattle.token.specs.declared.reason.Reason.TheVariants as R
use Rattle.strings.specs.declared.piece.BadEscape.{BadEscape}
use Rattle.strings.specs.declared.piece.Piece.{Piece}
use Rattle.strings.specs.declared.piece.Piece.TheVariants as piece

-- Types of the code (src/piece.rt). `Piece`, what stands at the front of the rest of a literal: `Bytes encoded used`, `used` bytes of text that stand
-- for those of `encoded`; `Bad escape used`, a bad escape of `used` bytes of text; `Close`, the closing quote; `Newline`, one that is not
-- escaped; `Cut`, a backslash with nothing after it; `Open`, nothing.
-- Types that other files explain: `Encoded` in utf8/specs/Character.antt; `Reason` in token/specs/Reason.antt.

-- `hex_val`: a hexadecimal digit's value
unfoldable pub hex_of : ℕ → Option ℕ
hex_of c =
    pick (within (code "0") (code "9") c) (Some (c - code "0"))
    (pick (within (code "A") (code "F") c) (Some (c - (code "A" - 10)))
    (pick (within (code "a") (code "f") c) (Some (c - (code "a" - 10))) None))

-- `oct_val`: an octal digit's value
unfoldable pub oct_of : ℕ → Option ℕ
oct_of c = pick (within (code "0") (code "7") c) (Some (c - code "0")) None

-- what a list of pairs gives for e: the second of the first pair that begins with it
abbrev pub look : List (ℕ × ℕ) → ℕ → Option ℕ
look [] e = None
look (p ∷ ps) e = pick (eqb e p.0) (Some p.1) (look ps e)

-- the escapes of one letter: the letter and the byte that it stands for
unfoldable pub letters : List (ℕ × ℕ)
letters =
    (code "\"", code "\"") ∷ (code "\\", code "\\") ∷ (code "'", code "'") ∷ (code "?", code "?")
    ∷ (code "a", 0x07) ∷ (code "b", 0x08) ∷ (code "f", 0x0C) ∷ (code "n", code "\n")
    ∷ (code "r", code "\r") ∷ (code "t", code "\t") ∷ (code "v", 0x0B) ∷ []

-- the byte that a letter stands for
unfoldable pub simple_of : ℕ → Option ℕ
unfolding letters
simple_of e = look letters e

-- at most four bytes from a list, with how many bytes of text they stand for
abbrev pub bytes_piece : List ℕ → ℕ → Piece
bytes_piece l used = piece.Bytes (encoded l) used

-- why an escape is bad, and its letter
abbrev pub bad_escape : Reason → ℕ → BadEscape
bad_escape reason letter = record { reason = reason; letter = letter }

-- an escape of four bytes of text: the byte that it spells, or a bad escape
abbrev pub byte_piece : BadEscape → Option ℕ → Piece
byte_piece escape None = piece.Bad escape 2
byte_piece escape (Some b) = bytes_piece (b ∷ []) 4

-- two hexadecimal digits, by `read_hex_byte`, the list standing at the backslash. Past the end `byte` gives 0, which is no digit
unfoldable pub hex_byte : List ℕ → Option ℕ
hex_byte l = option_and_then (λ h. option_map (λ d. h * 16 + d) (hex_of (byte l 3))) (hex_of (byte l 2))

-- `\x` and two digits
unfoldable pub hex_piece : List ℕ → Piece
hex_piece l = byte_piece (bad_escape R.BadX (code "x")) (hex_byte l)

-- a digit from 0 to 3 and two octal digits, by `read_oct_rest`
unfoldable pub oct_byte : ℕ → List ℕ → Option ℕ
oct_byte first l = option_and_then (λ h. option_map (λ d. (first - code "0") * 64 + h * 8 + d) (oct_of (byte l 3))) (oct_of (byte l 2))

-- the same with its backslash
unfoldable pub oct_piece : ℕ → List ℕ → Piece
oct_piece first l = byte_piece (bad_escape R.BadOctal first) (oct_byte first l)

-- how many of the first n bytes are digits before the first that is none
unfoldable pub hex_count : ℕ → List ℕ → ℕ
hex_count zero l = 0
hex_count (suc n) [] = 0
hex_count (suc n) (x ∷ l) = pick (is_some (hex_of x)) (suc (hex_count n l)) 0

-- the number that n digits spell after the number r
unfoldable pub hex_value : ℕ → ℕ → List ℕ → ℕ
hex_value zero r l = r
hex_value (suc n) r [] = r
hex_value (suc n) r (x ∷ l) = hex_value n (r * 16 + unwrap_or (hex_of x) 0) l

-- `\u` or `\U` with n digits, by `read_hex_rune`, l being the text after the letter. Document 01: "good digits already consumed are lost, unless too
-- few bytes remain: then none is consumed"
unfoldable pub code_piece : ℕ → BadEscape → List ℕ → Piece
code_piece n escape l =
    pick (ltb (length l) n) (piece.Bad escape 2)
    (pick (ltb (hex_count n l) n) (piece.Bad escape (hex_count n l + 2))
    (pick (is_scalar (hex_value n 0 l)) (bytes_piece (encode_of (hex_value n 0 l)) (n + 2)) (piece.Bad escape (n + 2))))

-- an escape whose letter stands for a byte, or for none
abbrev pub letter_piece : Option ℕ → List ℕ → Piece
letter_piece (Some b) l = bytes_piece (b ∷ []) 2
letter_piece None l =
    pick (eqb (byte l 1) (code "x")) (hex_piece l)
    (pick (eqb (byte l 1) (code "u")) (code_piece 4 (bad_escape R.BadU (code "u")) (drop 2 l))
    (pick (eqb (byte l 1) (code "U")) (code_piece 8 (bad_escape R.BadCapitalU (code "U")) (drop 2 l))
    (pick (within (code "0") (code "3") (byte l 1)) (oct_piece (byte l 1) l) (piece.Bad (bad_escape R.UnknownEscape (byte l 1)) 2))))

-- a backslash and one byte more; any other letter is an "unknown escape"
unfoldable pub escape_piece : List ℕ → Piece
escape_piece l = letter_piece (simple_of (byte l 1)) l

-- what stands at the front of the rest of a literal, by the loop of `lex_string`
unfoldable pub piece_of : List ℕ → Piece
piece_of [] = piece.Open
piece_of (c ∷ l) =
    pick (eqb c (code "\"")) piece.Close
    (pick (eqb c (code "\n")) piece.Newline
    (pick (eqb c (code "\\")) (pick (eqb (length l) 0) piece.Cut (escape_piece (c ∷ l))) (bytes_piece (c ∷ []) 1)))
