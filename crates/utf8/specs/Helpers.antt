-- Helper definitions, for proofs and inner contracts alone: bytes that are checked many at a time, and a character with its length.
use Rattle.std.specs.Prelude.{Bool, not, ◌&&◌, ◌||◌, List, ℕ, eqb, ltb, Option, Some, None}
use Rattle.base.specs.Bytes.{within}
use Rattle.base.specs.Choice.{pick}
use Rattle.utf8.specs.Grammar.{char_size}
use Rattle.utf8.specs.Check.{is_tail}
use Rattle.utf8.specs.Character.{code_of}
use Rattle.utf8.specs.declared.character.Character.{Character}

-- Types of the code (src/character.rt). `Character`: a code point, `code`, and how many octets it has, `size`.

-- UTF8-1 = %x00-7F
abbrev pub is_ascii : ℕ → Bool
is_ascii a = ltb a 0x80

-- the same as the test of a run: whatever byte comes after it
abbrev pub in_ascii : ℕ → ℕ → Bool
in_ascii a b = is_ascii a

-- The byte a, with b after it, can stand among characters of one or two bytes. UTF8-2 = %xC2-DF UTF8-tail: after its first byte stands a
-- UTF8-tail; after UTF8-1 = %x00-7F and after a UTF8-tail stands none.
unfoldable pub in_short : ℕ → ℕ → Bool
in_short a b = (within 0xC2 0xDF a && is_tail b) || (ltb a 0xC0 && not (is_tail b))

-- the character at the front of the list: its code point and its length
unfoldable pub decode_of : List ℕ → Option Character
decode_of s = pick (eqb (char_size s) 0) None (Some (record { code = code_of s; size = char_size s }))
