-- For strings and triple_strings: well-formed texts one after the other, and what is left after one of them; an ASCII byte is one. By the length of the
-- valid prefix. Assumes nothing.
use mathlib.Core.Path.{◌≡◌}
use mathlib.Core.Bool.{false}
use mathlib.Core.List.{List, [], ◌∷◌, ◌++◌}
use Prim.Native.Nat.{ℕ, ◌<◌}
use native.Mathlib.Omega.{arith}
use lib.ListN.{length-append}
use Rattle.base.proofs.Tests.{under}
use Rattle.utf8.specs.Grammar.{Octets, none, more}
use Rattle.utf8.specs.Check.{is_tail}
use Rattle.utf8.proofs.Chars.{ascii_size, char_of_size}
use Rattle.utf8.proofs.Valid.{valid_append, octets_valid, valid_octets}

pub octets_append : {p t : List ℕ} → Octets p → Octets t → Octets (p ++ t)
octets_append {p} {t} o q = valid_octets (p ++ t) (omega (arith, valid_append t o, octets_valid q, length-append p t))

pub octets_rest : {p : List ℕ} (t : List ℕ) → Octets p → Octets (p ++ t) → Octets t
octets_rest {p} t o q = valid_octets t (omega (arith, valid_append t o, octets_valid q, length-append p t))

-- an ASCII byte
pub ascii_no_tail : (a : ℕ) → a < 0x80 → is_tail a ≡ false
unfolding is_tail
ascii_no_tail a h = under 0x80 0xBF a h

pub ascii_octets : (a : ℕ) → a < 0x80 → Octets (a ∷ [])
ascii_octets a h = more (char_of_size (a ∷ []) 0 (ascii_size a [] h)) none

pub ascii_rest : (a : ℕ) (t : List ℕ) → a < 0x80 → Octets (a ∷ t) → Octets t
ascii_rest a t h o = octets_rest t (ascii_octets a h) o
