-- Well-formed UTF-8, as RFC 3629, section 4, writes its grammar: once as rules, once as what a reader computes.
use Rattle.std.specs.Prelude.{Bool, true, false, ◌&&◌, ℕ, ◌≤◌, length}
use mathlib.Core.List.{List, [], ◌∷◌, ◌++◌, Memᴰ}
use Rattle.base.specs.Choice.{pick}
use Rattle.base.specs.Bytes.{within}
use Rattle.base.specs.Runs.{past}

-- a range of octets, %xlo-hi
pub record Range : Type 0 where
  pub lo : ℕ
  pub hi : ℕ

-- the range of two octets
abbrev pub range : ℕ → ℕ → Range
range l h = record { lo = l; hi = h }

-- UTF8-tail = %x80-BF
abbrev pub tail : Range
tail = range 0x80 0xBF

-- UTF8-1 = %x00-7F
abbrev pub utf8_1 : List (List Range)
utf8_1 = (range 0x00 0x7F ∷ []) ∷ []

-- UTF8-2 = %xC2-DF UTF8-tail
abbrev pub utf8_2 : List (List Range)
utf8_2 = (range 0xC2 0xDF ∷ tail ∷ []) ∷ []

-- UTF8-3 = %xE0 %xA0-BF UTF8-tail / %xE1-EC 2( UTF8-tail ) / %xED %x80-9F UTF8-tail / %xEE-EF 2( UTF8-tail )
abbrev pub utf8_3 : List (List Range)
utf8_3 =
    (range 0xE0 0xE0 ∷ range 0xA0 0xBF ∷ tail ∷ [])
    ∷ (range 0xE1 0xEC ∷ tail ∷ tail ∷ [])
    ∷ (range 0xED 0xED ∷ range 0x80 0x9F ∷ tail ∷ [])
    ∷ (range 0xEE 0xEF ∷ tail ∷ tail ∷ [])
    ∷ []

-- UTF8-4 = %xF0 %x90-BF 2( UTF8-tail ) / %xF1-F3 3( UTF8-tail ) / %xF4 %x80-8F 2( UTF8-tail )
abbrev pub utf8_4 : List (List Range)
utf8_4 =
    (range 0xF0 0xF0 ∷ range 0x90 0xBF ∷ tail ∷ tail ∷ [])
    ∷ (range 0xF1 0xF3 ∷ tail ∷ tail ∷ tail ∷ [])
    ∷ (range 0xF4 0xF4 ∷ range 0x80 0x8F ∷ tail ∷ tail ∷ [])
    ∷ []

-- UTF8-char = UTF8-1 / UTF8-2 / UTF8-3 / UTF8-4
unfoldable pub utf8_char : List (List Range)
utf8_char = utf8_1 ++ utf8_2 ++ utf8_3 ++ utf8_4

-- ---- the grammar as rules

-- the octets are one of each range, in order
pub data Matches : List Range → List ℕ → Type 0 where
  done : Matches [] []
  next : {r : Range} {rs : List Range} {b : ℕ} {s : List ℕ} → r.lo ≤ b → b ≤ r.hi → Matches rs s → Matches (r ∷ rs) (b ∷ s)

-- UTF8-char: the octets match an alternative
pub data Char : List ℕ → Type 0 where
  char : {rs : List Range} {c : List ℕ} → Memᴰ rs utf8_char → Matches rs c → Char c

-- UTF8-octets = *( UTF8-char )
pub data Octets : List ℕ → Type 0 where
  none : Octets []
  more : {c s : List ℕ} → Char c → Octets s → Octets (c ++ s)

-- ---- the grammar as a reader computes it

-- the list begins with an octet of each range, in order
abbrev pub begins : List Range → List ℕ → Bool
begins [] s = true
begins (r ∷ rs) [] = false
begins (r ∷ rs) (b ∷ s) = within r.lo r.hi b && begins rs s

-- the length of the first alternative that the list begins with, or 0
abbrev pub first_of : List (List Range) → List ℕ → ℕ
first_of [] s = 0
first_of (rs ∷ rss) s = pick (begins rs s) (length rs) (first_of rss s)

-- the length of the UTF8-char at the front of the list, or 0 where there is none
unfoldable pub char_size : List ℕ → ℕ
unfolding utf8_char
char_size s = first_of utf8_char s

-- the length of the longest prefix that is UTF8-octets and after which no UTF8-char stands
unfoldable pub valid_to : List ℕ → ℕ
valid_to s = past char_size s 0
