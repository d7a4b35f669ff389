-- Worked examples, computed: the texts of RFC 3629, sections 7 and 10, with the length of their valid prefix.
use mathlib.Core.Path.{◌≡◌, refl}
use mathlib.Core.List.{List, [], ◌∷◌, map}
use Prim.Native.Nat.{ℕ}
use Rattle.base.specs.Runs.{walk, past}
use Rattle.utf8.specs.Grammar.{char_size, valid_to}

pub record Case : Type 0 where
  pub text : List ℕ
  pub valid : ℕ

abbrev case : ℕ → List ℕ → Case
case n s = record { text = s; valid = n }

pub cases : List Case
cases =
    -- "A<NOT IDENTICAL TO><ALPHA>."
    case 7 (0x41 ∷ 0xE2 ∷ 0x89 ∷ 0xA2 ∷ 0xCE ∷ 0x91 ∷ 0x2E ∷ [])
    -- the Korean "hangugeo"
    ∷ case 9 (0xED ∷ 0x95 ∷ 0x9C ∷ 0xEA ∷ 0xB5 ∷ 0xAD ∷ 0xEC ∷ 0x96 ∷ 0xB4 ∷ [])
    -- the Japanese "nihongo"
    ∷ case 9 (0xE6 ∷ 0x97 ∷ 0xA5 ∷ 0xE6 ∷ 0x9C ∷ 0xAC ∷ 0xE8 ∷ 0xAA ∷ 0x9E ∷ [])
    -- U+233B4 after a byte order mark
    ∷ case 7 (0xEF ∷ 0xBB ∷ 0xBF ∷ 0xF0 ∷ 0xA3 ∷ 0x8E ∷ 0xB4 ∷ [])
    -- the same cut short
    ∷ case 3 (0xEF ∷ 0xBB ∷ 0xBF ∷ 0xF0 ∷ 0xA3 ∷ 0x8E ∷ [])
    -- an overlong NUL
    ∷ case 0 (0xC0 ∷ 0x80 ∷ [])
    -- "/../" with an overlong point
    ∷ case 1 (0x2F ∷ 0xC0 ∷ 0xAE ∷ 0x2E ∷ 0x2F ∷ [])
    -- a pair of surrogates
    ∷ case 0 (0xED ∷ 0xA1 ∷ 0x8C ∷ 0xED ∷ 0xBE ∷ 0xB4 ∷ [])
    -- a value above 0x10FFFF
    ∷ case 1 (0x41 ∷ 0xF4 ∷ 0x90 ∷ 0x80 ∷ 0x80 ∷ [])
    ∷ []

pub rfc_3629 : map (λ (c : Case). valid_to c.text) cases ≡ map (λ (c : Case). c.valid) cases
unfolding cases valid_to past walk char_size
rfc_3629 = refl
