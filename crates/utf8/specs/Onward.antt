-- Helper definitions, for proofs and inner contracts alone: places between the characters of a text.
use Rattle.std.specs.Prelude.{◌≡◌, List, ℕ, ◌≤◌, ◌<◌, length, drop, Result, Ok, Err}
use Rattle.base.specs.Runs.{past}
use Rattle.utf8.specs.Grammar.{char_size}
use Rattle.utf8.specs.declared.check.Utf8Error.{Utf8Error}

-- r is between the characters from i on or at their end, so that the characters from r on have the same end
pub record Onward (s : List ℕ) (i r : ℕ) : Type 0 where
  pub later : i ≤ r
  pub inside : r ≤ length s
  pub same : past char_size s r ≡ past char_size s i

-- from i on, characters as far as r, at which none stands, before the end
pub record Stops (s : List ℕ) (i r : ℕ) : Type 0 where
  pub onward : Onward s i r
  pub before : r < length s
  pub none : char_size (drop r s) ≡ 0

-- the characters from i on are passed as far as e, or up to where none stands
abbrev pub Passed : List ℕ → ℕ → ℕ → Result ℕ Utf8Error → Type 0
Passed s i e (Ok r) = Onward s i r × (e ≤ r)
Passed s i e (Err x) = Stops s i x.valid_up_to

-- from i on, the text is UTF8-octets to its end
unfoldable pub Boundary : List ℕ → ℕ → Type 0
Boundary s i = past char_size s i ≡ length s
