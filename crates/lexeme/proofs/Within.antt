-- For the lexers of `scan`, `strings` and `triple_strings`: where a byte is left, an answer takes one at least and no more than there are, and its numbers
-- are in bounds. By search. Assumes nothing.
use Prim.Native.Nat.{ℕ, ◌+◌, ◌≤◌, ◌<◌}
use mathlib.Core.List.{List}
use lib.ListN.{length}
use borrow.Author.Rules.{rules}
use lib.IntN.{ℤ}
use Rattle.base.specs.Bytes.{AreBytes}
use Rattle.token.specs.declared.kind.TokenKind.{TokenKind}
use Rattle.token.specs.declared.reason.Reason.{Reason}
use Rattle.lexeme.specs.Lexeme.{extent, illegal_reported, precise, duration}
use Rattle.lexeme.specs.declared.Lexeme.{Lexeme}

pub record Within (s : List ℕ) (r : Lexeme) : Type 0 where
  pub some : 0 < r.len
  pub ends : r.len ≤ length s
  pub value_in : r.value + r.size ≤ r.len
  pub precision_in : r.precision + r.digits ≤ r.len
  pub reports_in : r.reports ≤ r.len
  pub detail_in : AreBytes s → r.detail < 0x200000

-- the makers' answers
pub extent_within : (s : List ℕ) (k : TokenKind) (n : ℕ) → 0 < n → n ≤ length s → (v size reports : ℕ) → v + size ≤ n → reports ≤ n
    → Within s (extent k n v size reports)
extent_within s k n h e v size reports i j = search rules

pub illegal_within : (s : List ℕ) (r : Reason) (d n reports : ℕ) → 0 < n → n ≤ length s → reports ≤ n → (AreBytes s → d < 0x200000)
    → Within s (illegal_reported r d n reports)
illegal_within s r d n reports h e k i = search rules

pub precise_within : (s : List ℕ) (k : TokenKind) (e n : ℕ) → e < n → n ≤ length s → Within s (precise k e n)
precise_within s k e n h i = search rules

pub duration_within : (s : List ℕ) (n : ℕ) (z : ℤ) → 0 < n → n ≤ length s → Within s (duration n z)
duration_within s n z h i = search rules
