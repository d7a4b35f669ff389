-- For `char_size` and `lead`: the size of the character at the front, by what its first byte wants after it. Assumes nothing.
use mathlib.Core.Path.{◌≡◌, sym, ◌∙◌}
use mathlib.Core.Bool.{Bool, false, not}
use mathlib.Core.List.{List, ◌∷◌}
use Prim.Native.Nat.{ℕ, ◌≤◌}
use native.Mathlib.Omega.{arith}
use borrow.Author.Tests.{not-false}
use lib.ListN.{length}
use Rattle.std.specs.Prelude.{None}
use Rattle.base.specs.Helpers.{nonzero}
use Rattle.base.specs.Bytes.{within}
use Rattle.base.proofs.Tests.{within_low, within_high}
use Rattle.utf8.specs.Grammar.{char_size}
use Rattle.utf8.specs.State.{lead_of, size_after}
use Rattle.utf8.specs.declared.state.State.{State}
use Rattle.utf8.proofs.Chars.{size_le}
use Rattle.utf8.proofs.Leads.{lead_size, lead_tails, lead_ascii, lead_ill}
use Rattle.base.proofs.Nonzero.{zero_none}

-- an octet that can be the first of several
module _ (a : ℕ) (x : Bool) (e : x ≡ within 0xC2 0xF4 a) (f : not x ≡ false) where
  pub first_low : 0xC2 ≤ a
  first_low = within_low 0xC2 0xF4 a (sym e ∙ not-false x f)

  pub first_high : a ≤ 0xF4
  first_high = within_high 0xC2 0xF4 a (sym e ∙ not-false x f)

pub size_none : (s : List ℕ) → length s ≡ 0 → None ≡ nonzero (char_size s)
size_none s e = zero_none (char_size s) (omega (arith, size_le s))

-- by what the first byte wants after it
pub size_by : (s : List ℕ) (a : ℕ) (rest : List ℕ) (t : State) → s ≡ a ∷ rest → t ≡ lead_of a → char_size s ≡ size_after t rest
size_by s a rest t e f = rw (e, f) (lead_size a rest)

-- what `char_size` needs at its call and for an empty slice
pub ruleset sizing = (size_none, lead_tails)

-- what `lead` needs where no character of several begins
pub ruleset leading = (lead_ascii, lead_ill)
