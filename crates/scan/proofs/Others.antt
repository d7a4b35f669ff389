-- For the crate above, `lexer`: an unexpected character is within the text and ends between characters. Assumes nothing.
use mathlib.Core.List.{List}
use Prim.Native.Nat.{ℕ, ◌<◌}
use native.Mathlib.Omega.{arith}
use lib.ListN.{length}
use Rattle.token.specs.declared.reason.Reason.TheVariants as R
use Rattle.utf8.specs.Check.{char_end}
use Rattle.utf8.specs.Character.{code_of}
use Rattle.scan.specs.Other.{lex_other}
use Rattle.utf8.proofs.Boundaries.{char_end_ge, char_end_le, char_end_boundary}
use Rattle.utf8.proofs.Codes.{code_small}
use Rattle.scan.proofs.Scanned.{Scanned, illegal_scanned}

pub other_scanned : (s : List ℕ) → 0 < length s → Scanned s (lex_other s)
unfolding lex_other
other_scanned s h =
    illegal_scanned s (char_end s 1)
    (record { some = omega (arith, char_end_ge s 1); inside = char_end_le s 1 h; between = char_end_boundary s 1 h })
    R.UnexpectedCharacter (code_of s) (λ q. cc) (code_small s)
