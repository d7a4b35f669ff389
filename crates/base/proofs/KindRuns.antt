-- For runs of bytes of one kind, by the table: what an entry leaves of a kind tells whether the byte is of it, computed over all bytes. Assumes nothing.
use mathlib.Core.Path.{◌≡◌}
use mathlib.Core.Bool.{Bool, true, not}
use Prim.Native.Nat.{ℕ, ◌<◌}
use lib.Bits.{bit_and}
use lib.Dec.{T, eqb}
use Rattle.base.specs.Classes.{is_digit, is_ident_start, is_ident_part, is_duration_unit}
use Rattle.base.specs.Kinds.{kind_of, is_letter, begins_unit}
use Rattle.base.specs.Masks.{is_kind, kind_test}
use Rattle.base.proofs.Tables.{all}
use Rattle.base.proofs.ByteKinds.{agree, tests_agree, by_kind}

abbrev left : ℕ → ℕ → Bool
left n b = not (eqb (bit_and n (kind_of b)) 0)

pub kind_left : (n : ℕ) → is_kind n ≡ true → (b : ℕ) → b < 256 → left n b ≡ kind_test n b
unfolding kind_test is_digit is_letter is_ident_part is_duration_unit begins_unit is_ident_start
kind_left = by_kind (λ n. (b : ℕ) → b < 256 → left n b ≡ kind_test n b) (at 1 tt) (at 2 tt) (at 4 tt) (at 8 tt)
  where
    at : (n : ℕ) → T (all (λ (b : ℕ). agree (left n b) (kind_test n b)) 256) → (b : ℕ) → b < 256 → left n b ≡ kind_test n b
    at n = tests_agree (left n) (kind_test n)
