-- Digits, and the number that a list of digits writes.
use Rattle.std.specs.Prelude.{Bool, List, [], ◌∷◌, ℕ, ◌+◌, ◌-◌, ◌*◌}
use Prim.Native.Char.{code}
use Rattle.base.specs.Classes.{is_digit}

-- a digit, as the test of a run; what follows it does not count
abbrev pub in_digits : ℕ → ℕ → Bool
in_digits a b = is_digit a

-- the number that digits write after w
unfoldable pub value_from : ℕ → List ℕ → ℕ
value_from w [] = w
value_from w (b ∷ bs) = value_from (w * 10 + (b - code "0")) bs

-- the number that digits write: "Missing digits of a whole number count as 0"
abbrev pub value_of : List ℕ → ℕ
value_of l = value_from 0 l
