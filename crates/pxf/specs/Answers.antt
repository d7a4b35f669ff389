-- The six numbers that every function of the C interface sets.
use Rattle.std.specs.Prelude.{List, [], ◌∷◌, ℕ, ℤ, pos}

-- the answer of a call that gives one value: "A number that the call does not give is 0"
abbrev pub one_value : ℕ → List ℤ
one_value n = pos n ∷ pos 0 ∷ pos 0 ∷ pos 0 ∷ pos 0 ∷ pos 0 ∷ []
