-- Numbers as the programs print them.
use Rattle.std.specs.Prelude.{List, [], ◌∷◌, ◌++◌, ℕ, zero, suc, ◌+◌, ◌/◌, ◌%◌, eqb, ℤ, pos, negsuc}
use Prim.Native.Char.{code}
use Rattle.base.specs.Choice.{pick}

-- the last k decimal digits of a number, without zeros in front
unfoldable pub digits_of : ℕ → ℕ → List ℕ
digits_of zero n = []
digits_of (suc k) n = pick (eqb (n / 10) 0) [] (digits_of k (n / 10)) ++ ((code "0" + n % 10) ∷ [])

-- a number in decimal; twenty digits hold any of 64 bits
abbrev pub decimal : ℕ → List ℕ
decimal n = digits_of 20 n

-- a signed number: `-` and its magnitude where it is below 0
abbrev pub number_text : ℤ → List ℕ
number_text (pos n) = decimal n
number_text (negsuc n) = code "-" ∷ decimal (suc n)

-- what follows a number of a line that has so many others after it: a newline where there is none, else a blank
abbrev pub separator : ℕ → ℕ
separator others = pick (eqb others 0) (code "\n") (code " ")
