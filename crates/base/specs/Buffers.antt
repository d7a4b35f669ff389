-- What a lent buffer holds after a call.
use Rattle.std.specs.Prelude.{List, ◌++◌, ℕ, eqb, length, drop}
use Rattle.base.specs.Choice.{pick}

-- the values from the buffer's start, and past them the rest as it was
abbrev pub overlay {ℓ} : {A : Type ℓ} → List A → List A → List A
overlay xs buf = xs ++ drop (length xs) buf

-- a buffer after an answer of this number: "A refused call writes nothing to any buffer"; "An accepted call leaves the rest of a buffer, past its
-- result, untouched"
abbrev pub after {ℓ} : {A : Type ℓ} → ℕ → List A → List A → List A
after number xs buf = pick (eqb number 0) (overlay xs buf) buf
