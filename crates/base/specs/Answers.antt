-- What the calls answer: what was asked for, or a refusal.
use Rattle.std.specs.Prelude.{ℕ, Result, Ok, Err}

-- the number of an answer, by the numbers of its refusals: 0 where the call is accepted
abbrev pub answer_number : {T E : Type 0} → (E → ℕ) → Result T E → ℕ
answer_number f (Ok x) = 0
answer_number f (Err e) = f e

-- the count that an answer gives; a refusal gives none
abbrev pub answer_value : {E : Type 0} → Result ℕ E → ℕ
answer_value (Ok n) = n
answer_value (Err e) = 0
