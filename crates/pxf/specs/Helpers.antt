-- Helper definitions, for proofs and inner contracts alone: the numbers of an answer, and numbers that fit one.
use Rattle.std.specs.Prelude.{List, [], ◌∷◌, ℕ, ◌<◌, get_or}
use Rattle.lexer.specs.declared.reading.Settings.{Settings}
use Rattle.pxf.specs.Texts.{reading_of}

-- Types of the code (lexer/src/reading.rt). `Settings`: the `mode` and the `limit` of a reading.

-- how C asks that a text is read, by the two numbers that it hands over
abbrev pub settings_of : ℕ → ℕ → Settings
settings_of mode limit = record { mode = reading_of mode; limit = limit }

-- the first six of some numbers, with zeros where there are fewer
abbrev pub padded : List ℕ → List ℕ
padded vs = get_or vs 0 0 ∷ get_or vs 1 0 ∷ get_or vs 2 0 ∷ get_or vs 3 0 ∷ get_or vs 4 0 ∷ get_or vs 5 0 ∷ []

-- the values of a call that gives one number, and of a refusal that gives none
abbrev pub one_of : ℕ → List ℕ
one_of n = n ∷ []

abbrev pub no_values : {E : Type 0} → E → List ℕ
no_values e = []

-- a signed 64-bit number can hold each
abbrev pub Fit63 : List ℕ → Type 0
Fit63 [] = Unit {0}
Fit63 (v ∷ vs) = (v < 0x8000000000000000) × Fit63 vs
