-- Helper definitions, for proofs and inner contracts alone: a token's reports as the numbers that are stored.
use Rattle.std.specs.Prelude.{List, [], ◌∷◌, ◌++◌, ℕ, ℤ}
use Rattle.token.specs.Layout.{report_numbers}
use Rattle.lexeme.specs.Lexeme.{Note}
use Rattle.lexeme.specs.Reports.{report_of}

-- the numbers of a token's reports, in order; the token starts at the offset a of the text
unfoldable pub notes_numbers : List ℕ → ℕ → List Note → List ℤ
notes_numbers text a [] = []
notes_numbers text a (n ∷ ns) = report_numbers (report_of text a n) ++ notes_numbers text a ns
