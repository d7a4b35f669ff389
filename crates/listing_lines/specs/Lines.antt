-- The lines that a listing has: document 01, "The program `listing`".
use Rattle.std.specs.Prelude.{List, [], ◌∷◌, ◌++◌, ℕ, ℤ, pos, length}
use Rattle.base.specs.Characters.{ascii}
use Rattle.notation.specs.Decimal.{number_text, separator}
use Rattle.token.specs.declared.layout.Record.{Record}

-- Types that other files explain: `Record` in token/specs/Layout.antt.

-- numbers in decimal as one line
unfoldable pub line_text : List ℤ → List ℕ
line_text [] = []
line_text (z ∷ zs) = number_text z ++ (separator (length zs) ∷ line_text zs)

-- "It prints start, end, line, column, kind, reason, nanoseconds"
abbrev pub line_numbers : Record → List ℤ
line_numbers r =
    pos r.start ∷ pos r.end ∷ pos r.line ∷ pos r.column ∷ pos r.kind ∷ pos r.reason ∷ r.nanos ∷ []

-- "one token a line without a header"
unfoldable pub lines_of : List Record → List ℕ
lines_of [] = []
lines_of (r ∷ rs) = line_text (line_numbers r) ++ lines_of rs

-- "`refused` and the number", with a blank between
abbrev pub refused_line : ℕ → List ℕ
refused_line n = ascii "refused " ++ line_text (pos n ∷ [])
