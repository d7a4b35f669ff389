-- Helper definitions, for proofs and inner contracts alone: what the code reads of a token slice.
use Rattle.std.specs.Prelude.{List, [], ◌∷◌, ◌++◌, ℕ, ℤ, pos, get_or}
use Rattle.listing_lines.specs.Lines.{line_text}

-- the numbers of the line of a record
abbrev pub line_at : List ℤ → List ℤ
line_at T =
    get_or T 3 (pos 0) ∷ get_or T 4 (pos 0) ∷ get_or T 5 (pos 0) ∷ get_or T 6 (pos 0) ∷ get_or T 0 (pos 0) ∷ get_or T 1 (pos 0)
    ∷ get_or T 11 (pos 0) ∷ []

-- the lines of records
unfoldable pub rows_lines : List (List ℤ) → List ℕ
rows_lines [] = []
rows_lines (r ∷ rs) = line_text (line_at r) ++ rows_lines rs
