-- A text with the places of its offsets written out by hand: lines and columns, which the reader and demand 3 share.
use Rattle.std.specs.Prelude.{◌≡◌, refl, List, [], ◌∷◌, ◌++◌, map, ℕ, take}
use Rattle.base.specs.Characters.{ascii}
use Rattle.token.specs.Place.{place_at, newlines, since_newline}

-- `a`, carriage return, newline, `é`, newline, newline, `c`
abbrev text : List ℕ
text = ascii "a\r\n" ++ (0xC3 ∷ 0xA9 ∷ ascii "\n\nc")

-- an offset, its line and column, the newlines before it, and the bytes since the last of those
pub record Case : Type 0 where
  pub offset : ℕ
  pub line : ℕ
  pub column : ℕ
  pub before : ℕ
  pub since : ℕ

abbrev row : ℕ → ℕ → ℕ → ℕ → ℕ → Case
row i l c n k = record { offset = i; line = l; column = c; before = n; since = k }

abbrev pub cases : List Case
cases =
    -- `a`: "The first place is line 1, column 1, offset 0"
    (row 0 1 1 0 0)
    -- the carriage return
    ∷ (row 1 1 2 0 1)
    -- the newline, which stands on the line that it ends
    ∷ (row 2 1 3 0 2)
    -- `é`: "after a newline (0x0A) line + 1 and column 1"
    ∷ (row 3 2 1 1 0)
    -- its second byte: "Columns count bytes"
    ∷ (row 4 2 2 1 1)
    -- the newline after it
    ∷ (row 5 2 3 1 2)
    -- the newline of an empty line
    ∷ (row 6 3 1 2 0)
    -- `c`
    ∷ (row 7 4 1 3 0)
    -- the text's end
    ∷ (row 8 4 2 3 1)
    ∷ []

-- what the definitions give for an offset
abbrev at : ℕ → Case
at i = row (place_at text i).offset (place_at text i).line (place_at text i).column (newlines (take i text)) (since_newline 0 (take i text))

-- every row of the table holds
pub worked : map (λ (c : Case). at c.offset) cases ≡ cases
unfolding place_at
worked = refl
