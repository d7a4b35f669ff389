-- Suggestions as numbers: document 02, #102, "An entry is three signed 64-bit numbers, nanoseconds, offset in the run and byte".
use Rattle.std.specs.Prelude.{List, [], ◌∷◌, ◌++◌, ℕ, ℤ, pos}
use Rattle.suggestion_list.specs.declared.Suggestion.{Suggestion}

-- Types that other files explain: `Suggestion` in Order.antt.

-- how many numbers an entry has
abbrev pub entry_width : ℕ
entry_width = 3

-- the numbers of an entry
abbrev pub entry_numbers : Suggestion → List ℤ
entry_numbers x = x.nanos ∷ pos x.offset ∷ pos x.byte ∷ []

-- the numbers of entries, one after the other
unfoldable pub entry_rows : List Suggestion → List ℤ
entry_rows [] = []
entry_rows (x ∷ xs) = entry_numbers x ++ entry_rows xs
