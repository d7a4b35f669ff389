-- What the suggestions for a run are: all replacements that count and no others, in order; with no word of how they are found.
use Rattle.std.specs.Prelude.{◌≡◌, ℕ, ℤ}
use mathlib.Core.List.{List, [], Memᴰ}
use Rattle.suggestion_list.specs.Order.{Rising}
use Rattle.suggestion_list.specs.Rows.{entry_rows}
use Rattle.suggestion_list.specs.declared.Suggestion.{Suggestion}
use Rattle.suggest.specs.Counts.{Counts}

-- Types that other files explain: `Suggestion` in suggestion_list/specs/Order.antt.

-- no replacement counts
abbrev pub NoneCounts : List ℕ → Type 0
NoneCounts run = (limit i b : ℕ) (z : ℤ) → Counts limit run i b z → ⊥

-- entries that are the suggestions for a run, whatever the bytes limit
pub record Suggests (run : List ℕ) (es : List Suggestion) : Type 0 where
  -- every entry counts
  pub sound : (limit : ℕ) (x : Suggestion) → Memᴰ x es → Counts limit run x.offset x.byte x.nanos
  -- whatever counts is an entry: "list every replacement"
  pub complete : (limit i b : ℕ) (z : ℤ) → Counts limit run i b z → Memᴰ (record { nanos = z; offset = i; byte = b }) es
  -- sorted, and none stands twice
  pub rising : Rising es
  -- "The list is empty only when no such replacement exists", and then it is
  pub empty_only : es ≡ [] → NoneCounts run
  pub empty_then : NoneCounts run → es ≡ []

-- numbers that are the suggestions for a run
pub record Listed (run : List ℕ) (numbers : List ℤ) : Type 0 where
  pub entries : List Suggestion
  pub held : numbers ≡ entry_rows entries
  pub suggests : Suggests run entries
