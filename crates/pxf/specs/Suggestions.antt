-- What the function on suggestions gives to a C program: document 02's number of the answer, its value, and the list after the call.
use Rattle.std.specs.Prelude.{◌≡◌, List, ℕ, ℤ, length}
use Rattle.suggest.specs.Calls.{suggested_number, suggested_value, suggest_answer, SuggestsDurations}
use Rattle.pxf.specs.Answers.{one_value}

-- `pxf_suggest_durations`: the number, the count of entries, and the list as the call leaves it
pub record SuggestionsGiven (run : List ℕ) (list : List ℤ) (r : ℕ) (list' answer' : List ℤ) : Type 0 where
  pub number : r ≡ suggested_number (suggest_answer run (length list))
  pub answer : answer' ≡ one_value (suggested_value (suggest_answer run (length list)))
  pub suggests : SuggestsDurations run list (suggest_answer run (length list)) list'
