-- The call that lists suggestions: for every input, the answer and what the list holds; document 02, #102, with its checks 11 and 12.
use Rattle.std.specs.Prelude.{◌≡◌, Bool, true, false, not, ◌&&◌, List, ℕ, ◌*◌, ◌≤◌, leb, ltb, eqb, ℤ, length, take, Result, Ok, Err}
use Rattle.base.specs.Answers.{answer_number, answer_value}
use Rattle.base.specs.Choice.{pick}
use Rattle.base.specs.Buffers.{after}
use Rattle.utf8.specs.Check.{check_of}
use Rattle.reading.specs.Refusals.{after_check}
use Rattle.suggestion_list.specs.Rows.{entry_width, entry_rows}
use Rattle.suggest.specs.Suggestions.{byte_count, suggestions_of}
use Rattle.suggest.specs.Claim.{Listed}
use Rattle.suggest.specs.declared.call.Refusal.{Refusal}
use Rattle.suggest.specs.declared.call.Refusal.TheVariants.{BadRun, ListShort}

-- Types of the code (src/call.rt). `Refusal`: `BadRun`, `ListShort`, numbered below.

-- document 02's number of each refusal
abbrev pub refusal_number : Refusal → ℕ
refusal_number BadRun = 11
refusal_number ListShort = 12

-- the number of the answer, 0 where the call is accepted
abbrev pub suggested_number : Result ℕ Refusal → ℕ
suggested_number r = answer_number refusal_number r

-- its value: "Every added call that fills a buffer gives the count too"
abbrev pub suggested_value : Result ℕ Refusal → ℕ
suggested_value r = answer_value r

-- the longest run that is taken
abbrev pub longest_run : ℕ
longest_run = 64

-- a list of so many numbers suffices for every run
abbrev pub most_numbers : ℕ
most_numbers = longest_run * byte_count * entry_width

-- none that check 11 refuses: "the run is empty, over 64 bytes or not UTF-8"
unfoldable pub good_run : List ℕ → Bool
good_run run = (not (eqb (length run) 0) && leb (length run) longest_run) && after_check (check_of run) (λ n. false) true

-- the answer where a list of n numbers is lent: 11, "then 12, the list slice is short"
unfoldable pub suggest_answer : List ℕ → ℕ → Result ℕ Refusal
suggest_answer run n =
    let count = length (suggestions_of run) in
    pick (good_run run) (pick (ltb n (count * entry_width)) (Err ListShort) (Ok count)) (Err BadRun)

-- the contract
pub record SuggestsDurations (run : List ℕ) (list : List ℤ) (r : Result ℕ Refusal) (list' : List ℤ) : Type 0 where
  pub answer : r ≡ suggest_answer run (length list)
  pub buffer : list' ≡ after (suggested_number r) (entry_rows (suggestions_of run)) list
  pub claim : (n : ℕ) → r ≡ Ok n → Listed run (take (n * entry_width) list')
  pub suffices : most_numbers ≤ length list → r ≡ Err ListShort → ⊥
