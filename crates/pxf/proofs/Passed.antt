-- For `pxf_write_token_file`, `pxf_read_token_file` and `pxf_suggest_durations`, each of which gives one number or none: it fits, and what a call's contract
-- says of its result holds of the documents' numbers. By cases on the answer and by its equation. Assumes nothing.
use mathlib.Core.Path.{◌≡◌, refl, ◌∙◌}
use mathlib.Core.List.{List}
use Prim.Native.Nat.{ℕ, ◌<◌}
use lib.IntN.{ℤ}
use Rattle.std.specs.Prelude.{Result, Ok, Err}
use Rattle.base.specs.Answers.{answer_value}
use Rattle.reading.specs.Answers.{answer_values}
use Rattle.token_file.specs.Calls.{WritesFile, ReadsFile, written_number, loaded_number}
use Rattle.token_file.specs.declared.write.WriteRefusal.{WriteRefusal}
use Rattle.token_file.specs.declared.read.ReadRefusal.{ReadRefusal}
use Rattle.suggest.specs.Calls.{suggested_number, SuggestsDurations}
use Rattle.suggest.specs.declared.call.Refusal.{Refusal}
use Rattle.pxf.specs.Answers.{one_value}
use Rattle.pxf.specs.Suggestions.{SuggestionsGiven}
use Rattle.pxf.specs.Texts.{six_of}
use Rattle.pxf.specs.TokenFiles.{FileWritten, FileRead}
use Rattle.pxf.specs.Helpers.{one_of, no_values, Fit63}

-- the values of such an answer
abbrev pub values : {E : Type 0} → Result ℕ E → List ℕ
values r = answer_values one_of no_values r

pub one_fits : {E : Type 0} (r : Result ℕ E) → answer_value r < 0x8000000000000000 → Fit63 (values r)
one_fits (Ok n) h = (h, tt)
one_fits (Err e) h = tt

one_is : {E : Type 0} (r : Result ℕ E) → six_of (values r) ≡ one_value (answer_value r)
one_is (Ok n) = refl
one_is (Err e) = refl

pub file_written : {records : List ℤ} {count : ℕ} {out out' : List ℕ} {r : Result ℕ WriteRefusal} → WritesFile records count out r out' → {n : ℕ} {a : List ℤ}
    → n ≡ written_number r → a ≡ six_of (values r) → FileWritten records count out n out' a
file_written {r} w en ea =
    let e = w.answer in
    record { number = rw e at en; answer = rw e at (ea ∙ one_is r); buffer = rw e at w.buffer }

pub file_read : {file : List ℕ} {tokens tokens' : List ℤ} {r : Result ℕ ReadRefusal} → ReadsFile file tokens r tokens' → {n : ℕ} {a : List ℤ}
    → n ≡ loaded_number r → a ≡ six_of (values r) → FileRead file tokens n tokens' a
file_read {r} w en ea =
    let e = w.answer in
    record { number = rw e at en; answer = rw e at (ea ∙ one_is r); buffer = rw e at w.buffer }

pub suggestions_given : {run : List ℕ} {list list' : List ℤ} {r : Result ℕ Refusal} → SuggestsDurations run list r list' → {n : ℕ} {a : List ℤ}
    → n ≡ suggested_number r → a ≡ six_of (values r) → SuggestionsGiven run list n list' a
suggestions_given {r} w en ea =
    let e = w.answer in
    record { number = rw e at en; answer = rw e at (ea ∙ one_is r); suggests = rw e at w }
