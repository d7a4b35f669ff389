-- For `suggest_durations`: each answer with what it leaves in the list. By the checks in their order. For the calls of crate `pxf`: the value of an answer is
-- small. By the bound on how many candidates a run has. Assumes nothing.
use Rattle.std.specs.Prelude.{Result, Ok, Err}
use mathlib.Core.Path.{◌≡◌, refl}
use mathlib.Core.Bool.{true, false, not, ◌&&◌}
use mathlib.Core.List.{List}
use Prim.Native.Nat.{ℕ, ◌*◌, ◌≤◌, ◌<◌}
use native.Mathlib.Omega.{arith}
use lib.Dec.{ltb, leb, eqb}
use lib.IntN.{ℤ}
use lib.ListN.{length, take}
use lib.Seq.{take_at}
use borrow.Author.Tests.{lt-ltb, le-ltb, leb-true}
use Rattle.base.specs.Buffers.{overlay}
use Rattle.base.proofs.Tests.{and_left, and_right, pick_case, zero_one}
use Rattle.suggestion_list.specs.Rows.{entry_width, entry_rows}
use Rattle.suggestion_list.proofs.Rows.{rows_length}
use Rattle.suggest.specs.Suggestions.{suggestions_of}
use Rattle.suggest.specs.Calls.{suggested_value, longest_run, good_run, suggest_answer, SuggestsDurations}
use Rattle.suggest.specs.Helpers.{AllTried}
use Rattle.suggest.specs.declared.call.Refusal.{Refusal}
use Rattle.suggest.specs.declared.call.Refusal.TheVariants.{BadRun, ListShort}
use Rattle.suggest.proofs.TriedBytes.{suggestions_few}
use Rattle.suggest.proofs.Claims.{suggests}

-- an answer whose value fits a signed 64-bit number
abbrev Small : Result ℕ Refusal → Type 0
Small r = suggested_value r < 0x8000000000000000

module _ (run : List ℕ) where
  -- a run that is taken is short
  pub good_short : good_run run ≡ true → length run ≤ longest_run
  unfolding good_run
  good_short e =
      leb-true (length run) longest_run
      (and_right (not (eqb (length run) 0)) (leb (length run) longest_run) (and_left (not (eqb (length run) 0) && leb (length run) longest_run) _ e))

  pub value_small : (n : ℕ) → Small (suggest_answer run n)
  unfolding suggest_answer
  value_small n =
      pick_case Small (good_run run)
      (λ g.
      let l = good_short g in
      pick_case Small (ltb n (length (suggestions_of run) * entry_width)) (λ _. omega arith) (λ _. omega (arith, suggestions_few run)))
      (λ _. omega arith)

  module _ (list : List ℤ) where
    pub bad_run : good_run run ≡ false → SuggestsDurations run list (Err BadRun) list
    unfolding suggest_answer
    bad_run e = record { answer = rw e; buffer = refl; claim = λ n q. zero_one (cc); suffices = λ h q. zero_one (cc) }

    module _ (g : good_run run ≡ true) where
      pub list_short : length list < length (suggestions_of run) * entry_width → SuggestsDurations run list (Err ListShort) list
      unfolding suggest_answer
      list_short h =
          let n = good_short g in
          record {
            answer = rw (g, lt-ltb _ _ h);
            buffer = refl;
            claim = λ n q. zero_one (cc);
            suffices = λ m q. omega (arith, suggestions_few run);
          }

      -- the entries stand at the front of the list
      listed : {list' : List ℤ} → list' ≡ overlay (entry_rows (suggestions_of run)) list
          → take (length (suggestions_of run) * entry_width) list' ≡ entry_rows (suggestions_of run)
      listed e = rw e (take_at (entry_rows (suggestions_of run)) _ _ (rows_length (suggestions_of run)))

      pub entries : {list' : List ℤ} {count : ℕ} → length (suggestions_of run) * entry_width ≤ length list → AllTried run list list' count
          → SuggestsDurations run list (Ok count) list'
      unfolding suggest_answer
      entries {list'} {count} h t =
          let n = good_short g in
          let c = t.counted in
          let s = t.stored h in
          record {
            answer = rw (g, le-ltb _ _ h, c);
            buffer = s;
            claim = λ k q.
                let e : k ≡ length (suggestions_of run) = cc in
                record { entries = suggestions_of run; held = rw e (listed s); suggests = suggests run (omega arith) };
            suffices = λ m q. zero_one (cc);
          }
