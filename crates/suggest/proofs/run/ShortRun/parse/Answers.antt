-- `parse` makes check 11: the length, then the bytes. Assumes nothing.
use mathlib.Core.Path.{◌≡◌, refl, ◌∙◌}
use mathlib.Core.Bool.{true, false}
use mathlib.Core.List.{List}
use Prim.Native.Nat.{ℕ, ◌≤◌, ◌<◌}
use native.Mathlib.Omega.{arith}
use lib.ListN.{length}
use borrow.Author.Tests.{lt-leb, le-leb, eq-eqb, ne_eqb}
use Rattle.std.specs.Prelude.{Result, Ok, Err, Option, is_some}
use Rattle.std.specs.Result.{result_ok}
use Rattle.base.proofs.Tests.{and-false}
use Rattle.utf8.specs.Check.{check_of}
use Rattle.utf8.specs.declared.check.Utf8Error.{Utf8Error}
use Rattle.reading.specs.Refusals.{after_check}
use Rattle.suggest.specs.Calls.{longest_run, good_run}
use Rattle.suggest.proofs.run.ShortRun.parse.Goals.{in_default-via-then-bytes-lt1, in_default-via-else-bytes-lt1+else-this-lt65}
use Rattle.suggest.proofs.run.ShortRun.parse.Goals as goal

-- whether the check answers that the bytes are well formed
checked : (r : Result (Unit {0}) Utf8Error) → after_check r (λ n. false) true ≡ is_some (result_ok r)
checked (Ok u) = refl
checked (Err e) = refl

module _ (run : List ℕ) where
  empty : length run < 1 → good_run run ≡ false
  unfolding good_run
  empty h = rw (eq-eqb (length run) 0 (omega arith))

  long : longest_run < length run → good_run run ≡ false
  unfolding good_run
  long h = rw (lt-leb (length run) longest_run h, and-false)

  -- a run of a length that is taken is judged by its bytes
  by_bytes : 1 ≤ length run → length run ≤ longest_run → {r : Result (Unit {0}) Utf8Error} → r ≡ check_of run → {o : Option (Unit {0})} → o ≡ result_ok r
      → good_run run ≡ is_some o
  unfolding good_run
  by_bytes l h {r} e p = rw (ne_eqb (length run) 0 (λ q. omega arith), le-leb (length run) longest_run h, ← e, p) (checked r)

pub returns-in_default : goal.returns-in_default
returns-in_default c =
    elim c.in_default.branch [
      | in_default-via-then-bytes-lt1 w ↦ empty _ (omega arith)
      | in_default-via-else-bytes-lt1+else-this-lt65 w ↦ long _ (omega arith)
    ]

pub returns-in_err-ok : goal.returns-in_err-ok
returns-in_err-ok c =
    rw c.from_residual.ensures (by_bytes _ (omega arith) (omega arith) c.check.ensures.same c.ok.ensures.value ∙ rw c.in_err-ok.was)

pub returns : goal.returns
returns c =
    record { good = by_bytes _ (omega arith) (omega arith) c.check.ensures.same c.ok.ensures.value ∙ rw c.in_ok-ok.was; same = refl }
