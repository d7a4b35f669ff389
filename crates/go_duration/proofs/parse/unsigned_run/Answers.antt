-- `unsigned_run` is `parse_unsigned`, by the patterns on the way and what `sum` and `signed` answer. Assumes nothing.
use Rattle.std.proofs.Common.{◌≡◌, ℕ, Option, Some, None, ap, ◌∙◌, arith}
use Rattle.std.proofs.lemmas.Bool.Decides.{nat_tests}
use Rattle.go_duration.specs.Parse.{sum_from, with_sign}
use Rattle.go_duration.specs.Stages.{parse_unsigned}
use Rattle.go_duration.proofs.RunSteps.{run_sum}
use Rattle.go_duration.proofs.parse.unsigned_run.Goals.{In_default, in_default-via-then-s-lt2+in_default-1, in_default-via-else-s-lt2}
use Rattle.go_duration.proofs.parse.unsigned_run.Goals as goal

-- past the patterns the run is its sum under the sign
summed : (c : In_default) (t : Option ℕ) → t ≡ sum_from 0 0 c.args.s.now → with_sign c.args.neg t ≡ parse_unsigned c.args.neg c.args.s.now
summed c t e =
    ap (with_sign c.args.neg) e
    ∙ elim c.in_default.branch [
      | in_default-via-then-s-lt2+in_default-1 w ↦ run_sum _ _ (λ z. grind (arith, nat_tests)) (λ z y. grind (arith, nat_tests))
      | in_default-via-else-s-lt2 w ↦ run_sum _ _ (λ z. grind (arith, nat_tests)) (λ z y. grind (arith, nat_tests))
    ]

pub returns-in_err-sum-in_default : goal.returns-in_err-sum-in_default
unfolding with_sign
returns-in_err-sum-in_default c =
    c.from_residual.ensures ∙ summed (goal.at.returns-in_err-sum-in_default c).In_default None c.in_err-sum-in_default.ensures

pub returns-in_ok-sum-in_default : goal.returns-in_ok-sum-in_default
returns-in_ok-sum-in_default c =
    c.signed.ensures ∙ summed (goal.at.returns-in_ok-sum-in_default c).In_default (Some _) c.in_ok-sum-in_default.ensures
