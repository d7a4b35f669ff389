-- `sum` is `sum_from`: the parts of the rest, after the sum `d`, have the sum of all. The test comes before the addition, so that it cannot wrap.
-- Assumes nothing.
use Rattle.std.proofs.Common.{length}
use Rattle.go_duration.proofs.SumSteps.{Summing}
use Rattle.go_duration.proofs.parse.sum.Given as goal

abbrev pub invariant-loop-rest : goal.invariant-loop-rest
invariant-loop-rest l = Summing l.s l.d l.rest

abbrev pub decreases-loop-rest : goal.decreases-loop-rest
decreases-loop-rest l = length l.rest
