-- `parse` is `parse_of`: the run after its sign, under that sign. Assumes nothing.
use Rattle.std.proofs.Common.{◌∙◌, true, false, arith}
use Rattle.base.proofs.Reaches.{rest_is}
use Rattle.go_duration.proofs.RunSteps.{run_signed}
use Rattle.go_duration.proofs.parse.parse.Goals as goal

pub returns-in-45 : goal.returns-in-45
returns-in-45 c = (rw rest_is at c.unsigned_run.ensures) ∙ run_signed _ true (omega arith)

pub returns-in-43 : goal.returns-in-43
returns-in-43 c = (rw rest_is at c.unsigned_run-in-43.ensures) ∙ run_signed _ false (omega arith)
