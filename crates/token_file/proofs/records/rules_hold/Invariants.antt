-- `rules_hold` is the rules of the records' signs and rows: the records that are left decide. Assumes nothing.
use Rattle.token_file.proofs.Judging.{JudgingRecords}
use Rattle.token_file.proofs.records.rules_hold.Given as goal

abbrev pub invariant-loop-i : goal.invariant-loop-i
invariant-loop-i l = JudgingRecords l.records l.i l.prev
