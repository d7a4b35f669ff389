-- `rules_hold` is the rules of the records' signs and rows: the records that are left decide. Assumes nothing.
use Rattle.token_file.proofs.Judging.{records_turn, records_stop, records_end}
use Rattle.token_file.proofs.records.rules_hold.Goals as goal

pub returns-then-not-may_stand : goal.returns-then-not-may_stand
returns-then-not-may_stand c = records_stop c.loop-i.invariant c.loop-i-test.true c.in-Ok.ensures c.may_stand.ensures c.if-not-may_stand.true

pub loop-i-preserved : goal.loop-i-preserved
loop-i-preserved c = records_turn c.loop-i.invariant c.loop-i-test.true c.in-Ok.ensures c.may_stand.ensures c.if-not-may_stand.false

pub returns : goal.returns
returns c = rw c.is_empty.ensures (records_end c.loop-i.invariant c.loop-i-test.false)
