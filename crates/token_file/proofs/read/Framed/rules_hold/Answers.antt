-- `rules_hold` is `rows_ok` over the file's rows: the rows that are left decide. Assumes nothing.
use Rattle.token_file.proofs.Pieces.{next_in_file}
use Rattle.token_file.proofs.Judging.{judge_start, judge_turn, judge_stop, judge_end}
use Rattle.token_file.proofs.read.Framed.rules_hold.Goals as goal

pub loop-i-init : goal.loop-i-init
loop-i-init c = let s = c.args.self.now in judge_start s.layout s.file.now s.count

pub returns-then-not-may_stand : goal.returns-then-not-may_stand
returns-then-not-may_stand c =
    judge_stop c.loop-i.invariant c.loop-i-test.true (next_in_file _ _ _ _ c.loop-i-test.true c.row-row.ensures.is) c.may_stand.ensures
    c.if-not-may_stand.true

pub loop-i-preserved : goal.loop-i-preserved
loop-i-preserved c =
    judge_turn c.loop-i.invariant c.loop-i-test.true (next_in_file _ _ _ _ c.loop-i-test.true c.row-row.ensures.is) c.may_stand.ensures
    c.if-not-may_stand.false

pub returns : goal.returns
returns c = judge_end c.loop-i.invariant c.loop-i-test.false
