-- `measure` counts what the definitions say: a turn counts one token. Assumes nothing.
use Prim.Native.Nat.{◌-◌}
use lib.ListN.{length}
use Rattle.reading.proofs.Turns.{Measuring}
use Rattle.reading.proofs.judge.Judged.measure.Given as goal

abbrev pub invariant-tokens : goal.invariant-tokens
invariant-tokens l = Measuring l.how.mode l.how.limit l.self.text.now l.at l.counts

abbrev pub decreases-tokens : goal.decreases-tokens
decreases-tokens l = length l.self.text.now - l.at
