-- `write` stores and counts what the definitions say: a turn stores and counts one token. Assumes nothing.
use Prim.Native.Nat.{◌-◌}
use lib.ListN.{length}
use Rattle.reading.proofs.Turns.{Passing}
use Rattle.reading.proofs.judge.Judged.write.Given as goal

abbrev pub invariant-tokens : goal.invariant-tokens
invariant-tokens l = Passing l.how.mode l.how.limit l.self.text.now l.initial.buffers l.buffers l.place l.counts

abbrev pub decreases-tokens : goal.decreases-tokens
decreases-tokens l = length l.self.text.now - l.place.offset
