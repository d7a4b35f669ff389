-- `measure` measures what is left with what is counted already: a part that is read at once, and then the closing quote or a step.
-- Assumes nothing.
use Prim.Native.Nat.{◌-◌}
use lib.ListN.{length}
use Rattle.strings.proofs.Turns.{Measuring}
use Rattle.strings.proofs.literal.Literal.measure.Given as goal

abbrev pub invariant-loop-s : goal.invariant-loop-s
invariant-loop-s l = Measuring l.mode l.s l.i l.count l.reports l.state

abbrev pub decreases-loop-s : goal.decreases-loop-s
decreases-loop-s l = length l.s - l.i
