-- `try_offsets` meets its contract: the offsets before this one were tried, and the copy of the run is as it was. Assumes nothing.
use Rattle.suggestion_list.specs.Helpers.{SameList}
use Rattle.suggest.proofs.Turns.{Walking}
use Rattle.suggest.proofs.candidates.try_offsets.Given as goal

abbrev pub invariant-loop-i : goal.invariant-loop-i
invariant-loop-i l = SameList l.initial.found l.found × Walking l.run.bytes.now l.initial.found.list.now l.copy l.found.list.now l.found.count l.i
