-- `try_offset` meets its contract: the bytes before this one were tried, and the run differs at the offset alone. Assumes nothing.
use Rattle.suggestion_list.specs.Helpers.{SameList}
use Rattle.suggest.proofs.Turns.{Trying}
use Rattle.suggest.proofs.candidates.try_offset.Given as goal

abbrev pub invariant-loop-b : goal.invariant-loop-b
invariant-loop-b l =
    SameList l.initial.found l.found
    × Trying l.initial.run l.i l.initial.found.list.now l.initial.found.count l.run l.found.list.now l.found.count l.b
