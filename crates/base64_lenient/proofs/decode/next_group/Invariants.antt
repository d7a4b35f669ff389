-- `next_group` gathers values up to the loop's place. Assumes nothing.
use Rattle.base64_lenient.specs.Helpers.{Gathered}
use Rattle.base64_lenient.proofs.decode.next_group.Given as goal

abbrev pub invariant-loop-i : goal.invariant-loop-i
invariant-loop-i l = Gathered l.run l.at l.values l.count l.i
