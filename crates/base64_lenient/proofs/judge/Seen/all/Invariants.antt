-- `all` is `seen_all`: what was seen and the bytes left make the whole. Assumes nothing.
use Rattle.base64_lenient.proofs.Sights.{Going}
use Rattle.base64_lenient.proofs.judge.Seen.all.Given as goal

abbrev pub invariant-loop-b : goal.invariant-loop-b
invariant-loop-b l = Going l.s l.initial.seen l.seen l.b-index
