-- `strip` is `strip`: what is left of the indent and of the line decides. Assumes nothing.
use Rattle.triple_strings.proofs.Stripping.{Comparing}
use Rattle.triple_strings.proofs.lines.strip.Given as goal

abbrev pub invariant-loop-a : goal.invariant-loop-a
invariant-loop-a l = Comparing l.indent l.line l.a-index l.rest
