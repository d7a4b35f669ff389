-- `after` is `after`: a newline, or another byte. Assumes nothing.
use borrow.Author.Tests.{eq-eqb, ne_eqb}
use Rattle.triple_strings.specs.Helpers.{after}
use Rattle.triple_strings.proofs.dedent.Dedent.after.Goals as goal

pub returns-then-byte-eq10 : goal.returns-then-byte-eq10
unfolding after
returns-then-byte-eq10 c = rw (eq-eqb c.args.byte 0x0A c.if-byte-eq10.true) c.strip.ensures

pub returns-else-byte-eq10 : goal.returns-else-byte-eq10
unfolding after
returns-else-byte-eq10 c = rw (ne_eqb c.args.byte 0x0A c.if-byte-eq10.false)
