-- `reading_of` chooses as the definition does. Assumes nothing.
use borrow.Author.Tests.{ne_eqb}
use Rattle.pxf.proofs.texts.reading_of.Goals as goal

pub returns-then-mode-eq1 : goal.returns-then-mode-eq1
returns-then-mode-eq1 c = rw c.if-mode-eq1.true

pub returns : goal.returns
returns c = rw (ne_eqb _ _ c.if-mode-eq1.false)
