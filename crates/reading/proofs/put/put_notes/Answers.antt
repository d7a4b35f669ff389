-- `put_notes` writes the reports of a token that counts some; any other has none. Assumes nothing.
use Rattle.reading.proofs.Puts.{no_reports}
use Rattle.reading.proofs.put.put_notes.Goals as goal

pub returns-else-t-ne0 : goal.returns-else-t-ne0
returns-else-t-ne0 c = rw (no_reports c.requires c.if-t-ne0.false)
