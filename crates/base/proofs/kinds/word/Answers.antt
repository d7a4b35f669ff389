-- `word` is the word of its kind, by four rows in each case. Assumes nothing.
use lib.Dec.{lit<}
use Rattle.base.proofs.ByteKinds.{four_rows, last_rows}
use Rattle.base.proofs.kinds.word.Goals as goal

pub returns-in-0 : goal.returns-in-0
returns-in-0 g c = search (four_rows g.row.KIND 0 c.requires (lit< tt))

pub returns-in-1 : goal.returns-in-1
returns-in-1 g c = search (four_rows g.row.KIND 1 c.requires (lit< tt))

pub returns-in-2 : goal.returns-in-2
returns-in-2 g c = search (four_rows g.row.KIND 2 c.requires (lit< tt))

pub returns-in_default : goal.returns-in_default
returns-in_default g c = search (last_rows g.row.KIND c.requires)
