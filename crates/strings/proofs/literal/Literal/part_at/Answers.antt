-- `part_at` meets its contract: text, and then escapes of one letter, make the part longer. Assumes nothing.
use Rattle.strings.proofs.Parts.{spells_none, parting_first, spells_more, parting_more}
use Rattle.strings.proofs.literal.Literal.part_at.Goals as goal

pub returns-then-is_between-is_inside-clause-spelled : goal.returns-then-is_between-is_inside-clause-spelled
returns-then-is_between-is_inside-clause-spelled c = search spells_none

pub loop-s-init : goal.loop-s-init
loop-s-init c = parting_first _ _ c.requires c.args.self.now.well_formed _ _ c.is_inside.ensures c.if-is_between-is_inside.false

pub returns-then-n-eq0-clause-spelled : goal.returns-then-n-eq0-clause-spelled
returns-then-n-eq0-clause-spelled c = search spells_more

pub loop-s-preserved : goal.loop-s-preserved
loop-s-preserved c = search parting_more
