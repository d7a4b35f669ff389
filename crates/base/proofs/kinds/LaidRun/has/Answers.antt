-- `has` tells whether a byte is of the kind, by its entry. Assumes nothing.
use borrow.Author.Rules.{rules}
use Rattle.base.proofs.KindRuns.{kind_left}
use Rattle.base.proofs.kinds.LaidRun.has.Goals as goal

pub returns : goal.returns
returns g c = let run = c.args.self in rw (run.is_table, c.from.ensures) (kind_left _ run.is_kind _ (search rules))
