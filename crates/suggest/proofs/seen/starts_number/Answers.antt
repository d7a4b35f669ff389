-- `starts_number` is `starts_number`, by what the test of a digit ensures. Assumes nothing.
use Rattle.suggest.specs.Helpers.{starts_number}
use Rattle.suggest.proofs.seen.starts_number.Goals as goal

pub returns : goal.returns
unfolding starts_number
returns c = cc
