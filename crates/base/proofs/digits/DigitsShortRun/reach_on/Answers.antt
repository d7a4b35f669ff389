-- `reach_on` meets its contract: the digits are a kind of the table. Assumes nothing.
use Rattle.base.specs.Masks.{kind_test}
use Rattle.base.proofs.digits.DigitsShortRun.reach_on.Goals as goal

pub returns : goal.returns
unfolding kind_test
returns c = c.reach_kind.ensures
