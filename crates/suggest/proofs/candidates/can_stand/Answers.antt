-- `can_stand` is `can_stand`, by what the two tests that it calls ensure. Assumes nothing.
use Rattle.suggest.specs.Helpers.{can_stand}
use Rattle.suggest.proofs.candidates.can_stand.Goals as goal

pub returns : goal.returns
unfolding can_stand
returns c = cc
