-- `is_space` is `is_space`: the code's tests are the definition's. Assumes nothing.
use mathlib.Core.Path.{refl}
use Rattle.base.specs.Classes.{is_space}
use Rattle.base.proofs.class.is_space.Goals as goal

pub returns : goal.returns
unfolding is_space
returns c = refl
