-- `step_at` is `step_of` of the piece; the end of a bad escape fits. Assumes nothing.
use Rattle.strings.proofs.Steps.{bad_fits}
use Rattle.strings.proofs.literal.step_at.Goals as goal

pub overflow_add-i : goal.overflow_add-i
overflow_add-i c = search bad_fits
