-- `is_blank` is `blank`: from each White_Space to the next, what is left is as blank as the whole. Assumes nothing.
use Rattle.triple_strings.proofs.LineScans.{blanking_on}
use Rattle.triple_strings.proofs.lines.is_blank.Goals as goal

pub loop-i-preserved : goal.loop-i-preserved
loop-i-preserved c = search blanking_on
