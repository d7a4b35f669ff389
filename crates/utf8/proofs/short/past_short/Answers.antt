-- `past_short` meets its contract: a window of ASCII bytes, and one of characters of one or two bytes, ends between characters. Assumes nothing.
use Rattle.utf8.proofs.Shorts.{short_window}
use Rattle.utf8.proofs.short.past_short.Goals as goal

pub loop-i-preserved : goal.loop-i-preserved
loop-i-preserved c = rw c.from.ensures (search short_window)
