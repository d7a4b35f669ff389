-- `past_chars` meets its contract: each character, and each run of ASCII bytes, ends between characters. Assumes nothing.
use Rattle.utf8.proofs.Scans.{run_onward, char_onward}
use Rattle.utf8.proofs.check.past_chars.Goals as goal

pub loop-i-preserved-then-text-i-lt128 : goal.loop-i-preserved-then-text-i-lt128
loop-i-preserved-then-text-i-lt128 c = search run_onward

pub loop-i-preserved : goal.loop-i-preserved
loop-i-preserved c = search (char_onward, c.in_ok-i.ensures.ok_part)
