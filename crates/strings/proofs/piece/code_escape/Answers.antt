-- `code_escape` is `code_piece`: the digits read so far with those that are left make the whole number. Assumes nothing.
use Rattle.strings.proofs.Escapes.{run_bad, run_more, code_short, code_read, valid_low}
use Prim.Native.Nat.{◌<◌}
use Rattle.strings.proofs.piece.code_escape.Goals as goal

pub returns-then-l-n : goal.returns-then-l-n
returns-then-l-n c = search code_short

pub returns-in_default : goal.returns-in_default
returns-in_default c = search run_bad

pub loop-k-preserved : goal.loop-k-preserved
loop-k-preserved c = let d : c.in-Some.d < 16 = c.in-Some.ensures.digit in search run_more

pub encode-requires : goal.encode-requires
encode-requires c = search valid_low

pub returns-then-valid_rune : goal.returns-then-valid_rune
returns-then-valid_rune c = rw c.encode.ensures (search code_read)

pub returns : goal.returns
returns c = search code_read
