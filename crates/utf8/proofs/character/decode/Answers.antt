-- `decode` meets its contract: the size of the character, and the free bits of its bytes. Assumes nothing.
use mathlib.Core.Path.{sym}
use lib.Seq.{length-take-le}
use Rattle.utf8.proofs.Codes.{size_in}
use Rattle.utf8.proofs.character.decode.Goals as goal

pub slice_bounds-code_bits-end : goal.slice_bounds-code_bits-end
slice_bounds-code_bits-end c = sym (length-take-le _ _ (size_in _ _ c.char_size.ensures _ c.in_ok-size.was))
