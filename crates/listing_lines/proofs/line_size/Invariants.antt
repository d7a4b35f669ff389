-- `line_size` counts a line number by number.
use Rattle.std.proofs.Common.{drop}
use Rattle.listing_lines.specs.Lines.{line_text}
use Rattle.listing_lines.proofs.Pieces.{Counting}
use Rattle.listing_lines.proofs.line_size.Given as goal

abbrev pub invariant-loop-z : goal.invariant-loop-z
invariant-loop-z l = Counting (line_text l.row) l.size (line_text (drop l.z-index l.row))
