-- `put_line` writes a line number by number.
use Rattle.std.proofs.Common.{drop}
use Rattle.base.proofs.Storings.{Storing}
use Rattle.listing_lines.specs.Lines.{line_text}
use Rattle.listing_lines.proofs.put_line.Given as goal

abbrev pub invariant-loop-k : goal.invariant-loop-k
invariant-loop-k l = Storing (line_text l.row) l.initial.out l.at (line_text (drop l.k l.row)) l.out l.end
