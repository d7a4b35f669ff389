-- `put_lines` writes the lines record by record.
use Rattle.std.proofs.Common.{drop}
use Rattle.base.proofs.Storings.{Storing}
use Rattle.listing_lines.specs.Rows.{rows_lines}
use Rattle.listing_lines.proofs.put_lines.Given as goal

abbrev pub invariant-loop-numbers : goal.invariant-loop-numbers
invariant-loop-numbers l = Storing (rows_lines l.records) l.initial.out 0 (rows_lines (drop l.numbers-index l.records)) l.out l.end
