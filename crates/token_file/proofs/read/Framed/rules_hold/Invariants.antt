-- `rules_hold` is `rows_ok` over the file's rows: the rows that are left decide. Assumes nothing.
use lib.ListN.{drop}
use Rattle.token_file.specs.Format.{header_width, bytes_rows}
use Rattle.token_file.proofs.Judging.{Judging}
use Rattle.token_file.proofs.read.Framed.rules_hold.Given as goal

abbrev pub invariant-loop-i : goal.invariant-loop-i
invariant-loop-i l = Judging (bytes_rows l.self.layout l.self.count (drop header_width l.self.file.now)) l.self.count l.i l.prev
