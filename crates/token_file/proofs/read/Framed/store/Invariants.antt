-- `store` leaves the stores of all records: what is left to store, stored from here on, makes the whole. Assumes nothing.
use lib.ListN.{drop}
use lib.Seq.{sets}
use Rattle.token_file.specs.Rules.{rows_numbers}
use Rattle.token_file.specs.Format.{header_width, bytes_rows}
use Rattle.token_file.proofs.Storing.{Storing}
use Rattle.token_file.proofs.read.Framed.store.Given as goal

abbrev pub invariant-loop-i : goal.invariant-loop-i
invariant-loop-i l =
    let rs = bytes_rows l.self.layout l.self.count (drop header_width l.self.file.now) in
    Storing rs l.tokens l.i (sets l.initial.tokens 0 (rows_numbers rs))
