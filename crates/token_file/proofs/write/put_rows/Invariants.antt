-- `put_rows` leaves the stores of all rows' bytes: what is left to store, stored from here on, makes the whole. Assumes nothing.
use mathlib.Core.List.{map}
use lib.Seq.{sets}
use Rattle.token_file.specs.Rules.{row_at}
use Rattle.token_file.specs.Format.{header_width, rows_bytes}
use Rattle.token_file.proofs.Storing.{Putting}
use Rattle.token_file.proofs.write.put_rows.Given as goal

abbrev pub invariant-loop-i : goal.invariant-loop-i
invariant-loop-i l =
    let rs = map row_at l.records.all.now in
    Putting l.y rs l.out l.i (sets l.initial.out header_width (rows_bytes l.y rs))
