-- `store` leaves the stores of all records: what is left to store, stored from here on, makes the whole. Assumes nothing.
use mathlib.Core.Path.{◌∙◌, ap}
use Rattle.token.specs.Layout.{record_numbers}
use Rattle.token_file.proofs.Pieces.{next_in_file, bytes_rows_length}
use Rattle.token_file.proofs.Storing.{store_rows_turn, store_rows_end}
use Rattle.token_file.proofs.read.Framed.store.Goals as goal

pub loop-i-preserved : goal.loop-i-preserved
loop-i-preserved c =
    store_rows_turn c.loop-i.invariant (next_in_file _ _ _ _ c.loop-i-test.true c.row.ensures.is)
    (c.numbers.ensures ∙ ap record_numbers c.from-record.ensures) c.store.ensures

pub returns : goal.returns
returns c = store_rows_end c.loop-i.invariant (rw bytes_rows_length c.loop-i-test.false)
