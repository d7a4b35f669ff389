-- `put_rows` leaves the stores of all rows' bytes: what is left to store, stored from here on, makes the whole. Assumes nothing.
use native.Mathlib.Omega.{arith}
use Rattle.std.proofs.lemmas.List.{length-map}
use Rattle.token_file.proofs.Pieces.{next_record, next_width, row_inside}
use Rattle.token_file.proofs.Storing.{put_rows_start, put_rows_turn, put_rows_end}
use Rattle.token_file.proofs.write.put_rows.Goals as goal

pub loop-i-init : goal.loop-i-init
loop-i-init c = put_rows_start _ _ _

pub file_width-requires : goal.file_width-requires
file_width-requires c =
    let h = rw c.count-i-end.ensures at c.loop-i-test.true in
    omega (arith, row_inside c.args.y _ c.loop-i.i h, next_width c.args.y c.loop-i.i, c.well_formed)

pub put_row-requires : goal.put_row-requires
put_row-requires c =
    let h = rw c.count-i-end.ensures at c.loop-i-test.true in
    omega (arith, row_inside c.args.y _ c.loop-i.i h, next_width c.args.y c.loop-i.i, c.file_width.ensures)

pub loop-i-preserved : goal.loop-i-preserved
loop-i-preserved c =
    let h = rw c.count-i-end.ensures at c.loop-i-test.true in
    put_rows_turn c.loop-i.invariant (next_record _ _ h c.row.ensures) (rw c.file_width.ensures at c.put_row.ensures)

pub returns : goal.returns
returns c = put_rows_end c.loop-i.invariant (rw length-map (rw c.count-i-end.ensures at c.loop-i-test.false))
