-- `row` reads the row of this number: the file has room for it. Assumes nothing.
use native.Mathlib.Omega.{arith}
use Rattle.token_file.proofs.Pieces.{row_inside, next_width}
use Rattle.token_file.proofs.read.Framed.row.Goals as goal

pub file_width-requires : goal.file_width-requires
file_width-requires c = let s = c.args.self.now in
    omega (arith, row_inside s.layout s.count c.args.i c.requires, next_width s.layout c.args.i, c.well_formed)

pub get_row-requires : goal.get_row-requires
get_row-requires c = let s = c.args.self.now in
    omega (arith, row_inside s.layout s.count c.args.i c.requires, next_width s.layout c.args.i, c.file_width.ensures)
