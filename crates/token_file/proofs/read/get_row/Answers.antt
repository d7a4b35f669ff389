-- `get_row` reads the row at `at`: each number stands where the layout puts it. Assumes nothing.
use Rattle.token_file.proofs.Rows.{row_read}
use Rattle.token_file.proofs.read.get_row.Goals as goal

pub returns : goal.returns
returns c =
    row_read c.args.y c.args.file.now c.args.at c.offsets-o.ensures c.get_little.ensures c.get_little-2.ensures c.get_little-3.ensures
    c.get_little-4.ensures c.get_little-5.ensures c.get_little-6.ensures
