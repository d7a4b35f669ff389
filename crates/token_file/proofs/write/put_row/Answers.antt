-- `put_row` stores the row's bytes: each number goes where the layout puts it. Assumes nothing.
use Rattle.token_file.proofs.Rows.{row_put}
use Rattle.token_file.proofs.write.put_row.Goals as goal

-- the calls of `put_little`, each by the number that it stores
pub returns : goal.returns
returns c =
    row_put _ _ _ c.offsets-o.ensures _ c.put_little.ensures c.put_little-2.ensures c.put_little-3.ensures c.put_little-4.ensures
    c.put_little-5.ensures c.put_little-6.ensures
