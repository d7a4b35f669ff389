-- `put_lines` writes the lines record by record.
use Rattle.std.proofs.Common.{◌+◌, length, [], get_or, drop, ap, arith, length-append}
use Rattle.base.proofs.Storings.{storing_to, storing_reached, storing_end}
use Rattle.listing_lines.specs.Lines.{line_text}
use Rattle.listing_lines.specs.Rows.{line_at, rows_lines}
use Rattle.listing_lines.proofs.Lines.{rows_at, rows_done}
use Rattle.listing_lines.proofs.put_lines.Goals as goal

pub put_line-end-requires : goal.put_line-end-requires
put_line-end-requires c =
    let rs = c.args.records.now in
    let i = c.loop-numbers.numbers-index in
    let e = rows_at rs i (omega arith) in
    let w = c.loop-numbers.invariant in
    rw c.line_numbers.ensures
    (omega (arith, w.room, w.same, ap length e, length-append (line_text (line_at (get_or rs i []))) (rows_lines (drop (i + 1) rs))))

pub loop-numbers-preserved : goal.loop-numbers-preserved
loop-numbers-preserved c =
    let rs = c.args.records.now in
    let i = c.loop-numbers.numbers-index in
    let w = rw c.line_numbers.ensures at c.put_line-end.ensures in
    storing_to c.loop-numbers.invariant (line_text (line_at (get_or rs i []))) _ (rows_at rs i (omega arith)) w.1 w.0

pub returns : goal.returns
returns c =
    let w = c.loop-numbers.invariant in
    let e = rows_done c.args.records.now c.loop-numbers.numbers-index (omega arith) in
    (omega (arith, storing_reached w e), storing_end w e)
