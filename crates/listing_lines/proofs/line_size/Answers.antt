-- `line_size` counts a line number by number.
use Rattle.std.proofs.Common.{◌≡◌, length, pos, get_or, w64, FitsSigned, arith, rules}
use Rattle.std.proofs.lemmas.Int.{to_z-of_z}
use Rattle.notation.specs.Decimal.{number_text}
use Rattle.listing_lines.proofs.Lines.{number_at, number_length, line_at_lem, line_done, line_most}
use Rattle.listing_lines.proofs.Pieces.{counting_turn, counting_end}
use Rattle.listing_lines.proofs.line_size.Goals.{After-number_size}
use Rattle.listing_lines.proofs.line_size.Goals as goal

-- the size of the number at hand
size_is : (c : After-number_size) → c.number_size.result ≡ length (number_text (get_or c.args.row.now c.loop-z.z-index (pos 0)))
size_is c =
    let f : FitsSigned w64 (get_or c.args.row.now c.loop-z.z-index (pos 0)) = search rules in
    rw (to_z-of_z w64 _ f) at c.number_size.ensures.size

pub overflow_add-size-in-loop-z : goal.overflow_add-size-in-loop-z
overflow_add-size-in-loop-z c = record { fits = omega (arith, c.loop-z.invariant.sum, line_most c.args.row.now, c.number_size.ensures.most, c.told-row) }

pub loop-z-preserved : goal.loop-z-preserved
loop-z-preserved c =
    let row = c.args.row.now in
    let k = c.loop-z.z-index in
    let e = line_at_lem row k (omega arith) in
    counting_turn c.loop-z.invariant (number_at row k) e (omega (arith, size_is c, number_length row k))

pub returns : goal.returns
returns c = counting_end c.loop-z.invariant (line_done c.args.row.now c.loop-z.z-index (omega arith))
