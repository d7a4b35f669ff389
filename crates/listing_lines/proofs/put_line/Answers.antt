-- `put_line` writes a line number by number.
use Rattle.std.proofs.Common.{◌≡◌, ◌+◌, ◌-◌, length, drop, pos, get_or, w64, FitsSigned, ap, arith, rules, length-append}
use Rattle.std.proofs.lemmas.Int.{to_z-of_z}
use Rattle.base.proofs.Storings.{storing_to, storing_reached, storing_end}
use Rattle.listing_lines.specs.Lines.{line_text}
use Rattle.listing_lines.proofs.Lines.{number_at, number_length, line_at_lem, line_done}
use Rattle.listing_lines.proofs.put_line.Goals as goal

pub write_number-end-requires : goal.write_number-end-requires
write_number-end-requires c =
    let row = c.args.row.now in
    let k = c.loop-k.k in
    let f : FitsSigned w64 (get_or row k (pos 0)) = search rules in
    let e = line_at_lem row k (omega arith) in
    rw (to_z-of_z w64 _ f)
    (omega (
      arith,
      c.loop-k.invariant.room,
      c.loop-k.invariant.same,
      ap length e,
      length-append (number_at row k) (line_text (drop (k + 1) row)),
      number_length row k,
    ))

pub loop-k-preserved : goal.loop-k-preserved
loop-k-preserved c =
    let row = c.args.row.now in
    let k = c.loop-k.k in
    let f : FitsSigned w64 (get_or row k (pos 0)) = search rules in
    let s : 6 - k ≡ length row - (k + 1) = omega (arith, c.told-row) in
    let w = rw (to_z-of_z w64 _ f, c.separator_before.ensures, s) at c.write_number-end.ensures in
    storing_to c.loop-k.invariant (number_at row k) _ (line_at_lem row k (omega arith)) w.written (omega (arith, w.end, number_length row k))

pub returns : goal.returns
returns c = let w = c.loop-k.invariant in
    let e = line_done c.args.row.now c.loop-k.k (omega arith) in
    (storing_reached w e, storing_end w e)
