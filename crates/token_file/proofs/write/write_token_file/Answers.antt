-- `write_token_file` answers as `write_answer` says and leaves the buffer that it says: a law for each answer. Assumes nothing.
use mathlib.Core.Path.{sym, ◌∙◌}
use native.Mathlib.Omega.{arith}
use Rattle.token_file.proofs.Writing.{width1, checked_length, checked_slice, write_bad, write_long, write_no_room, write_all}
use Rattle.token_file.proofs.write.write_token_file.Goals as goal

pub returns-in_default : goal.returns-in_default
returns-in_default c = write_bad c.in_default.ensures

pub returns-then-some_long_column : goal.returns-then-some_long_column
returns-then-some_long_column c = write_long c.in-Some.ensures (sym c.some_long_column.ensures ∙ c.if-some_long_column.true)

pub file_width-size-requires : goal.file_width-size-requires
file_width-size-requires c = omega (arith, width1 c.args.count c.version1-y.ensures, checked_slice c.in-Some.ensures, c.well_formed)

pub returns-then-out-size : goal.returns-then-out-size
returns-then-out-size c =
    write_no_room c.in-Some.ensures (sym c.some_long_column.ensures ∙ c.if-some_long_column.false) c.version1-y.ensures c.file_width-size.ensures
    c.if-out-size.true

pub put_header-requires : goal.put_header-requires
put_header-requires c = omega (arith, width1 c.args.count c.version1-y.ensures, c.file_width-size.ensures, c.if-out-size.false)

pub put_rows-requires : goal.put_rows-requires
put_rows-requires c =
    rw (checked_length c.in-Some.ensures) (omega (arith, c.put_header.auto.out, c.file_width-size.ensures, c.if-out-size.false))

pub returns : goal.returns
returns c =
    write_all c.in-Some.ensures (sym c.some_long_column.ensures ∙ c.if-some_long_column.false) c.version1-y.ensures c.file_width-size.ensures
    c.if-out-size.false c.put_header.ensures c.put_rows.ensures
