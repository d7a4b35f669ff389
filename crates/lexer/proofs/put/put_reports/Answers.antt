-- `put_reports` lays the one report at the token's start, or those of a string of one line. Assumes nothing.
use mathlib.Core.Path.{refl}
use Rattle.lexer.proofs.Puts.{one_fits, one_numbers, string_fits, string_said}
use Rattle.lexer.proofs.put.put_reports.Goals as goal

pub put_report-requires : goal.put_report-requires
put_report-requires c = one_fits c.requires c.in-Some.ensures _ c.number.ensures

pub returns-in-Some : goal.returns-in-Some
returns-in-Some c = rw (one_numbers c.requires c.in-Some.ensures _ c.number.ensures) c.put_report.ensures

pub put_string_notes-requires : goal.put_string_notes-requires
put_string_notes-requires c = rw c.from.ensures (string_fits c.requires c.in-None.ensures refl)

pub returns-in-None : goal.returns-in-None
returns-in-None c = rw (string_said c.requires c.in-None.ensures, ← c.from.ensures) c.put_string_notes.ensures
