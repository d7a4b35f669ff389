-- `put_tolerant_notes` stores the reports that are left after those that are stored already: a run of bytes is passed over, and then a step. Assumes nothing.
use Rattle.strings.proofs.Notings.{noting_first, text_fits, noting_go, to_fits, to_fits_2, note_walks, note_room, note_report}
use Rattle.strings.proofs.Notings.{note_fits, noting_note, noting_none, end_room, end_fits, noting_end}
use Rattle.strings.proofs.Decodes.{step_less, run_ge}
use Rattle.strings.proofs.notes.put_tolerant_notes.Goals as goal

pub loop-encoded-init : goal.loop-encoded-init
loop-encoded-init c = search noting_first

pub overflow_add-i : goal.overflow_add-i
overflow_add-i c = search text_fits

pub loop-encoded-smaller-in_default : goal.loop-encoded-smaller-in_default
loop-encoded-smaller-in_default c = search (step_less, run_ge)

pub loop-encoded-preserved-in_default : goal.loop-encoded-preserved-in_default
loop-encoded-preserved-in_default c = search noting_go

pub overflow_add-first : goal.overflow_add-first
overflow_add-first c = search to_fits

pub overflow_add-first-in-Go : goal.overflow_add-first-in-Go
overflow_add-first-in-Go c = search to_fits_2

pub walk-offset-requires : goal.walk-offset-requires
walk-offset-requires c = search note_walks

pub put_report-requires : goal.put_report-requires
put_report-requires c = search (note_room, note_report)

pub overflow_add-p : goal.overflow_add-p
overflow_add-p c = search note_fits

pub loop-encoded-smaller : goal.loop-encoded-smaller
loop-encoded-smaller c = search (step_less, run_ge)

pub loop-encoded-preserved : goal.loop-encoded-preserved
loop-encoded-preserved c = search noting_note

pub returns-in_default-end_report : goal.returns-in_default-end_report
returns-in_default-end_report c = let n = c.in_default-end_report.ensures in search noting_none

pub put_report-requires-in-Some-end_report : goal.put_report-requires-in-Some-end_report
put_report-requires-in-Some-end_report c = let n = c.in-Some-end_report.ensures in search (end_room, end_fits)

pub returns-in-Some-end_report : goal.returns-in-Some-end_report
returns-in-Some-end_report c = let n = c.in-Some-end_report.ensures in search noting_end
