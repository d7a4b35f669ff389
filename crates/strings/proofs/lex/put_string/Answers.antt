-- `put_string` stores what is left after what is stored already: all of it where it is text, else a run of bytes that stand for themselves,
-- then the closing quote, escapes of one letter, or a step. Assumes nothing.
use Rattle.strings.proofs.Decodes.{step_four}
use Rattle.strings.proofs.Writings.{writing_first, run_room, run_closed, next_in, escapes_fit, escaped, escaped_fits}
use Rattle.strings.proofs.Writings.{step_closed, step_room, stepped, step_fits, used_fits, stepped_less}
use Rattle.strings.proofs.Closings.{left_source, text_left, last_copied}
use Rattle.strings.proofs.lex.put_string.Goals as goal

pub loop-i-init : goal.loop-i-init
loop-i-init c = search writing_first

pub overflow_sub-len : goal.overflow_sub-len
overflow_sub-len c = search text_left

pub slice_bounds-copy-end : goal.slice_bounds-copy-end
slice_bounds-copy-end c = left_source c.loop-i.invariant

pub returns-then-strict-left : goal.returns-then-strict-left
returns-then-strict-left c = search (last_copied c.loop-i.invariant)

pub copy-requires-in-loop-i : goal.copy-requires-in-loop-i
copy-requires-in-loop-i c = search run_room

pub returns-then-peek-eq34 : goal.returns-then-peek-eq34
returns-then-peek-eq34 c = search run_closed

pub slice_bounds-put_simple-count-in-loop-i : goal.slice_bounds-put_simple-count-in-loop-i
slice_bounds-put_simple-count-in-loop-i c = search next_in

pub slice_bounds-put_simple-start-in-loop-i : goal.slice_bounds-put_simple-start-in-loop-i
slice_bounds-put_simple-start-in-loop-i c = search next_in

pub put_simple-escapes-requires : goal.put_simple-escapes-requires
put_simple-escapes-requires c = search escapes_fit

pub overflow_add-p-then-escapes-ne0 : goal.overflow_add-p-then-escapes-ne0
overflow_add-p-then-escapes-ne0 c = search escaped_fits

pub loop-i-preserved-then-escapes-ne0 : goal.loop-i-preserved-then-escapes-ne0
loop-i-preserved-then-escapes-ne0 c = search escaped

pub put-requires : goal.put-requires
put-requires c = search (step_four, step_room)

pub overflow_add-p-in-Go : goal.overflow_add-p-in-Go
overflow_add-p-in-Go c = search step_fits

pub overflow_add-i-in-Go : goal.overflow_add-i-in-Go
overflow_add-i-in-Go c = search used_fits

pub loop-i-smaller : goal.loop-i-smaller
loop-i-smaller c = search stepped_less

pub loop-i-preserved : goal.loop-i-preserved
loop-i-preserved c = search stepped

pub returns-in-Stop : goal.returns-in-Stop
returns-in-Stop c = search step_closed
