-- `measure` measures what is left with what is counted already: a part that is read at once, and then the closing quote or a step.
-- Assumes nothing.
use Rattle.strings.proofs.Decodes.{step_four}
use Rattle.strings.proofs.Turns.{measuring_first, part_in, part_fits, quote_fits, measuring_quote, measuring_stop, measuring_go, measuring_less}
use Rattle.strings.proofs.Turns.{step_fits, reports_fit, used_fits}
use Rattle.strings.proofs.literal.Literal.measure.Goals as goal

pub loop-s-init : goal.loop-s-init
loop-s-init c = search measuring_first

pub overflow_add-count : goal.overflow_add-count
overflow_add-count c = search part_fits

pub overflow_add-stop : goal.overflow_add-stop
overflow_add-stop c = search quote_fits

pub returns-then-peek-eq34 : goal.returns-then-peek-eq34
returns-then-peek-eq34 c = search measuring_quote

pub step_at-st-requires : goal.step_at-st-requires
step_at-st-requires c = search part_in

pub feed-state-requires : goal.feed-state-requires
feed-state-requires c = search step_four

pub overflow_add-count-in-Go : goal.overflow_add-count-in-Go
overflow_add-count-in-Go c = search step_fits

pub overflow_add-reports : goal.overflow_add-reports
overflow_add-reports c = search reports_fit

pub overflow_add-i : goal.overflow_add-i
overflow_add-i c = search used_fits

pub loop-s-smaller : goal.loop-s-smaller
loop-s-smaller c = search measuring_less

pub loop-s-preserved : goal.loop-s-preserved
loop-s-preserved c = search measuring_go

pub returns-in-Stop : goal.returns-in-Stop
returns-in-Stop c = search measuring_stop
