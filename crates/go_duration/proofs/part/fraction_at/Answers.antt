-- `fraction_at` is `fraction_at`, and ends at `fraction_stop`: the digits after a point are those of the rest. Assumes nothing.
use Rattle.std.proofs.Common.{rules, arith}
use Rattle.go_duration.proofs.PartSteps.{fraction_room, fraction_ends}
use Rattle.go_duration.proofs.part.fraction_at.Goals as goal

pub overflow_add-result : goal.overflow_add-result
overflow_add-result c = omega (arith, fraction_room c.args.s.now _ _ _ c.leading_fraction-digits.ensures c.in-46.len_at_least)

pub returns-in-46-clause-ends : goal.returns-in-46-clause-ends
returns-in-46-clause-ends c = fraction_ends c.args.s.now _ _ _ c.leading_fraction-digits.ensures (search rules)
