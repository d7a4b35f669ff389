-- `char_end` is `char_end`: as many bytes more as the run of tails from `at` on has. Assumes nothing.
use mathlib.Core.Path.{◌≡◌, sym, ◌∙◌}
use Rattle.std.proofs.Common.{rules, tests, ◌<◌, length, drop, arith}
use Rattle.std.proofs.lemmas.Iterator.{YieldsList-from_slice}
use Rattle.std.proofs.lemmas.Iterator.Consumers.{count_from_yields_List}
use Rattle.std.proofs.lemmas.Iterator.Search.{YieldsList-from_take_while}
use Rattle.std.proofs.lemmas.List.Folds.{length-prefix_len}
use Rattle.base.specs.Runs.{reach}
use Rattle.base.proofs.Reaches.{reach_end, rest_is}
use Rattle.utf8.specs.Check.{is_tail, in_tails, char_end}
use Rattle.utf8.proofs.Runs.{tails_run}
use Rattle.utf8.proofs.check.char_end.Goals as goal

pub returns-in_default : goal.returns-in_default
unfolding char_end
returns-in_default c =
    let h : length c.args.s.now < c.args.at = grind arith in
    sym (reach_end in_tails c.args.s.now c.args.at (omega arith))

pub returns : goal.returns
unfolding char_end reach
returns c =
    let rest = c.in-Some.rest.now in
    let count = count_from_yields_List c.take_while.result _ c.count.ensures.ran
    (YieldsList-from_take_while _ is_tail (YieldsList-from_slice rest cc) c.take_while.ensures.closure c.take_while.ensures.done (λ x b q k. search (rules, tests)))
    ∙ length-prefix_len is_tail rest in
    let e : rest ≡ drop c.args.at c.args.s.now = c.in-Some.ensures.lookup.0.2 ∙ rest_is c.args.s.now c.args.at in
    rw (count, tails_run rest, e)
