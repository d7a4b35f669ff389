-- `simple_count` counts the pairs at the front that are escapes. Assumes nothing.
use mathlib.Core.Path.{refl, ◌∙◌}
use Rattle.std.proofs.Common.{rules, tests, is_some}
use Rattle.std.proofs.lemmas.Iterator.{YieldsList-from_slice}
use Rattle.std.proofs.lemmas.Iterator.Consumers.{count_from_yields_List}
use Rattle.std.proofs.lemmas.Iterator.Search.{YieldsList-from_take_while}
use Rattle.std.proofs.lemmas.List.Folds.{length-prefix_len}
use Rattle.strings.proofs.Pairs.{pair_at, pairs_are, pairs_count}
use Rattle.strings.proofs.literal.simple_count.Goals as goal

pub returns-clause-count : goal.returns-clause-count
returns-clause-count c =
    let pairs = c.as_chunks.result.0.now in
    let count = count_from_yields_List c.take_while.result _ c.count.ensures.ran
    (YieldsList-from_take_while _ (λ p. is_some (pair_at p)) (YieldsList-from_slice pairs cc) c.take_while.ensures.closure c.take_while.ensures.done
    (λ x b q k. search (rules, tests)))
    ∙ length-prefix_len (λ p. is_some (pair_at p)) pairs in
    count ∙ pairs_count pairs ∙ rw (c.as_chunks.ensures.front, ← pairs_are c.args.t.now) refl
