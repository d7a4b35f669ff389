-- `some_long_column` is `some_above`: the same test of each record. Assumes nothing.
use mathlib.Core.Path.{◌∙◌}
use lib.IntN.{pos}
use lib.Signed.{lt_z}
use borrow.Author.Rules.{rules}
use Rattle.std.proofs.Common.{tests}
use Rattle.std.proofs.lemmas.Iterator.{YieldsList-from_slice}
use Rattle.std.proofs.lemmas.Iterator.Search.{any_from_yields_List}
use Rattle.token_file.specs.Rules.{largest_column, field_at}
use Rattle.token_file.proofs.Judging.{above_any}
use Rattle.token_file.proofs.records.Records.some_long_column.Goals as goal

pub returns : goal.returns
returns c =
    let l = c.args.self.now.all.now in
    any_from_yields_List (λ r. lt_z (pos largest_column) (field_at r 6)) _ _ _ c.any.ensures.ran (YieldsList-from_slice l cc) (λ x b q k. search (rules, tests))
    ∙ above_any largest_column l
