-- `row` gives the row of the record: none of its numbers is below 0. Assumes nothing.
use mathlib.Core.Path.{refl}
use mathlib.Core.List.{[]}
use Rattle.std.proofs.lemmas.List.Recursion.{and_at}
use Rattle.token_file.specs.Rules.{natural_row}
use Rattle.token_file.specs.Fits.{all_natural}
use Rattle.token_file.proofs.records.Records.row.Goals as goal

pub unreachable-requires : goal.unreachable-requires
unreachable-requires c =
    let s = c.args.self.now in
    c.in_default.ensures (and_at all_natural natural_row refl (λ _ _. refl) s.all.now c.args.i [] c.requires s.natural)
