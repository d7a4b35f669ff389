-- `store_block` leaves the stores of a block: the bytes that the block has been filled with are all its bytes. Assumes nothing.
use mathlib.Core.Path.{◌≡◌, ◌∙◌}
use borrow.Author.Rules.{rules}
use Rattle.base.proofs.Stores.{overlaid_all}
use Rattle.base.proofs.store_block.Goals as goal

pub returns : goal.returns
returns c =
    let s = c.args.xs.now in
    let f : c.store.new.buf ≡ s = c.store.ensures ∙ overlaid_all s _ (search rules) in
    rw f at c.store-2.ensures
