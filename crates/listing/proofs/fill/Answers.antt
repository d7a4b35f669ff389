-- `fill` lists the text, which is what is printed, since the buffers suffice. Assumes nothing.
use Rattle.listing_lines.proofs.Suffices.{prints, never_short}
use Rattle.listing.proofs.fill.Goals as goal

pub unwrap-requires : goal.unwrap-requires
unwrap-requires c = never_short c.requires c.list.ensures

pub returns : goal.returns
returns c = prints c.requires c.list.ensures c.unwrap.ensures
