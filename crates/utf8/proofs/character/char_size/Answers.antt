-- `char_size` meets its contract: the size goes by what the first byte wants after it. Assumes nothing.
use Rattle.utf8.proofs.Sizes.{size_by}
use Rattle.utf8.proofs.character.char_size.Goals as goal

pub returns-in-Between : goal.returns-in-Between
returns-in-Between c = rw (size_by _ _ _ _ c.in_ok-first.ensures.cases.0 c.in-Between.ensures)

pub returns-in-Wants : goal.returns-in-Wants
returns-in-Wants c = rw (size_by _ _ _ _ c.in_ok-first.ensures.cases.0 c.in-Wants.ensures) c.long_size.ensures

pub returns-in-IllFormed : goal.returns-in-IllFormed
returns-in-IllFormed c = rw (size_by _ _ _ _ c.in_ok-first.ensures.cases.0 c.in-IllFormed.ensures)
