-- `lead` meets its contract: the length and the bounds of the second byte agree with the grammar. Assumes nothing.
use Rattle.utf8.proofs.Leads.{lead_two, lead_three, lead_four}
use Rattle.utf8.proofs.Sizes.{first_low, first_high}
use Rattle.utf8.proofs.state.State.lead.Goals as goal

pub returns-in-2 : goal.returns-in-2
returns-in-2 c = search (lead_two, first_low, first_high)

pub returns-in_default-a : goal.returns-in_default-a
returns-in_default-a c = search (lead_three, first_low, first_high)

pub returns-in_default-a-2 : goal.returns-in_default-a-2
returns-in_default-a-2 c = search (lead_four, first_low, first_high)
