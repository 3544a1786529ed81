-- Each key is below all later ones, so the first values of the two lists are one, and so are the rest.
use Rattle.key_order.proofs.Insertion.{rising_is_unique}
use Rattle.key_order.proofs.laws.rising_is_unique.Goals as goal

pub returns : goal.returns
returns c = rising_is_unique
