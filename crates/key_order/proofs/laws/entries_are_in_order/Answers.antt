-- The keys of the items are those of the entries.
use Rattle.key_order.proofs.Items.{entries_are_in_order}
use Rattle.key_order.proofs.laws.entries_are_in_order.Goals as goal

pub returns : goal.returns
returns c = entries_are_in_order
