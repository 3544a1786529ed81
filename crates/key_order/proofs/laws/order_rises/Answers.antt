-- Each insertion keeps each key below all later ones.
use Rattle.key_order.proofs.Insertion.{order_rises}
use Rattle.key_order.proofs.laws.order_rises.Goals as goal

pub returns : goal.returns
returns c = order_rises
