-- Each insertion only moves values.
use Rattle.key_order.proofs.Insertion.{order_moves}
use Rattle.key_order.proofs.laws.order_moves.Goals as goal

pub returns : goal.returns
returns c = order_moves
