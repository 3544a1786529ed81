use Rattle.std.proofs.Common.{is_lt, refl}
use Rattle.base_lists.proofs.Insertion.{in_order_moves}
use Rattle.base_lists.proofs.laws.insertion_moves.Goals as goal

pub returns : goal.returns
returns g c = λ key. in_order_moves (λ a b. is_lt (g.K.Ord.cmp a b)) key
