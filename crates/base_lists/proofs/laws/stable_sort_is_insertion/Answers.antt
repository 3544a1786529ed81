use Rattle.std.proofs.Common.{is_lt, refl}
use Rattle.base_lists.proofs.Insertion.{sorted-in_order}
use Rattle.base_lists.proofs.laws.stable_sort_is_insertion.Goals as goal

pub returns : goal.returns
returns g c = λ key. sorted-in_order g.K.Ord.cmp g.met.K.Ord.total (λ a b. is_lt (g.K.Ord.cmp a b)) (λ a b. refl) key
