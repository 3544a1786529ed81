use Rattle.frozen_laws.proofs.Leafwise.{leafwise_flip}
use Rattle.frozen_laws.proofs.SameKinds.{kind_tree_along, kinds_alike}
use Rattle.frozen_laws.proofs.Limits.{part_small}
use Rattle.frozen_laws.proofs.strides_are_small.Goals as goal

pub returns-clause-kinds : goal.returns-clause-kinds
returns-clause-kinds c l = (λ k. kind_tree_along (kinds_alike l) k, λ k. kind_tree_along (leafwise_flip (kinds_alike l)) k)

pub returns-clause-strides : goal.returns-clause-strides
returns-clause-strides c l s i n h w p = part_small p h w
