-- The first of the keys rise.
use Rattle.std.proofs.Common.{◌≡◌, true}
use Rattle.std.specs.List.{AllAdjacentBelow}
use Rattle.frozen_model.specs.Values.{key_less}
use Rattle.typed_tree.specs.Pools.{values_of}
use Rattle.typed_tree.specs.Trees.{trees_in}
use Rattle.typed_tree.proofs.order.keys_rise.Given as goal

abbrev pub invariant-loop-later : goal.invariant-loop-later
invariant-loop-later l = AllAdjacentBelow (λ k m. key_less k m ≡ true) (trees_in (values_of l.pool) l.nodes) l.later
