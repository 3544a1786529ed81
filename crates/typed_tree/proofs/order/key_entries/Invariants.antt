-- The entries so far number the keys of the first nodes.
use Rattle.std.proofs.Common.{◌≡◌, take}
use Rattle.std.specs.List.{enumerate_from}
use Rattle.key_order.specs.Entries.{keys, placed}
use Rattle.typed_tree.specs.Pools.{values_of}
use Rattle.typed_tree.specs.Trees.{trees_in}
use Rattle.typed_tree.proofs.order.key_entries.Given as goal

abbrev pub invariant-loop-node : goal.invariant-loop-node
invariant-loop-node l = record { numbers : placed l.entries.items ≡ enumerate_from 0 (keys l.entries.items); first : keys l.entries.items ≡ take l.node-index (trees_in (values_of l.pool) l.nodes) }
