use Rattle.std.proofs.Common.{◌≡◌, ◌+◌, ◌-◌, ◌++◌, ◌≤◌, length, map, take, vec_len, vec_capacity}
use Rattle.typed_tree.specs.Spots.{item_link}
use Rattle.typed_tree.proofs.items.push_items.Given as goal

abbrev pub invariant-loop-node : goal.invariant-loop-node
invariant-loop-node l = (l.links.items ≡ l.initial.links.items ++ map item_link (take l.node-index l.nodes)) × (vec_len l.links + (length l.nodes - l.node-index) ≤ vec_capacity l.links)
