-- The first of the keys are there.
use Rattle.std.proofs.Common.{◌≡◌, take}
use Rattle.typed_tree.specs.Tables.{evens}
use Rattle.typed_tree.proofs.entries.key_nodes.Given as goal

abbrev pub invariant-loop-i : goal.invariant-loop-i
invariant-loop-i l = l.keys.items ≡ take l.i (evens l.nodes)
