-- The nodes of the first pairs are there.
use Rattle.std.proofs.Common.{◌≡◌, take}
use Rattle.typed_tree.specs.Tables.{turned}
use Rattle.typed_tree.proofs.entries.nodes_of_pairs.Given as goal

abbrev pub invariant-loop-place : goal.invariant-loop-place
invariant-loop-place l = l.by_turns.items ≡ turned l.nodes (take l.place-index l.places)
