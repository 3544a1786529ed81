use Rattle.std.proofs.Common.{◌≡◌, length}
use Rattle.typed_tree.specs.Trees.{trees}
use Rattle.tree_bench.proofs.make.Given as goal

abbrev pub invariant-loop-i : goal.invariant-loop-i
invariant-loop-i l = length (trees l.builder) ≡ l.i
