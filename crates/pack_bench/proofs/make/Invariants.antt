use Rattle.std.proofs.Common.{◌≡◌, length}
use Rattle.std.specs.List.{AllByRecursion}
use Rattle.typed_tree.specs.Trees.{trees}
use Rattle.pack_bench.specs.Table.{IsUser}
use Rattle.pack_bench.proofs.make.Given as goal

abbrev pub invariant-loop-i : goal.invariant-loop-i
invariant-loop-i l = (length (trees l.builder) ≡ l.i) × AllByRecursion IsUser (trees l.builder)
