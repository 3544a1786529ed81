use Rattle.std.proofs.Common.{◌≡◌}
use Rattle.layout_tree.specs.Nodes.{layout_of}
use Rattle.row_tests.proofs.widths.widen_each.Given as goal

abbrev pub invariant-loop-node : goal.invariant-loop-node
invariant-loop-node l = layout_of l.layouts ≡ layout_of l.fn.layouts
