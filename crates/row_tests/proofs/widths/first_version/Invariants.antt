use Rattle.std.proofs.Common.{◌≡◌, map, take}
use Rattle.layout_tree.specs.Nodes.{listed}
use Rattle.row_tests.specs.Widths.{first_node}
use Rattle.row_tests.proofs.widths.first_version.Given as goal

abbrev pub invariant-loop-number : goal.invariant-loop-number
invariant-loop-number l = l.nodes.items ≡ map first_node (take l.number (listed l.layouts))
