use Rattle.std.proofs.Common.{rules}
use Rattle.layout_tree.proofs.Worked.{lists}
use Rattle.layout_tests.proofs.layout_tree_tests.nodes_of_two_fields.Goals as goal

pub from_nodes-layouts-requires : goal.from_nodes-layouts-requires
from_nodes-layouts-requires c d = lists _ (search (rules, d.in_ok-to_vec.ensures.items_if_clones_equal))
