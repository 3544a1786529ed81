use Rattle.std.proofs.Common.{rules}
use Rattle.layout_tree.proofs.Worked.{lists}
use Rattle.file_tests.proofs.cli_texts_tests.two_fields_are_listed.Goals as goal

pub from_nodes-layouts-requires : goal.from_nodes-layouts-requires
from_nodes-layouts-requires g c = lists _ (search (rules, c.in_ok-to_vec.ensures.items_if_clones_equal))
