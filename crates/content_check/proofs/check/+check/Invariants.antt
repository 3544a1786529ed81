use Rattle.std.proofs.Common.{◌+◌, ◌*◌, ◌-◌}
use Rattle.frozen_model.specs.Trees.{nodes}
use Rattle.layout_tree.specs.Nodes.{at, noted_in}
use Rattle.layout_tree.specs.Listing.{version_of}
use Rattle.layout_tree.specs.Reading.{item_of}
use Rattle.layout_tree.proofs.Left.{Left}
use Rattle.content_check.proofs.Walks.{FieldsRest, ListLeft}
use Rattle.content_check.proofs.MapForms.{MapLeft}
use Rattle.content_check.proofs.check.+check.Given as goal

abbrev pub decreases-check_part : goal.decreases-check_part
decreases-check_part l = 3 * nodes (at l.layouts.now l.node) + 2

abbrev pub decreases-check_list : goal.decreases-check_list
decreases-check_list l = 3 * nodes (at l.layouts.now l.node) + 1

abbrev pub decreases-check_fields : goal.decreases-check_fields
decreases-check_fields l = 3 * nodes (at l.layouts.now l.node) + 1

abbrev pub decreases-check_optional : goal.decreases-check_optional
decreases-check_optional l = 3 * nodes (at l.layouts.now l.node) + 1

abbrev pub decreases-check_list_items : goal.decreases-check_list_items
decreases-check_list_items l = 3 * nodes (at l.layouts.now l.node)

abbrev pub invariant-check_fields-loop-child : goal.invariant-check_fields-loop-child
invariant-check_fields-loop-child l = Left (noted_in l.layouts) (version_of l.layouts.version)
    (nodes (at l.layouts l.node)) l.child l.end
    (FieldsRest l.content (version_of l.layouts.version) (at l.layouts l.node) l.start l.bit l.fn.from l.place
    l.reach)

abbrev pub decreases-check_fields-loop-child : goal.decreases-check_fields-loop-child
decreases-check_fields-loop-child l = l.end - l.child

abbrev pub invariant-check_list_items-loop-left : goal.invariant-check_list_items-loop-left
invariant-check_list_items-loop-left l = ListLeft l.content (item_of (at l.layouts l.node)) l.start l.n
    l.fn.from l.left l.bit l.reach

abbrev pub decreases-check_list_items-loop-left : goal.decreases-check_list_items-loop-left
decreases-check_list_items-loop-left l = l.left

abbrev pub decreases-check_map : goal.decreases-check_map
decreases-check_map l = 3 * nodes (at l.layouts.now l.node) + 1

abbrev pub decreases-check_map_items : goal.decreases-check_map_items
decreases-check_map_items l = 3 * nodes (at l.layouts.now l.node)

abbrev pub invariant-check_map_items-loop-left : goal.invariant-check_map_items-loop-left
invariant-check_map_items-loop-left l = MapLeft l.content (noted_in l.layouts) (version_of l.layouts.version)
    l.node (at l.layouts l.node) l.start l.n l.fn.from l.before l.left l.bit l.reach

abbrev pub decreases-check_map_items-loop-left : goal.decreases-check_map_items-loop-left
decreases-check_map_items-loop-left l = l.left
