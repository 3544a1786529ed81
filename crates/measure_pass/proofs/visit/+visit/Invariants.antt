use Rattle.std.proofs.Common.{◌+◌, ◌*◌, ◌-◌}
use Rattle.typed_tree.specs.References.{value_of_ref}
use Rattle.typed_tree.specs.Parts.{items_of, fields_of}
use Rattle.typed_tree.specs.Spots.{pair}
use Rattle.frozen_model.specs.Trees.{nodes}
use Rattle.layout_tree.specs.Listing.{version_of}
use Rattle.layout_tree.specs.Nodes.{at, noted_in}
use Rattle.layout_tree.specs.Reading.{item_of}
use Rattle.layout_tree.proofs.Left.{ItemsLeft, FieldsLeft}
use Rattle.measure_pass.proofs.Left.{ItemsRest, FieldsRest}
use Rattle.measure_pass.proofs.visit.+visit.Given as goal
use Rattle.typed_tree.specs.Heights.{height}

abbrev pub decreases-visit_part : goal.decreases-visit_part
decreases-visit_part l = 2 * height (value_of_ref l.v) + 1

abbrev pub decreases-visit_items : goal.decreases-visit_items
decreases-visit_items l = 2 * height (value_of_ref l.v)

abbrev pub decreases-visit_pairs : goal.decreases-visit_pairs
decreases-visit_pairs l = 2 * height (value_of_ref l.v)

abbrev pub decreases-visit_pair : goal.decreases-visit_pair
decreases-visit_pair l = 2 * height (pair (value_of_ref l.key) (value_of_ref l.value))

abbrev pub invariant-visit_pairs-loop-i : goal.invariant-visit_pairs-loop-i
invariant-visit_pairs-loop-i l =
    let m = item_of (at l.fn.layouts l.node) in let all = items_of (value_of_ref l.v) in
    ItemsLeft m all l.i (ItemsRest m all l.fn.layouts l.layouts (l.node + 3) l.from l.next)

abbrev pub decreases-visit_fields : goal.decreases-visit_fields
decreases-visit_fields l = 2 * height (value_of_ref l.v)

abbrev pub invariant-visit_items-loop-i : goal.invariant-visit_items-loop-i
invariant-visit_items-loop-i l =
    let m = item_of (at l.fn.layouts l.node) in let all = items_of (value_of_ref l.v) in
    ItemsLeft m all l.i (ItemsRest m all l.fn.layouts l.layouts (l.node + 3) l.from l.next)

abbrev pub invariant-visit_fields-loop-child : goal.invariant-visit_fields-loop-child
invariant-visit_fields-loop-child l =
    let x = at l.fn.layouts l.node in
    FieldsLeft (noted_in l.fn.layouts) (version_of l.fn.layouts.version) (nodes x)
    (fields_of (value_of_ref l.v)) l.child l.end l.i
    (FieldsRest x (value_of_ref l.v) l.fn.layouts l.layouts l.node l.from l.next l.child)

abbrev pub decreases-visit_fields-loop-child : goal.decreases-visit_fields-loop-child
decreases-visit_fields-loop-child l = l.end - l.child
