use Rattle.std.proofs.Common.{◌+◌, ◌*◌, ◌-◌}
use Rattle.frozen_model.specs.Trees.{nodes}
use Rattle.typed_tree.specs.Heights.{height}
use Rattle.typed_tree.specs.References.{value_of_ref}
use Rattle.typed_tree.specs.Parts.{items_of, fields_of}
use Rattle.typed_tree.specs.Spots.{pair}
use Rattle.layout_tree.specs.Nodes.{at, noted_in}
use Rattle.layout_tree.specs.Reading.{item_of}
use Rattle.layout_tree.specs.Listing.{version_of}
use Rattle.layout_tree.proofs.Left.{ItemsLeft, FieldsLeft}
use Rattle.value_bounds.proofs.Left.{ItemsRest, FieldsRest}
use Rattle.value_bounds.proofs.walk.+walk.Given as goal

abbrev pub decreases-see_part : goal.decreases-see_part
decreases-see_part l = 2 * height (value_of_ref l.v) + 1

abbrev pub decreases-see_items : goal.decreases-see_items
decreases-see_items l = 2 * height (value_of_ref l.v)

abbrev pub decreases-see_pairs : goal.decreases-see_pairs
decreases-see_pairs l = 2 * height (value_of_ref l.v)

abbrev pub decreases-see_pair : goal.decreases-see_pair
decreases-see_pair l = 2 * height (pair (value_of_ref l.key) (value_of_ref l.value))

abbrev pub decreases-see_fields : goal.decreases-see_fields
decreases-see_fields l = 2 * height (value_of_ref l.v)

abbrev pub invariant-see_items-loop-i : goal.invariant-see_items-loop-i
invariant-see_items-loop-i l =
    let m = item_of (at l.layouts l.node) in let all = items_of (value_of_ref l.v) in
    ItemsLeft m all l.i (ItemsRest m all l.fn.bounds l.bounds (l.node + 3))

abbrev pub invariant-see_pairs-loop-i : goal.invariant-see_pairs-loop-i
invariant-see_pairs-loop-i l =
    let m = item_of (at l.layouts l.node) in let all = items_of (value_of_ref l.v) in
    ItemsLeft m all l.i (ItemsRest m all l.fn.bounds l.bounds (l.node + 3))

abbrev pub invariant-see_fields-loop-child : goal.invariant-see_fields-loop-child
invariant-see_fields-loop-child l =
    let x = at l.layouts l.node in
    FieldsLeft (noted_in l.layouts) (version_of l.layouts.version) (nodes x) (fields_of (value_of_ref l.v))
    l.child l.end l.i (FieldsRest x (value_of_ref l.v) l.fn.bounds l.bounds l.node l.child)

abbrev pub decreases-see_fields-loop-child : goal.decreases-see_fields-loop-child
decreases-see_fields-loop-child l = l.end - l.child
