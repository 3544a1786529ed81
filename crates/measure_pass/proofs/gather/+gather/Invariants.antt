use Rattle.std.proofs.Common.{◌+◌, ◌*◌, ◌-◌}
use Rattle.frozen_model.specs.Trees.{nodes}
use Rattle.typed_tree.specs.Heights.{height}
use Rattle.typed_tree.specs.References.{value_of_ref}
use Rattle.typed_tree.specs.Parts.{items_of, fields_of}
use Rattle.typed_tree.specs.Spots.{pair}
use Rattle.layout_tree.specs.Listing.{version_of}
use Rattle.layout_tree.specs.Nodes.{at, noted_in}
use Rattle.layout_tree.specs.Reading.{item_of}
use Rattle.layout_tree.proofs.Left.{ItemsLeft, FieldsLeft}
use Rattle.measure_pass.proofs.Gathered.{ItemsRest, FieldsRest}
use Rattle.measure_pass.proofs.gather.+gather.Given as goal

abbrev pub decreases-gather_part : goal.decreases-gather_part
decreases-gather_part l = 2 * height (value_of_ref l.v) + 1

abbrev pub decreases-gather_items : goal.decreases-gather_items
decreases-gather_items l = 2 * height (value_of_ref l.v)

abbrev pub decreases-gather_pairs : goal.decreases-gather_pairs
decreases-gather_pairs l = 2 * height (value_of_ref l.v)

abbrev pub decreases-gather_pair : goal.decreases-gather_pair
decreases-gather_pair l = 2 * height (pair (value_of_ref l.key) (value_of_ref l.value))

abbrev pub decreases-gather_fields : goal.decreases-gather_fields
decreases-gather_fields l = 2 * height (value_of_ref l.v)

abbrev pub invariant-gather_items-loop-i : goal.invariant-gather_items-loop-i
invariant-gather_items-loop-i l =
    let m = item_of (at l.layouts l.node) in let all = items_of (value_of_ref l.v) in
    ItemsLeft m all l.i (ItemsRest m all (l.node + 3) l.parent l.fn.spots.items l.spots.items)

abbrev pub invariant-gather_pairs-loop-i : goal.invariant-gather_pairs-loop-i
invariant-gather_pairs-loop-i l =
    let m = item_of (at l.layouts l.node) in let all = items_of (value_of_ref l.v) in
    ItemsLeft m all l.i (ItemsRest m all (l.node + 3) l.parent l.fn.spots.items l.spots.items)

abbrev pub invariant-gather_fields-loop-child : goal.invariant-gather_fields-loop-child
invariant-gather_fields-loop-child l =
    let x = at l.layouts l.node in
    FieldsLeft (noted_in l.layouts) (version_of l.layouts.version) (nodes x) (fields_of (value_of_ref l.v))
    l.child l.end l.i (FieldsRest x (value_of_ref l.v) l.node l.parent l.fn.spots.items l.spots.items
    l.child)

abbrev pub decreases-gather_fields-loop-child : goal.decreases-gather_fields-loop-child
decreases-gather_fields-loop-child l = l.end - l.child
