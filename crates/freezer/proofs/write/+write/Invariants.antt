use Rattle.std.proofs.Common.{◌+◌, ◌*◌, ◌-◌}
use Rattle.typed_tree.specs.References.{value_of_ref}
use Rattle.typed_tree.specs.Parts.{items_of, fields_of}
use Rattle.typed_tree.specs.Spots.{pair}
use Rattle.frozen_model.specs.Trees.{nodes}
use Rattle.layout_tree.specs.Nodes.{at, noted_in}
use Rattle.layout_tree.specs.Reading.{item_of}
use Rattle.layout_tree.specs.Listing.{version_of}
use Rattle.layout_tree.proofs.Left.{ItemsLeft, FieldsLeft}
use Rattle.freezer.proofs.Left.{ItemsRest, FieldsRest}
use Rattle.freezer.proofs.write.+write.Given as goal
use Rattle.typed_tree.specs.Heights.{height}

abbrev pub decreases-write_part : goal.decreases-write_part
decreases-write_part l = 2 * height (value_of_ref l.v) + 1

abbrev pub decreases-write_items : goal.decreases-write_items
decreases-write_items l = 2 * height (value_of_ref l.v)

abbrev pub decreases-write_pairs : goal.decreases-write_pairs
decreases-write_pairs l = 2 * height (value_of_ref l.v)

abbrev pub decreases-write_pair : goal.decreases-write_pair
decreases-write_pair l = 2 * height (pair (value_of_ref l.key) (value_of_ref l.value))

abbrev pub invariant-write_pairs-loop-i : goal.invariant-write_pairs-loop-i
invariant-write_pairs-loop-i l =
    let m = item_of (at l.layouts l.node) in let all = items_of (value_of_ref l.v) in
    ItemsLeft m all l.i (ItemsRest m all l.fn.region l.region l.block l.i)

abbrev pub decreases-write_fields : goal.decreases-write_fields
decreases-write_fields l = 2 * height (value_of_ref l.v)

abbrev pub invariant-write_items-loop-i : goal.invariant-write_items-loop-i
invariant-write_items-loop-i l =
    let m = item_of (at l.layouts l.node) in let all = items_of (value_of_ref l.v) in
    ItemsLeft m all l.i (ItemsRest m all l.fn.region l.region l.block l.i)

abbrev pub invariant-write_fields-loop-child : goal.invariant-write_fields-loop-child
invariant-write_fields-loop-child l =
    let x = at l.layouts l.node in
    FieldsLeft (noted_in l.layouts) (version_of l.layouts.version) (nodes x) (fields_of (value_of_ref l.v))
    l.child l.end l.i (FieldsRest x (value_of_ref l.v) l.fn.region l.region l.block l.bit l.place)

abbrev pub decreases-write_fields-loop-child : goal.decreases-write_fields-loop-child
decreases-write_fields-loop-child l = l.end - l.child
