use Rattle.std.proofs.Common.{◌≡◌, ◌+◌, ◌*◌, drop}
use Rattle.idl_profile.specs.Types.{fields_of}
use Rattle.idl_parse.specs.Refs.{type_of_ref}
use Rattle.serde_json.specs.View.{items_view, members_view}
use Rattle.typed_tree.proofs.Typed.{size}
use Rattle.json_value.specs.Nodes.{nodes_in, nodes_of_members}
use Rattle.json_value.specs.Reading.{after_items, after_pairs, after_members, HasRoom}
use Rattle.json_value.proofs.checking.+check.Given as goal

abbrev pub decreases-check_value : goal.decreases-check_value
decreases-check_value l = 4 * size (type_of_ref l.ty) + 3

abbrev pub decreases-check_list : goal.decreases-check_list
decreases-check_list l = 4 * size (type_of_ref l.ty) + 2

abbrev pub decreases-check_items : goal.decreases-check_items
decreases-check_items l = 4 * size (type_of_ref l.ty) + 4

abbrev pub decreases-check_struct : goal.decreases-check_struct
decreases-check_struct l = 4 * size (type_of_ref l.ty) + 2

abbrev pub decreases-check_members : goal.decreases-check_members
decreases-check_members l = 4 * size (type_of_ref l.ty) + 1

abbrev pub invariant-check_items-loop-item : goal.invariant-check_items-loop-item
invariant-check_items-loop-item l =
    (after_items (type_of_ref l.ty) l.progress (items_view (drop l.item-index l.item-items)) ≡ after_items (type_of_ref l.ty) l.initial.progress (items_view l.item-items))
    × HasRoom l.progress (nodes_in (items_view (drop l.item-index l.item-items)))

abbrev pub invariant-check_members-loop-name : goal.invariant-check_members-loop-name
invariant-check_members-loop-name l =
    (after_members (fields_of (type_of_ref l.ty)) l.progress (members_view l.name-iterator) ≡ after_members (fields_of (type_of_ref l.ty)) l.initial.progress (members_view l.members.entries))
    × HasRoom l.progress (nodes_of_members (members_view l.name-iterator))

abbrev pub decreases-check_set : goal.decreases-check_set
decreases-check_set l = 4 * size (type_of_ref l.ty) + 2

abbrev pub decreases-check_map : goal.decreases-check_map
decreases-check_map l = 4 * size (type_of_ref l.ty) + 2

abbrev pub decreases-check_entries : goal.decreases-check_entries
decreases-check_entries l = 4 * (size (type_of_ref l.key_type) + size (type_of_ref l.value_type)) + 5

abbrev pub decreases-check_entry : goal.decreases-check_entry
decreases-check_entry l = 4 * (size (type_of_ref l.key_type) + size (type_of_ref l.value_type)) + 4

abbrev pub invariant-check_entries-loop-item : goal.invariant-check_entries-loop-item
invariant-check_entries-loop-item l =
    (after_pairs (type_of_ref l.key_type) (type_of_ref l.value_type) l.progress (items_view (drop l.item-index l.item-items)) ≡ after_pairs (type_of_ref l.key_type) (type_of_ref l.value_type) l.initial.progress (items_view l.item-items))
    × HasRoom l.progress (nodes_in (items_view (drop l.item-index l.item-items)))
