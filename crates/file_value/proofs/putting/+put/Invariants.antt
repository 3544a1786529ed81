-- The first parts are put; each call is of a part that is less deep, or of the same part.
use Rattle.std.proofs.Common.{◌≡◌, ◌+◌, ◌*◌, ◌++◌, ◌≤◌, take, map, pos}
use Rattle.frozen_model.specs.Values.{count}
use Rattle.typed_tree.specs.Heights.{height, heights}
use Rattle.typed_tree.specs.Parts.{items_of, fields_of, ids_of}
use Rattle.typed_tree.specs.Trees.{trees}
use Rattle.bit_view.specs.FieldCursor.{fields_left}
use Rattle.bit_view.specs.Views.{value_of_view}
use Rattle.file_value.specs.Putting.{listed, PutPairs}
use Rattle.file_value.proofs.putting.+put.Given as goal

abbrev pub decreases-put : goal.decreases-put
decreases-put l = 3 * height (value_of_view l.from) + 2

abbrev pub decreases-put_items : goal.decreases-put_items
decreases-put_items l = 3 * height (value_of_view l.row)

abbrev pub decreases-put_list : goal.decreases-put_list
decreases-put_list l = 3 * height (value_of_view l.list) + 1

abbrev pub decreases-put_set : goal.decreases-put_set
decreases-put_set l = 3 * height (value_of_view l.set) + 1

abbrev pub decreases-put_pairs : goal.decreases-put_pairs
decreases-put_pairs l = 3 * height (value_of_view l.map)

abbrev pub decreases-put_map : goal.decreases-put_map
decreases-put_map l = 3 * height (value_of_view l.map) + 1

abbrev pub decreases-put_optional : goal.decreases-put_optional
decreases-put_optional l = 3 * height (value_of_view l.from) + 1

abbrev pub decreases-put_fields : goal.decreases-put_fields
decreases-put_fields l = 3 * height (value_of_view l.from)

abbrev pub decreases-put_struct : goal.decreases-put_struct
decreases-put_struct l = 3 * height (value_of_view l.from) + 1

abbrev pub invariant-put_items-loop-i : goal.invariant-put_items-loop-i
invariant-put_items-loop-i l =
    (trees l.builder ≡ trees l.initial.builder ++ take l.i (listed (items_of (value_of_view l.row))))
    × (l.ids.items ≡ l.initial.ids.items)

abbrev pub invariant-put_pairs-loop-i : goal.invariant-put_pairs-loop-i
invariant-put_pairs-loop-i l =
    PutPairs (trees l.initial.builder) (trees l.builder) (items_of (value_of_view l.map)) l.i
    × (l.ids.items ≡ l.initial.ids.items)

abbrev pub invariant-put_fields-fields : goal.invariant-put_fields-fields
invariant-put_fields-fields l =
    let v = value_of_view l.from in
    let left = fields_left l.fields in
    (trees l.builder ++ listed (fields_of left) ≡ trees l.initial.builder ++ listed (fields_of v))
    × (l.ids.items ++ map pos (ids_of left) ≡ l.initial.ids.items ++ map pos (ids_of v))
    × (heights (fields_of left) ≤ heights (fields_of v))

abbrev pub decreases-put_fields-fields : goal.decreases-put_fields-fields
decreases-put_fields-fields l = count (fields_of (fields_left l.fields))
