-- The first parts are put; each call is of a part of a smaller type, or of the same part.
use Rattle.std.proofs.Common.{◌≡◌, ◌+◌, ◌*◌, ◌++◌, take, map}
use Rattle.idl_profile.specs.Types.{DefField, fields_of}
use Rattle.idl_parse.specs.Refs.{field_of_ref}
use Rattle.typed_tree.specs.Parts.{items_of, fields_of as values_in}
use Rattle.typed_tree.specs.Trees.{trees}
use Rattle.typed_tree.proofs.Typed.{size}
use Rattle.evolve.specs.Lenses.{type_of_lens, value_of_lens}
use Rattle.file_value.specs.Putting.{listed, PutPairs}
use Rattle.lens_values.proofs.putting.+put.Given as goal

abbrev pub decreases-put : goal.decreases-put
decreases-put l = 5 * size (type_of_lens l.from) + 2

abbrev pub decreases-put_items : goal.decreases-put_items
decreases-put_items l = 5 * size (type_of_lens l.row)

abbrev pub decreases-put_list : goal.decreases-put_list
decreases-put_list l = 5 * size (type_of_lens l.list) + 1

abbrev pub decreases-put_set : goal.decreases-put_set
decreases-put_set l = 5 * size (type_of_lens l.set) + 1

abbrev pub decreases-put_pairs : goal.decreases-put_pairs
decreases-put_pairs l = 5 * size (type_of_lens l.map)

abbrev pub decreases-put_map : goal.decreases-put_map
decreases-put_map l = 5 * size (type_of_lens l.map) + 1

abbrev pub decreases-put_part : goal.decreases-put_part
decreases-put_part l = 5 * size (field_of_ref l.field).type + 3

abbrev pub decreases-put_fields : goal.decreases-put_fields
decreases-put_fields l = 5 * size (type_of_lens l.from)

abbrev pub decreases-put_struct : goal.decreases-put_struct
decreases-put_struct l = 5 * size (type_of_lens l.from) + 1

abbrev pub invariant-put_items-loop-i : goal.invariant-put_items-loop-i
invariant-put_items-loop-i l =
    (trees l.builder ≡ trees l.initial.builder ++ take l.i (listed (items_of (value_of_lens l.row))))
    × (l.ids.items ≡ l.initial.ids.items)

abbrev pub invariant-put_pairs-loop-i : goal.invariant-put_pairs-loop-i
invariant-put_pairs-loop-i l =
    PutPairs (trees l.initial.builder) (trees l.builder) (items_of (value_of_lens l.map)) l.i
    × (l.ids.items ≡ l.initial.ids.items)

abbrev pub invariant-put_fields-loop-i : goal.invariant-put_fields-loop-i
invariant-put_fields-loop-i l =
    (trees l.builder ≡ trees l.initial.builder ++ take l.i (listed (values_in (value_of_lens l.from))))
    × (l.ids.items
    ≡ l.initial.ids.items ++ take l.i (map (λ (f : DefField). f.id) (fields_of (type_of_lens l.from))))
