use Rattle.std.proofs.Common.{◌≡◌, ◌+◌, ◌-◌, ◌*◌, ◌≤◌, List, length, take, drop}
use Rattle.std.specs.Prelude.{ℤ}
use Rattle.frozen_model.specs.Values.{Value}
use Rattle.compact_wire.specs.Reads.{items, pairs, value}
use Rattle.idl_parse.specs.Refs.{type_of_ref, fields_of_refs}
use Rattle.exact_reading.specs.Reading.{seen}
use Rattle.typed_tree.specs.Trees.{trees}
use Rattle.compact_codec.specs.Building.{AreClean, ArePairsClean, with_values, with_pairs, Holds, AreSet}
use Rattle.compact_codec.proofs.Structs.{Left}
use Rattle.compact_codec.proofs.building.+build.Given as goal

abbrev pub decreases-build_value : goal.decreases-build_value
decreases-build_value l = 5 * l.levels

abbrev pub decreases-build_items : goal.decreases-build_items
decreases-build_items l = 5 * l.levels + 1

abbrev pub decreases-build_list : goal.decreases-build_list
decreases-build_list l = 5 * l.levels + 2

abbrev pub decreases-build_set : goal.decreases-build_set
decreases-build_set l = 5 * l.levels + 2

abbrev pub decreases-build_map : goal.decreases-build_map
decreases-build_map l = 5 * l.levels + 2

abbrev pub decreases-build_pairs : goal.decreases-build_pairs
decreases-build_pairs l = 5 * l.levels + 1

abbrev pub invariant-build_items-loop : goal.invariant-build_items-loop
invariant-build_items-loop l =
    AreClean (type_of_ref l.ty) (items (value l.levels l.kind) (l.count - l.counter) l.rest)
    × (seen (with_values (type_of_ref l.ty) (trees l.builder)) (items (value l.levels l.kind) (l.count - l.counter) l.rest)
    ≡ seen (with_values (type_of_ref l.ty) (trees l.initial.builder)) (items (value l.levels l.kind) l.count l.bytes))
    × (l.ids.items ≡ l.initial.ids.items) × (l.marks.items ≡ l.initial.marks.items)

abbrev pub invariant-build_pairs-loop : goal.invariant-build_pairs-loop
invariant-build_pairs-loop l =
    ArePairsClean (type_of_ref l.key_type) (type_of_ref l.value_type) (pairs (value l.levels l.kinds.key) (value l.levels l.kinds.value) (l.count - l.counter) l.rest)
    × (seen (with_pairs (type_of_ref l.key_type) (type_of_ref l.value_type) (trees l.builder)) (pairs (value l.levels l.kinds.key) (value l.levels l.kinds.value) (l.count - l.counter) l.rest)
    ≡ seen (with_pairs (type_of_ref l.key_type) (type_of_ref l.value_type) (trees l.initial.builder)) (pairs (value l.levels l.kinds.key) (value l.levels l.kinds.value) l.count l.bytes))
    × (l.ids.items ≡ l.initial.ids.items) × (l.marks.items ≡ l.initial.marks.items)

abbrev pub decreases-build_typed : goal.decreases-build_typed
decreases-build_typed l = 5 * l.levels + 1

abbrev pub decreases-build_field : goal.decreases-build_field
decreases-build_field l = 5 * l.levels + 2

abbrev pub decreases-build_struct : goal.decreases-build_struct
decreases-build_struct l = 5 * l.levels + 3

abbrev pub decreases-build_struct-each : goal.decreases-build_struct-each
decreases-build_struct-each l = length l.rest

abbrev pub invariant-build_struct-each : goal.invariant-build_struct-each
invariant-build_struct-each l =
    ((rs : List (ℤ × Value)) × Left l.levels (fields_of_refs l.fields) l.bytes rs l.before.id l.rest
    × Holds (fields_of_refs l.fields) (trees l.initial.builder) rs (trees l.builder) (drop l.first_id l.ids.items) (drop l.first_mark l.marks.items))
    × (l.first_id ≤ length l.ids.items)
    × (take l.first_id l.ids.items ≡ l.initial.ids.items) × (take l.first_mark l.marks.items ≡ take l.first_mark l.initial.marks.items)
    × AreSet l.filled (drop l.first_mark l.marks.items)
