use Rattle.std.proofs.Common.{None, ◌≡◌, ℕ, ◌+◌, ◌-◌, ◌*◌, ◌≤◌, length, List, [], take, drop}
use Rattle.std.specs.Prelude.{ℤ}
use Rattle.compact_wire.specs.Reads.{items, pairs, value, all_fields}
use Rattle.idl_parse.specs.Refs.{type_of_ref, fields_of_refs}
use Rattle.exact_reading.specs.Reading.{seen}
use Rattle.frozen_model.specs.Values.{Value}
use Rattle.wire_scan.proofs.Seen.{Reading}
use Rattle.typed_reading.specs.Counts.{counted_items, counted_pairs, counted_field, counted_fields}
use Rattle.typed_reading.specs.Progress.{after_items, after_pairs, after_field, after_fields}
use Rattle.typed_reading.specs.Kept.{AreKept}
use Rattle.typed_reading.specs.Marks.{Marked, HaveStood, Climbs}
use Rattle.typed_reading.proofs.CountSteps.{no_field_counted, field_counted}
use Rattle.typed_reading.proofs.Steps.{no_more_fields, one_more_field}
use Rattle.typed_reading.proofs.checking.+check.Given as goal

abbrev pub decreases-check_value : goal.decreases-check_value
decreases-check_value l = 5 * l.levels

abbrev pub decreases-check_list : goal.decreases-check_list
decreases-check_list l = 5 * l.levels + 2

abbrev pub decreases-check_items : goal.decreases-check_items
decreases-check_items l = 5 * l.levels + 1

abbrev pub decreases-check_map : goal.decreases-check_map
decreases-check_map l = 5 * l.levels + 2

abbrev pub decreases-check_pairs : goal.decreases-check_pairs
decreases-check_pairs l = 5 * l.levels + 1

abbrev pub decreases-check_typed : goal.decreases-check_typed
decreases-check_typed l = 5 * l.levels + 1

abbrev pub decreases-check_field : goal.decreases-check_field
decreases-check_field l = 5 * l.levels + 2

abbrev pub decreases-check_struct : goal.decreases-check_struct
decreases-check_struct l = 5 * l.levels + 3

abbrev pub invariant-check_items-loop : goal.invariant-check_items-loop
invariant-check_items-loop l =
    (seen (after_items (type_of_ref l.ty) l.progress) (items (value l.levels l.kind) (l.count - l.counter) l.rest)
    ≡ seen (after_items (type_of_ref l.ty) l.initial.progress) (items (value l.levels l.kind) l.count l.bytes))
    × (l.progress.next + length l.rest ≤ l.initial.progress.next + length l.bytes)
    × (l.marks.items ≡ l.initial.marks.items)
    × (l.progress.found ≡ None → seen (counted_items (type_of_ref l.ty) l.sums) (items (value l.levels l.kind) (l.count - l.counter) l.rest)
    ≡ seen (counted_items (type_of_ref l.ty) l.initial.sums) (items (value l.levels l.kind) l.count l.bytes))

abbrev pub invariant-check_pairs-loop : goal.invariant-check_pairs-loop
invariant-check_pairs-loop l =
    (ks : List (ℕ × Value))
    × (seen (after_pairs (type_of_ref l.key_type) (type_of_ref l.value_type) (l.progress, ks))
    (pairs (value l.levels l.kinds.key) (value l.levels l.kinds.value) (l.count - l.counter) l.rest)
    ≡ seen (after_pairs (type_of_ref l.key_type) (type_of_ref l.value_type) (l.initial.progress, []))
    (pairs (value l.levels l.kinds.key) (value l.levels l.kinds.value) l.count l.bytes))
    × (l.progress.next + length l.rest ≤ l.initial.progress.next + length l.bytes)
    × (l.marks.items ≡ l.initial.marks.items)
    × Climbs 0 l.progress.next ks
    × AreKept l.kinds.key ks l.keys.items
    × (l.progress.found ≡ None → seen (counted_pairs (type_of_ref l.key_type) (type_of_ref l.value_type) l.sums)
    (pairs (value l.levels l.kinds.key) (value l.levels l.kinds.value) (l.count - l.counter) l.rest)
    ≡ seen (counted_pairs (type_of_ref l.key_type) (type_of_ref l.value_type) l.initial.sums)
    (pairs (value l.levels l.kinds.key) (value l.levels l.kinds.value) l.count l.bytes))

abbrev pub invariant-check_struct-fields : goal.invariant-check_struct-fields
invariant-check_struct-fields l =
    ((ids : List ℤ) × Marked (fields_of_refs l.fields) (drop l.base l.marks.items) ids
    × Reading (after_field (fields_of_refs l.fields)) (after_fields (fields_of_refs l.fields)) (no_more_fields (fields_of_refs l.fields)) (one_more_field (fields_of_refs l.fields)) l.levels (l.progress, ids) l.before.id l.rest
    (seen (after_fields (fields_of_refs l.fields) (l.initial.progress, [])) (all_fields l.levels (value l.levels) l.bytes))
    × (l.progress.found ≡ None → Reading (counted_field (fields_of_refs l.fields)) (counted_fields (fields_of_refs l.fields)) (no_field_counted (fields_of_refs l.fields)) (field_counted (fields_of_refs l.fields)) l.levels (l.sums, ids) l.before.id l.rest
    (seen (counted_fields (fields_of_refs l.fields) (l.initial.sums, [])) (all_fields l.levels (value l.levels) l.bytes)))
    × HaveStood (fields_of_refs l.fields) ids l.stood)
    × (l.progress.next + length l.rest ≤ l.node + length l.bytes + 1)
    × (take l.base l.marks.items ≡ take l.base l.initial.marks.items)

abbrev pub decreases-check_struct-fields : goal.decreases-check_struct-fields
decreases-check_struct-fields l = length l.rest
