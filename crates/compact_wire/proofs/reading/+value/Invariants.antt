use Rattle.std.proofs.Common.{◌≡◌, ◌+◌, ◌-◌, ◌*◌, length}
use Rattle.compact_wire.specs.Reads.{items, pairs, value}
use Rattle.compact_wire.proofs.ReadSteps.{with_nodes, with_pairs, Reading}
use Rattle.compact_wire.proofs.reading.+value.Given as goal

abbrev pub decreases-read_fields : goal.decreases-read_fields
decreases-read_fields l = 5 * l.levels + 2

abbrev pub decreases-read_items : goal.decreases-read_items
decreases-read_items l = 5 * l.levels + 1

abbrev pub decreases-read_list : goal.decreases-read_list
decreases-read_list l = 5 * l.levels + 2

abbrev pub decreases-read_set : goal.decreases-read_set
decreases-read_set l = 5 * l.levels + 2

abbrev pub decreases-read_struct : goal.decreases-read_struct
decreases-read_struct l = 5 * l.levels + 3

abbrev pub decreases-read_typed : goal.decreases-read_typed
decreases-read_typed l = 5 * l.levels + 1

abbrev pub decreases-read_value : goal.decreases-read_value
decreases-read_value l = 5 * l.levels

abbrev pub invariant-read_fields-fields : goal.invariant-read_fields-fields
invariant-read_fields-fields l = Reading l.levels l.found.items l.before.id l.rest l.bytes

abbrev pub decreases-read_fields-fields : goal.decreases-read_fields-fields
decreases-read_fields-fields l = length l.rest

abbrev pub invariant-read_items-loop : goal.invariant-read_items-loop
invariant-read_items-loop l =
    with_nodes l.found.items (items (value l.levels l.kind) (l.count - l.counter) l.rest) ≡ items
    (value l.levels l.kind) l.count l.bytes

abbrev pub decreases-read_map : goal.decreases-read_map
decreases-read_map l = 5 * l.levels + 3

abbrev pub decreases-read_some_pairs : goal.decreases-read_some_pairs
decreases-read_some_pairs l = 5 * l.levels + 2

abbrev pub decreases-read_pairs : goal.decreases-read_pairs
decreases-read_pairs l = 5 * l.levels + 1

abbrev pub invariant-read_pairs-loop : goal.invariant-read_pairs-loop
invariant-read_pairs-loop l =
    with_pairs l.found.items
    (pairs (value l.levels l.key_kind) (value l.levels l.value_kind) (l.count - l.counter) l.rest) ≡ pairs
    (value l.levels l.key_kind) (value l.levels l.value_kind) l.count l.bytes
