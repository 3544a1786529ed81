use Rattle.std.proofs.Common.{◌≡◌, ◌-◌, ◌*◌, ◌+◌, length}
use Rattle.exact_reading.specs.Reading.{seen}
use Rattle.compact_wire.specs.Reads.{items, pairs}
use Rattle.binary_wire.specs.BinaryReads.{value, all_fields}
use Rattle.binary_wire.specs.Appends.{with_items, with_pairs, with_fields}
use Rattle.binary_wire.proofs.PushSteps.{Pushing}
use Rattle.binary_wire.proofs.transcoding.+push.Given as goal

abbrev pub decreases-push_value : goal.decreases-push_value
decreases-push_value l = 5 * l.levels

abbrev pub decreases-push_row : goal.decreases-push_row
decreases-push_row l = 5 * l.levels + 2

abbrev pub decreases-push_items : goal.decreases-push_items
decreases-push_items l = 5 * l.levels + 1

abbrev pub decreases-push_map : goal.decreases-push_map
decreases-push_map l = 5 * l.levels + 2

abbrev pub decreases-push_pairs : goal.decreases-push_pairs
decreases-push_pairs l = 5 * l.levels + 1

abbrev pub decreases-push_fields : goal.decreases-push_fields
decreases-push_fields l = 5 * l.levels + 2

abbrev pub decreases-push_field : goal.decreases-push_field
decreases-push_field l = 5 * l.levels + 1

abbrev pub invariant-push_items-loop : goal.invariant-push_items-loop
invariant-push_items-loop l =
    seen (with_items l.out.items) (items (value l.levels l.kind) (l.count - l.counter) l.rest)
    ≡ seen (with_items l.initial.out.items) (items (value l.levels l.kind) l.count l.bytes)

abbrev pub invariant-push_pairs-loop : goal.invariant-push_pairs-loop
invariant-push_pairs-loop l =
    seen (with_pairs l.out.items) (pairs (value l.levels l.key_kind) (value l.levels l.value_kind) (l.count - l.counter) l.rest)
    ≡ seen (with_pairs l.initial.out.items) (pairs (value l.levels l.key_kind) (value l.levels l.value_kind) l.count l.bytes)

abbrev pub invariant-push_fields-fields : goal.invariant-push_fields-fields
invariant-push_fields-fields l = Pushing l.levels l.out.items l.before.id l.rest (seen (with_fields l.initial.out.items l.initial.before.id) (all_fields l.levels (value l.levels) l.bytes))

abbrev pub decreases-push_fields-fields : goal.decreases-push_fields-fields
decreases-push_fields-fields l = length l.rest
