use Rattle.std.proofs.Common.{◌≡◌, ◌+◌, ◌-◌, ◌*◌, ◌≤◌, length}
use Rattle.compact_wire.specs.Reads.{items, pairs, value, all_fields}
use Rattle.compact_wire.specs.Node.{Nodes, Pairs, Fields}
use Rattle.exact_reading.specs.Reading.{seen}
use Rattle.wire_scan.specs.Sizes.{sizes, sizes_of_pairs, sizes_of_fields}
use Rattle.wire_scan.proofs.SkipSteps.{Skipping}
use Rattle.wire_scan.proofs.skipping.+skip.Given as goal

abbrev pub decreases-skip_value : goal.decreases-skip_value
decreases-skip_value l = 5 * l.levels

abbrev pub decreases-skip_sequence : goal.decreases-skip_sequence
decreases-skip_sequence l = 5 * l.levels + 2

abbrev pub decreases-skip_items : goal.decreases-skip_items
decreases-skip_items l = 5 * l.levels + 1

abbrev pub decreases-skip_typed : goal.decreases-skip_typed
decreases-skip_typed l = 5 * l.levels + 1

abbrev pub decreases-skip_fields : goal.decreases-skip_fields
decreases-skip_fields l = 5 * l.levels + 2

abbrev pub decreases-skip_map : goal.decreases-skip_map
decreases-skip_map l = 5 * l.levels + 2

abbrev pub decreases-skip_pairs : goal.decreases-skip_pairs
decreases-skip_pairs l = 5 * l.levels + 1

abbrev pub invariant-skip_items-loop : goal.invariant-skip_items-loop
invariant-skip_items-loop l =
    (seen (λ (xs : Nodes). l.next + sizes xs) (items (value l.levels l.kind) (l.count - l.counter) l.rest) ≡ seen (λ (xs : Nodes). l.initial.next + sizes xs) (items (value l.levels l.kind) l.count l.bytes))
    × (l.next + length l.rest ≤ l.initial.next + length l.bytes)

abbrev pub invariant-skip_pairs-loop : goal.invariant-skip_pairs-loop
invariant-skip_pairs-loop l =
    (seen (λ (xs : Pairs). l.next + sizes_of_pairs xs) (pairs (value l.levels l.kinds.key) (value l.levels l.kinds.value) (l.count - l.counter) l.rest) ≡ seen (λ (xs : Pairs). l.initial.next + sizes_of_pairs xs) (pairs (value l.levels l.kinds.key) (value l.levels l.kinds.value) l.count l.bytes))
    × (l.next + length l.rest ≤ l.initial.next + length l.bytes)

abbrev pub invariant-skip_fields-fields : goal.invariant-skip_fields-fields
invariant-skip_fields-fields l =
    Skipping l.levels l.next l.before.id l.rest (seen (λ (xs : Fields). l.initial.next + sizes_of_fields xs) (all_fields l.levels (value l.levels) l.bytes))
    × (l.next + length l.rest ≤ l.initial.next + length l.bytes)

abbrev pub decreases-skip_fields-fields : goal.decreases-skip_fields-fields
decreases-skip_fields-fields l = length l.rest
