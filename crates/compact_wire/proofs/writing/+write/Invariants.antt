use Rattle.std.proofs.Common.{◌≡◌, ◌+◌, ◌*◌, ◌++◌, drop}
use Rattle.std.specs.Prelude.{pos}
use Rattle.compact_wire.specs.Canon.{canon_items, canon_pairs, canon_fields}
use Rattle.compact_wire.specs.View.{view, nodes_view, pairs_view, fields_view}
use Rattle.compact_wire.specs.Writes.{CodesFitAll, CodesFitPairs, CodesFitFields}
use Rattle.compact_wire.proofs.Weights.{weight, weight_all, weight_pairs, weight_fields}
use Rattle.compact_wire.proofs.writing.+write.Given as goal

abbrev pub invariant-push_items-loop-item : goal.invariant-push_items-loop-item
invariant-push_items-loop-item l =
    (l.out.items ++ canon_items (nodes_view (drop l.item-index l.items)) ≡ l.initial.out.items
    ++ canon_items (nodes_view l.items)) × CodesFitAll (nodes_view (drop l.item-index l.items))

abbrev pub invariant-push_pairs-loop-key : goal.invariant-push_pairs-loop-key
invariant-push_pairs-loop-key l =
    (l.out.items ++ canon_pairs (pairs_view (drop l.key-index l.pairs)) ≡ l.initial.out.items
    ++ canon_pairs (pairs_view l.pairs)) × CodesFitPairs (pairs_view (drop l.key-index l.pairs))

abbrev pub invariant-push_fields-loop-id : goal.invariant-push_fields-loop-id
invariant-push_fields-loop-id l =
    (l.out.items ++ canon_fields l.before.id (fields_view (drop l.id-index l.fields)) ≡ l.initial.out.items
    ++ canon_fields (pos 0) (fields_view l.fields))
    × CodesFitFields (fields_view (drop l.id-index l.fields))

abbrev pub decreases-push_value : goal.decreases-push_value
decreases-push_value l = 3 * weight (view l.wire.now)

abbrev pub decreases-push_sequence : goal.decreases-push_sequence
decreases-push_sequence l = 3 * weight_all (nodes_view l.items.now) + 2

abbrev pub decreases-push_items : goal.decreases-push_items
decreases-push_items l = 3 * weight_all (nodes_view l.items.now) + 1

abbrev pub decreases-push_map : goal.decreases-push_map
decreases-push_map l = 3 * weight_pairs (pairs_view l.pairs.now) + 2

abbrev pub decreases-push_pairs : goal.decreases-push_pairs
decreases-push_pairs l = 3 * weight_pairs (pairs_view l.pairs.now) + 1

abbrev pub decreases-push_fields : goal.decreases-push_fields
decreases-push_fields l = 3 * weight_fields (fields_view l.fields.now) + 2

abbrev pub decreases-push_field : goal.decreases-push_field
decreases-push_field l = 3 * weight (view l.value.now) + 1
