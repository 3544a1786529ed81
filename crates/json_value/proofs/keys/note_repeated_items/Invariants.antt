use Rattle.std.proofs.Common.{◌≡◌, ◌+◌, ◌++◌, drop}
use Rattle.key_order.specs.Entries.{placed}
use Rattle.serde_json.specs.View.{items_view}
use Rattle.json_value.specs.Nodes.{nodes_in}
use Rattle.json_value.specs.Faults.{keys_in}
use Rattle.json_value.proofs.keys.note_repeated_items.Given as goal

abbrev pub invariant-loop-item : goal.invariant-loop-item
invariant-loop-item l =
    (placed l.keys.items ++ keys_in (items_view (drop l.item-index l.item-items)) l.kind l.at ≡ keys_in (items_view l.item-items) l.kind l.first)
    × (l.at + nodes_in (items_view (drop l.item-index l.item-items)) ≡ l.first + nodes_in (items_view l.item-items))
