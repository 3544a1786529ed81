use Rattle.std.proofs.Common.{◌≡◌, ◌+◌, drop}
use Rattle.serde_json.specs.View.{items_view, members_view}
use Rattle.json_value.specs.Nodes.{nodes_in as in_items, nodes_of_members as in_members}
use Rattle.json_value.proofs.nodes.+nodes.Given as goal

abbrev pub invariant-nodes_in-loop-item : goal.invariant-nodes_in-loop-item
invariant-nodes_in-loop-item l = l.count + in_items (items_view (drop l.item-index l.item-items)) ≡ in_items (items_view l.item-items)

abbrev pub invariant-nodes_of_members-loop-member : goal.invariant-nodes_of_members-loop-member
invariant-nodes_of_members-loop-member l = l.count + in_members (members_view l.member-iterator) ≡ in_members (members_view l.members.entries)
