use Rattle.std.proofs.Common.{◌+◌, ◌*◌, ◌-◌, ◌≤◌, length}
use Rattle.layout_tree.specs.Segments.{Fields}
use Rattle.layout_tree.proofs.Settling.{FieldsLeft}
use Rattle.layout_tree.proofs.settle.+settle.Given as goal

abbrev pub decreases-settle_part : goal.decreases-settle_part
decreases-settle_part l = 3 * (length l.nodes.now - l.i) + 2

abbrev pub decreases-settle_below : goal.decreases-settle_below
decreases-settle_below l = 3 * (length l.nodes.now - l.i) + 1

abbrev pub decreases-settle_fields : goal.decreases-settle_fields
decreases-settle_fields l = 3 * (length l.nodes.now - l.i) + 3

abbrev pub invariant-settle_fields-loop-next : goal.invariant-settle_fields-loop-next
invariant-settle_fields-loop-next l = (l.i ≤ l.next)
    × ((g : Fields l.fn.nodes l.i l.end l.offset) → FieldsLeft g l.nodes l.next l.sum)

abbrev pub decreases-settle_fields-loop-next : goal.decreases-settle_fields-loop-next
decreases-settle_fields-loop-next l = l.end - l.next
