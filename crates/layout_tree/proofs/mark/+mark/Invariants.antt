use Rattle.std.proofs.Common.{◌+◌, ◌*◌, ◌-◌, ◌<◌, length}
use Rattle.layout_tree.specs.Marking.{UnmarkedFields}
use Rattle.layout_tree.proofs.Marks.{FieldsToMark}
use Rattle.layout_tree.proofs.mark.+mark.Given as goal

abbrev pub decreases-mark_part : goal.decreases-mark_part
decreases-mark_part l = 3 * (length l.nodes.now - l.i) + 2

abbrev pub decreases-mark_below : goal.decreases-mark_below
decreases-mark_below l = 3 * (length l.nodes.now - l.i) + 1

abbrev pub decreases-mark_fields : goal.decreases-mark_fields
decreases-mark_fields l = 3 * (length l.nodes.now - l.i)

abbrev pub invariant-mark_fields-loop-next : goal.invariant-mark_fields-loop-next
invariant-mark_fields-loop-next l = (l.i < l.next)
    × ((g : UnmarkedFields l.fn.nodes l.i) → FieldsToMark g l.nodes l.next)

abbrev pub decreases-mark_fields-loop-next : goal.decreases-mark_fields-loop-next
decreases-mark_fields-loop-next l = length l.nodes - l.next
