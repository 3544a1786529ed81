use Rattle.std.proofs.Common.{◌+◌, ◌*◌, ◌-◌}
use Rattle.frozen_model.specs.Trees.{nodes}
use Rattle.layout_tree.specs.Nodes.{at, noted_in}
use Rattle.layout_tree.specs.Listing.{version_of}
use Rattle.layout_tree.proofs.Left.{Left}
use Rattle.content_check.proofs.Parts.{SureLeft}
use Rattle.content_check.proofs.sure.+sure.Given as goal

abbrev pub decreases-is_sure : goal.decreases-is_sure
decreases-is_sure l = 2 * nodes (at l.layouts.now l.node) + 1

abbrev pub decreases-fields_sure : goal.decreases-fields_sure
decreases-fields_sure l = 2 * nodes (at l.layouts.now l.node)

abbrev pub invariant-fields_sure-loop-child : goal.invariant-fields_sure-loop-child
invariant-fields_sure-loop-child l = Left (noted_in l.layouts) (version_of l.layouts.version)
    (nodes (at l.layouts l.node)) l.child l.end
    (SureLeft (version_of l.layouts.version) (at l.layouts l.node))

abbrev pub decreases-fields_sure-loop-child : goal.decreases-fields_sure-loop-child
decreases-fields_sure-loop-child l = l.end - l.child
