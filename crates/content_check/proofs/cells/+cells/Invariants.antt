use Rattle.std.proofs.Common.{◌+◌, ◌*◌, ◌-◌}
use Rattle.frozen_model.specs.Trees.{nodes}
use Rattle.layout_tree.specs.Nodes.{at, noted_in}
use Rattle.layout_tree.specs.Listing.{version_of}
use Rattle.layout_tree.proofs.Left.{Left}
use Rattle.content_check.proofs.Parts.{CellsLeft}
use Rattle.content_check.proofs.cells.+cells.Given as goal

abbrev pub decreases-inline_cells : goal.decreases-inline_cells
decreases-inline_cells l = 2 * nodes (at l.layouts.now l.node) + 1

abbrev pub decreases-struct_cells : goal.decreases-struct_cells
decreases-struct_cells l = 2 * nodes (at l.layouts.now l.node)

abbrev pub invariant-struct_cells-loop-child : goal.invariant-struct_cells-loop-child
invariant-struct_cells-loop-child l = Left (noted_in l.layouts) (version_of l.layouts.version)
    (nodes (at l.layouts l.node)) l.child l.end
    (CellsLeft (version_of l.layouts.version) (at l.layouts l.node) l.sum)

abbrev pub decreases-struct_cells-loop-child : goal.decreases-struct_cells-loop-child
decreases-struct_cells-loop-child l = l.end - l.child
