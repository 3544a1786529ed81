use Rattle.std.proofs.Common.{◌*◌, ◌-◌}
use Rattle.frozen_model.specs.Trees.{ranges}
use Rattle.frozen_laws.proofs.Rests.{distance_widths}
use Rattle.layout_tree.specs.Nodes.{layout_of, IsSettled}
use Rattle.typed_tree.specs.References.{value_of_ref}
use Rattle.measure_pass.specs.Spots.{listed}
use Rattle.measure_pass.proofs.Measuring.{InLoop}
use Rattle.measure_pass.proofs.least.measure_over.Given as goal

abbrev pub invariant-loop-layouts : goal.invariant-loop-layouts
invariant-loop-layouts g l = record {
  settled : IsSettled l.layouts;
  reached : InLoop (layout_of l.fn.blank) (layout_of l.layouts) (value_of_ref l.v) (listed l.ranges)
      l.fn.steps l.steps;
}

abbrev pub decreases-loop-layouts : goal.decreases-loop-layouts
decreases-loop-layouts g l = 29 * ranges (layout_of l.layouts).tree - distance_widths
    (layout_of l.layouts).tree
