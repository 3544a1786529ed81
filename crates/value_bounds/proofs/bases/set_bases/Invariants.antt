use Rattle.std.proofs.Common.{◌≡◌, drop}
use Rattle.frozen_model.specs.Trees.{nodes}
use Rattle.frozen_model.specs.Holding.{puts_of}
use Rattle.layout_tree.specs.Nodes.{layout_of, noted_in}
use Rattle.typed_tree.specs.References.{value_of_ref}
use Rattle.value_bounds.specs.Basing.{based_on}
use Rattle.value_bounds.proofs.Steps.{BasesTo}
use Rattle.value_bounds.proofs.bases.set_bases.Given as goal

abbrev pub invariant-loop-node : goal.invariant-loop-node
invariant-loop-node l = record {
  left : BasesTo (noted_in l.layouts) l.node (drop l.node l.bounds.items)
      (based_on (noted_in l.fn.layouts) (puts_of (layout_of l.fn.layouts).tree (value_of_ref l.v)));
  same : nodes (noted_in l.layouts) ≡ nodes (noted_in l.fn.layouts);
  version : (layout_of l.layouts).version ≡ (layout_of l.fn.layouts).version;
  relaxed : (layout_of l.layouts).relaxed ≡ (layout_of l.fn.layouts).relaxed;
}
