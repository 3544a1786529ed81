use Rattle.std.proofs.Common.{◌-◌, ◌≡◌, suc, drop, ◌++◌, ◌<◌}
use Rattle.compact_wire.specs.Canon.{canon_pairs}
use Rattle.layout_tree.specs.Nodes.{listed}
use Rattle.layout_schema.specs.Schemas.{children_of}
use Rattle.layout_schema.specs.Pieces.{child_pairs}
use Rattle.layout_schema.proofs.write.push_children.Given as goal

-- the children that are written and those that are left
abbrev pub invariant-loop-child : goal.invariant-loop-child
invariant-loop-child l = record {
  behind : l.node < l.child;
  written : l.out.items ++ canon_pairs (child_pairs (children_of l.node l.child (drop l.child (listed l.layouts))))
      ≡ l.fn.out.items ++ canon_pairs (child_pairs (children_of l.node (suc l.node) (drop (suc l.node) (listed l.layouts))));
}

abbrev pub decreases-loop-child : goal.decreases-loop-child
decreases-loop-child l = l.end - l.child
