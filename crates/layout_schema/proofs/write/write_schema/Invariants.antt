use Rattle.std.proofs.Common.{◌≡◌, drop, ◌++◌}
use Rattle.compact_wire.specs.Canon.{canon_pairs}
use Rattle.layout_tree.specs.Nodes.{layout_of, listed}
use Rattle.layout_schema.specs.Schemas.{layouts_of}
use Rattle.layout_schema.specs.Pieces.{layout_pairs}
use Rattle.layout_schema.proofs.write.write_schema.Given as goal

-- the layouts that are written and those that are left
abbrev pub invariant-loop-node : goal.invariant-loop-node
invariant-loop-node l = l.out.items ++ canon_pairs (layout_pairs (layout_of l.layouts).version (layouts_of (layout_of l.layouts).version l.node (drop l.node (listed l.layouts))))
    ≡ l.initial.out.items ++ canon_pairs (layout_pairs (layout_of l.layouts).version (layouts_of (layout_of l.layouts).version 0 (listed l.layouts)))
