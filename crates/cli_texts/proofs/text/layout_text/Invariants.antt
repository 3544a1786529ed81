use Rattle.std.specs.Prelude.{string_bytes}
use Rattle.std.proofs.Common.{◌≡◌, ◌++◌, drop}
use Rattle.layout_tree.specs.Nodes.{layout_of, listed}
use Rattle.cli_texts.specs.Listing.{lines}
use Rattle.cli_texts.proofs.text.layout_text.Given as goal

-- the lines that are written and those that are left
abbrev pub invariant-loop-node : goal.invariant-loop-node
invariant-loop-node l =
    string_bytes l.out ++ lines (layout_of l.layouts).version l.node (drop l.node (listed l.layouts))
    ≡ lines (layout_of l.layouts).version 0 (listed l.layouts)
