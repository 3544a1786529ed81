use Rattle.std.proofs.Common.{◌≡◌, map, take}
use Rattle.layout_tree.specs.Shapes.{cleared}
use Rattle.layout_tree.proofs.layouts.Layouts.blank.Given as goal

abbrev pub invariant-loop-i : goal.invariant-loop-i
invariant-loop-i l = l.nodes.items ≡ map cleared (take l.i l.from.nodes.items)
