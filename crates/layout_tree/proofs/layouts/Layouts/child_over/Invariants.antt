use Rattle.std.proofs.Common.{◌≤◌}
use Rattle.layout_tree.specs.Segments.{Inside}
use Rattle.layout_tree.proofs.layouts.Layouts.child_over.Given as goal

abbrev pub invariant-loop-child : goal.invariant-loop-child
invariant-loop-child l = (i : Inside l.self.nodes.items l.node l.below)
    → (i.child ≤ l.child) × (l.child ≤ l.below)

abbrev pub decreases-loop-child : goal.decreases-loop-child
decreases-loop-child l = l.child
