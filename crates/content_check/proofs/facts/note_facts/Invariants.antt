use Rattle.std.proofs.Common.{ℕ, ◌≤◌, ◌<◌, length}
use Rattle.layout_tree.specs.Nodes.{IsNode, at}
use Rattle.content_check.specs.Facts.{HasFacts}
use Rattle.content_check.proofs.facts.note_facts.Given as goal

abbrev pub invariant-loop-node : goal.invariant-loop-node
invariant-loop-node l = ((n : ℕ) → n < l.node → IsNode l.layouts n → HasFacts l.facts n (at l.layouts n))
    × (4096 ≤ length l.facts)
