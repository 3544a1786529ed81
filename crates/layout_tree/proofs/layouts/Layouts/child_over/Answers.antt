use Rattle.std.proofs.Common.{ap, sym, ◌∙◌, arith}
use Rattle.layout_tree.specs.declared.node.NodeSpec.{NodeSpec}
use Rattle.layout_tree.proofs.Parents.{climbs, climbed}
use Rattle.layout_tree.proofs.layouts.Layouts.child_over.Goals as goal

pub loop-child-smaller : goal.loop-child-smaller
loop-child-smaller c =
    let x = c.index.result.now in
    let y = c.index-in-loop-child.result.now in
    let i = c.requires in
    let h = c.loop-child.invariant i in
    let b = climbs c.args.self.now.nodes.items c.args.node c.args.below c.loop-child.child x y i h.0 h.1
    (λ e. c.loop-child-test.true (ap (λ (s : NodeSpec). s.parent) c.index.ensures ∙ e)) in
    omega (arith, b.1, ap (λ (s : NodeSpec). s.parent) c.index-in-loop-child.ensures)

pub loop-child-preserved : goal.loop-child-preserved
loop-child-preserved c i =
    let x = c.index.result.now in
    let y = c.index-in-loop-child.result.now in
    let h = c.loop-child.invariant i in
    let b = climbs c.args.self.now.nodes.items c.args.node c.args.below c.loop-child.child x y i h.0 h.1
    (λ e. c.loop-child-test.true (ap (λ (s : NodeSpec). s.parent) c.index.ensures ∙ e)) in
    let e = ap (λ (s : NodeSpec). s.parent) c.index-in-loop-child.ensures in
    (omega (arith, b.0, e), omega (arith, b.1, e, h.1))

pub returns : goal.returns
returns c i =
    let ns = c.args.self.now.nodes.items in
    let h = c.loop-child.invariant i in
    climbed ns c.args.node c.args.below c.loop-child.child c.index.result.now i h.0 h.1
    (sym (ap (λ (s : NodeSpec). s.parent) c.index.ensures) ∙ c.loop-child-test.false)
