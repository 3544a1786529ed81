use Rattle.std.proofs.Common.{arith, rules, ap, sym, ◌∙◌, Some, w16}
use Rattle.std.specs.Prelude.{FitsSigned}
use Rattle.std.proofs.lemmas.Int.{to_z-of_z}
use Rattle.layout_tree.specs.Reading.{child_of}
use Rattle.bit_view.specs.Views.{layout_of_view}
use Rattle.bit_view.proofs.Seen.{view_node, view_bounds, view_none, view_child, node_number}
use Rattle.bit_view.proofs.view.View.field.Goals as goal

pub child-requires : goal.child-requires
child-requires c = let w = c.args.self in node_number w.layouts.now w.node (view_node w)

pub node-requires : goal.node-requires
node-requires c =
    let w = c.args.self in
    let fits : FitsSigned w16 c.args.id = search rules in
    let h = view_child w c.args.id c.child.result c.in-Some.node fits c.requires
    (c.child.ensures.part (view_node w) ∙ ap (child_of (layout_of_view w) w.node)
    (to_z-of_z w16 c.args.id fits)) c.in-Some.is in
    node_number w.layouts.now c.in-Some.node h.node

pub overflow_add-result : goal.overflow_add-result
overflow_add-result c =
    let b = view_bounds c.args.self in
    omega (arith, b.within, b.short, c.from.ensures, c.node.type_inv)

pub invariant_of-result : goal.invariant_of-result
invariant_of-result c =
    let w = c.args.self in
    let fits : FitsSigned w16 c.args.id = search rules in
    let h = view_child w c.args.id c.child.result c.in-Some.node fits c.requires
    (c.child.ensures.part (view_node w) ∙ ap (child_of (layout_of_view w) w.node)
    (to_z-of_z w16 c.args.id fits)) c.in-Some.is in
    record {
      settled = w.settled;
      lies = (h.there c.node.result c.from.result c.node.ensures c.from.ensures).lies;
    }

pub returns-in-Some-clause-value : goal.returns-in-Some-clause-value
returns-in-Some-clause-value c =
    let w = c.args.self in
    let fits : FitsSigned w16 c.args.id = search rules in
    let h = view_child w c.args.id c.child.result c.in-Some.node fits c.requires
    (c.child.ensures.part (view_node w) ∙ ap (child_of (layout_of_view w) w.node)
    (to_z-of_z w16 c.args.id fits)) c.in-Some.is in
    ap Some (h.there c.node.result c.from.result c.node.ensures c.from.ensures).value ∙ sym h.value

pub returns-in-Some-clause-layout : goal.returns-in-Some-clause-layout
returns-in-Some-clause-layout c =
    let w = c.args.self in
    let fits : FitsSigned w16 c.args.id = search rules in
    let h = view_child w c.args.id c.child.result c.in-Some.node fits c.requires
    (c.child.ensures.part (view_node w) ∙ ap (child_of (layout_of_view w) w.node)
    (to_z-of_z w16 c.args.id fits)) c.in-Some.is in
    ap Some (h.there c.node.result c.from.result c.node.ensures c.from.ensures).child.is ∙ sym h.tree

pub returns-in-None-clause-value : goal.returns-in-None-clause-value
returns-in-None-clause-value c =
    let w = c.args.self in
    let fits : FitsSigned w16 c.args.id = search rules in
    sym (view_none w c.args.id c.child.result fits c.requires
    (c.child.ensures.part (view_node w) ∙ ap (child_of (layout_of_view w) w.node)
    (to_z-of_z w16 c.args.id fits)) c.in-None.is).value

pub returns-in-None-clause-layout : goal.returns-in-None-clause-layout
returns-in-None-clause-layout c =
    let w = c.args.self in
    let fits : FitsSigned w16 c.args.id = search rules in
    sym (view_none w c.args.id c.child.result fits c.requires
    (c.child.ensures.part (view_node w) ∙ ap (child_of (layout_of_view w) w.node)
    (to_z-of_z w16 c.args.id fits)) c.in-None.is).tree
