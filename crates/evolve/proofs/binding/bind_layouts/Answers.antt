use Rattle.std.proofs.Common.{◌≡◌, ap, sym, ◌∙◌}
use Rattle.idl_profile.specs.Types.{TypeTree, root_of}
use Rattle.idl_parse.specs.Parsed.{definition_of}
use Rattle.idl_parse.specs.Refs.{type_of_ref}
use Rattle.frozen_model.specs.Layouts.{Layout}
use Rattle.layout_tree.specs.Nodes.{at, layout_of, noted_in}
use Rattle.layout_tree.specs.Listing.{Noted, layout_in, version_of}
use Rattle.layout_tree.proofs.Children.{root_sub, root_node}
use Rattle.evolve.specs.Binding.{type_fault, bind_fault}
use Rattle.evolve.proofs.Adding.{tells_as}
use Rattle.evolve.proofs.BindParts.{root_bound}
use Rattle.evolve.proofs.binding.bind_layouts.Goals as goal

pub bind_type-requires : goal.bind_type-requires
bind_type-requires c = root_node (noted_in c.args.layouts.now)

pub returns-in-Ok : goal.returns-in-Ok
returns-in-Ok c =
    let y = c.args.layouts.now in
    let e : at y 0 ≡ (layout_of y).tree = ap (λ (z : Noted). layout_in (version_of y.version) z)
    (root_sub (noted_in y)) in
    root_bound (layout_of y) (root_of (definition_of c.args.def.now)) (type_of_ref c.root.result) (at y 0)
    c.new-nodes.result.items c.bind_type.new.nodes.items c.new-nodes.ensures.items c.root.ensures.tree e
    c.in-Ok.ensures.0 c.in-Ok.ensures.1

pub returns-in-Err : goal.returns-in-Err
returns-in-Err c =
    let y = c.args.layouts.now in
    let d = layout_of y in
    let t = root_of (definition_of c.args.def.now) in
    let u = type_of_ref c.root.result in
    let e : at y 0 ≡ d.tree = ap (λ (z : Noted). layout_in (version_of y.version) z) (root_sub (noted_in y))
    in
    c.in_order.ensures d t (tells_as (type_fault y.relaxed u (at y 0)) (bind_fault d t) c.in-Err.fault
    (ap (λ (z : Layout). type_fault y.relaxed t z) (sym e)
    ∙ ap (λ (z : TypeTree). type_fault y.relaxed z (at y 0)) (sym c.root.ensures.tree)) c.in-Err.ensures)
