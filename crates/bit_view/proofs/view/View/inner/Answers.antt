use Rattle.std.proofs.Common.{◌+◌, arith, ap, sym, ◌∙◌, subst}
use Rattle.frozen_model.specs.Values.{Present}
use Rattle.layout_tree.specs.Listing.{version_of}
use Rattle.layout_tree.specs.Nodes.{noted_in, layout_of, at}
use Rattle.layout_tree.specs.Reading.{isset_width}
use Rattle.layout_tree.proofs.Children.{inner_child}
use Rattle.bit_view.specs.Lying.{HasPart}
use Rattle.bit_view.specs.InPlace.{read_value}
use Rattle.bit_view.specs.Branches.{inner_of}
use Rattle.bit_view.specs.Views.{layout_of_view}
use Rattle.bit_view.proofs.Shapes.{present_at}
use Rattle.bit_view.proofs.Seen.{view_node, view_bounds, view_small, view_inner}
use Rattle.bit_view.proofs.view.View.inner.Goals as goal

pub overflow_add-result : goal.overflow_add-result
overflow_add-result c = omega (arith, view_small c.args.self)

pub isset_bits-requires-clause-node : goal.isset_bits-requires-clause-node
isset_bits-requires-clause-node c = view_node c.args.self

pub overflow_add-result-2 : goal.overflow_add-result-2
overflow_add-result-2 c =
    let b = view_bounds c.args.self in
    omega (arith, b.within, b.short, c.from.ensures, c.isset_bits.ensures.small)

pub invariant_of-result : goal.invariant_of-result
invariant_of-result c =
    let w = c.args.self in
    let p = present_at (layout_of_view w) w.content.now w.block w.bit c.requires in
    let e = c.from.ensures ∙ c.isset_bits.ensures.width in
    record {
      settled = w.settled;
      lies = subst (λ k. ∥ HasPart (layout_of w.layouts.now).tree w.content.now (w.node + 2) w.block
          (w.bit + k) ∥₁)
          (sym e) (view_inner w p.form p.set);
    }

pub returns-clause-value : goal.returns-clause-value
returns-clause-value c =
    let w = c.args.self in
    let l = w.layouts.now in
    let m = layout_of_view w in
    let p = present_at m w.content.now w.block w.bit c.requires in
    let e = c.from.ensures ∙ c.isset_bits.ensures.width in
    let child = inner_child (noted_in l) (version_of l.version) w.node (isset_width m) p.inner
    (view_node w) p.is in
    p.value
    ∙ ap (λ x. Present (read_value w.content.now x w.block (w.bit + isset_width m))) (sym child.is)
    ∙ ap (λ k. Present (read_value w.content.now (at l (w.node + 2)) w.block (w.bit + k))) (sym e)

pub returns-clause-layout : goal.returns-clause-layout
returns-clause-layout c =
    let w = c.args.self in
    let l = w.layouts.now in
    let m = layout_of_view w in
    let p = present_at m w.content.now w.block w.bit c.requires in
    let child = inner_child (noted_in l) (version_of l.version) w.node (isset_width m) p.inner
    (view_node w) p.is in
    child.is ∙ sym (ap inner_of p.is)
