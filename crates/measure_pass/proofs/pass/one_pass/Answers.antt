use Rattle.std.proofs.Common.{◌≡◌, ◌+◌, ◌/◌, true, false, arith, refl, ap, sym, ◌∙◌}
use Rattle.frozen_model.specs.Layouts.{stride, Described, described}
use Rattle.frozen_model.specs.Packing.{bytes_for}
use Rattle.layout_tree.specs.Nodes.{layout_of, noted_in}
use Rattle.layout_tree.proofs.Children.{root_node}
use Rattle.typed_tree.specs.References.{value_of_ref}
use Rattle.measure_pass.specs.Growing.{passed}
use Rattle.measure_pass.proofs.Within.{passable}
use Rattle.measure_pass.proofs.Whole.{root_at, root_ready, settled_is}
use Rattle.measure_pass.proofs.pass.one_pass.Goals as goal

pub bits-requires : goal.bits-requires
bits-requires g c = root_node (noted_in c.args.layouts.now)

pub visit_part-requires-clause-node : goal.visit_part-requires-clause-node
visit_part-requires-clause-node g c = root_node (noted_in c.args.layouts.now)

pub visit_part-requires-clause-ready : goal.visit_part-requires-clause-ready
visit_part-requires-clause-ready g c =
    let l = c.args.layouts.now in
    let es : c.bits.result ≡ stride (layout_of l).tree = c.bits.ensures.bits ∙ ap stride (root_at l) in
    let first = (c.bits.result + 7) / 8 in
    let e : first ≡ bytes_for (stride (layout_of l).tree) = ap (λ z. (z + 7) / 8) es in
    root_ready l (value_of_ref c.args.v) first
    (passable (layout_of l) (value_of_ref c.args.v) c.requires.value c.layouts_are_described.ensures.bits)
    e (omega (arith, c.bits.type_inv))

pub returns-then-is_settled-clause-layout : goal.returns-then-is_settled-clause-layout
returns-then-is_settled-clause-layout g c =
    let l = c.args.layouts.now in
    let es : c.bits.result ≡ stride (layout_of l).tree = c.bits.ensures.bits ∙ ap stride (root_at l) in
    let first = (c.bits.result + 7) / 8 in
    let e : first ≡ bytes_for (stride (layout_of l).tree) = ap (λ z. (z + 7) / 8) es in
    let mid = c.visit_part.new.layouts in
    let p = settled_is l mid (value_of_ref c.args.v) first c.visit_part.result c.requires.settled e
    c.visit_part.ensures in
    let r = c.is_settled.ensures.0 c.if-is_settled.true in
    sym r ∙ p

pub returns-then-is_settled-clause-rested : goal.returns-then-is_settled-clause-rested
returns-then-is_settled-clause-rested g c =
    let l = c.args.layouts.now in
    let es : c.bits.result ≡ stride (layout_of l).tree = c.bits.ensures.bits ∙ ap stride (root_at l) in
    let first = (c.bits.result + 7) / 8 in
    let e : first ≡ bytes_for (stride (layout_of l).tree) = ap (λ z. (z + 7) / 8) es in
    let mid = c.visit_part.new.layouts in
    let p = settled_is l mid (value_of_ref c.args.v) first c.visit_part.result c.requires.settled e
    c.visit_part.ensures in
    let r = c.is_settled.ensures.0 c.if-is_settled.true in
    (λ h. ap (λ (d : Described). d.tree) (sym p ∙ r ∙ c.visit_part.ensures.same.layout), λ h. refl)

pub returns-clause-layout : goal.returns-clause-layout
returns-clause-layout g c =
    let l = c.args.layouts.now in
    let es : c.bits.result ≡ stride (layout_of l).tree = c.bits.ensures.bits ∙ ap stride (root_at l) in
    let first = (c.bits.result + 7) / 8 in
    let e : first ≡ bytes_for (stride (layout_of l).tree) = ap (λ z. (z + 7) / 8) es in
    let mid = c.visit_part.new.layouts in
    let p = settled_is l mid (value_of_ref c.args.v) first c.visit_part.result c.requires.settled e
    c.visit_part.ensures in
    c.settle.ensures.layout ∙ p

pub returns-clause-rested : goal.returns-clause-rested
returns-clause-rested g c =
    let l = c.args.layouts.now in
    let es : c.bits.result ≡ stride (layout_of l).tree = c.bits.ensures.bits ∙ ap stride (root_at l) in
    let first = (c.bits.result + 7) / 8 in
    let e : first ≡ bytes_for (stride (layout_of l).tree) = ap (λ z. (z + 7) / 8) es in
    let mid = c.visit_part.new.layouts in
    let p = settled_is l mid (value_of_ref c.args.v) first c.visit_part.result c.requires.settled e
    c.visit_part.ensures in
    let no : c.is_settled.result ≡ false = c.if-is_settled.false in (
      λ h. absurd cc,
      λ h.
          let same : passed (layout_of l) (value_of_ref c.args.v)
          ≡ layout_of l = ap (λ x. described (layout_of l).version (layout_of l).relaxed x) h in
          let y = c.is_settled.ensures.1 (p ∙ same ∙ sym c.visit_part.ensures.same.layout) in let z : true
          ≡ false = sym y ∙ no in absurd cc,
    )
