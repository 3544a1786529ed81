use Rattle.std.proofs.Common.{◌≡◌, pos, int_lt, ◌+◌, arith, ap, sym, ◌∙◌, refl, rules, w16}
use Rattle.std.proofs.lemmas.Int.{to_z-of_z, ints}
use mir.Val.{SFits, to_z, of_z}
use Rattle.frozen_model.specs.Trees.{nodes}
use Rattle.frozen_model.specs.Layouts.{Layout}
use Rattle.layout_tree.specs.Nodes.{at}
use Rattle.layout_tree.specs.Reading.{child_of}
use Rattle.layout_tree.specs.Listing.{tree_of, sub, version_of}
use Rattle.layout_tree.proofs.Numbers.{number_of_part}
use Rattle.layout_tree.proofs.Children.{node_small}
use Rattle.layout_tree.proofs.Describing.{kept_described}
use Rattle.layout_tree.proofs.Place.{some_nodes}
use Rattle.layout_tree.proofs.Readings.{same_nodes}
use Rattle.layout_tree.proofs.Kin.{child_start, child_inside, child_step, child_end, int_above}
use Rattle.layout_tree.proofs.layouts.Layouts.field_child.Goals as goal

pub overflow_add-low : goal.overflow_add-low
overflow_add-low c =
    let l = c.args.self.now in
    let s = sub (tree_of l.nodes.items) c.args.node in
    record {
      fits = omega (
        arith,
        node_small l.version l.nodes.items s c.args.node l.listing l.sound c.requires.node,
        some_nodes s,
      );
    }

pub past-end-requires : goal.past-end-requires
past-end-requires c = number_of_part (tree_of c.args.self.now.nodes.items) c.args.node c.requires.node

pub loop-low-init : goal.loop-low-init
loop-low-init c =
    let l = c.args.self.now in
    child_start (version_of l.version) l.nodes.items c.args.node (c.args.node + 1) c.past-end.result
    (to_z w16 (of_z w16 c.args.field)) (kept_described l).layout.kind_tree.formed l.listing c.requires.node
    c.requires.structure refl (c.past-end.ensures.part c.requires.node)

pub child_over-child-requires : goal.child_over-child-requires
child_over-child-requires c = child_inside c.loop-low.invariant c.loop-low-test.true

pub index-spec-requires : goal.index-spec-requires
index-spec-requires c =
    let l = c.args.self.now in
    let v = version_of l.version in
    let st = child_step v c.loop-low.invariant c.loop-low-test.true c.child_over-child.ensures in
    omega (arith, l.nodes.ok.0, st.within)

pub returns-then-spec-field : goal.returns-then-spec-field
returns-then-spec-field c =
    let l = c.args.self.now in
    let v = version_of l.version in
    let st = child_step v c.loop-low.invariant c.loop-low-test.true c.child_over-child.ensures in
    let x = c.index-spec.result.now in
    let g : SFits w16 x.field = search rules in
    let is : to_z w16 (of_z w16 x.field) ≡ pos st.name = to_z-of_z w16 x.field g
    ∙ ap (λ y. y.field) c.index-spec.ensures ∙ st.field x in
    st.found (sym is ∙ ap (to_z w16) c.if-spec-field.true)
    ∙ ap (λ y. child_of (at l c.args.node) c.args.node y) (to_z-of_z w16 c.args.field c.ranges.field)

pub past-low-requires : goal.past-low-requires
past-low-requires c =
    let l = c.args.self.now in
    let v = version_of l.version in
    let st = child_step v c.loop-low.invariant c.loop-low-test.true c.child_over-child.ensures in
    number_of_part (tree_of l.nodes.items) c.child_over-child.result st.node.node

pub loop-low-smaller-then-spec-field-2 : goal.loop-low-smaller-then-spec-field-2
loop-low-smaller-then-spec-field-2 c =
    let v = version_of c.args.self.now.version in
    let st = child_step v c.loop-low.invariant c.loop-low-test.true c.child_over-child.ensures in
    let child = c.child_over-child.result in
    let pe : c.past-low.result ≡ child + nodes st.here = c.past-low.ensures.part st.node.node
    ∙ ap (λ (y : Layout). child + nodes y) st.node.is ∙ ap (λ n. child + n) (same_nodes v st.here) in
    omega (arith, c.loop-low-test.true, pe, st.past)

pub loop-low-preserved-then-spec-field-2 : goal.loop-low-preserved-then-spec-field-2
loop-low-preserved-then-spec-field-2 c =
    let v = version_of c.args.self.now.version in
    let st = child_step v c.loop-low.invariant c.loop-low-test.true c.child_over-child.ensures in
    let x = c.index-spec.result.now in
    let g : SFits w16 x.field = search rules in
    let is : to_z w16 (of_z w16 x.field) ≡ pos st.name = to_z-of_z w16 x.field g
    ∙ ap (λ y. y.field) c.index-spec.ensures ∙ st.field x in
    let child = c.child_over-child.result in
    let pe : c.past-low.result ≡ child + nodes st.here = c.past-low.ensures.part st.node.node
    ∙ ap (λ (y : Layout). child + nodes y) st.node.is ∙ ap (λ n. child + n) (same_nodes v st.here) in
    st.lesser (omega (arith, ints, is, c.if-spec-field-2.true)) c.past-low.result pe

pub loop-low-smaller : goal.loop-low-smaller
loop-low-smaller c =
    let v = version_of c.args.self.now.version in
    let st = child_step v c.loop-low.invariant c.loop-low-test.true c.child_over-child.ensures in
    omega (arith, st.first, st.last)

pub loop-low-preserved : goal.loop-low-preserved
loop-low-preserved c =
    let v = version_of c.args.self.now.version in
    let st = child_step v c.loop-low.invariant c.loop-low-test.true c.child_over-child.ensures in
    let x = c.index-spec.result.now in
    let g : SFits w16 x.field = search rules in
    let is : to_z w16 (of_z w16 x.field) ≡ pos st.name = to_z-of_z w16 x.field g
    ∙ ap (λ y. y.field) c.index-spec.ensures ∙ st.field x in
    let e : x.field ≡ pos st.name = ap (λ y. y.field) c.index-spec.ensures ∙ st.field x in
    let z = to_z w16 (of_z w16 c.args.field) in
    let other = λ (q : pos st.name ≡ z). c.if-spec-field.false
    (ap (of_z w16) (e ∙ q ∙ to_z-of_z w16 c.args.field c.ranges.field)) in
    st.greater (int_above (pos st.name) z (ap (λ y. int_lt y z) (sym is) ∙ c.if-spec-field-2.false) other)

pub returns : goal.returns
returns c =
    let l = c.args.self.now in
    child_end c.loop-low.invariant (omega (arith, c.loop-low-test.false))
    ∙ ap (λ y. child_of (at l c.args.node) c.args.node y) (to_z-of_z w16 c.args.field c.ranges.field)
