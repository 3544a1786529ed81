use Rattle.std.proofs.Common.{◌+◌, arith, ap, sym, ◌∙◌, subst, refl}
use Rattle.frozen_model.specs.Trees.{nodes}
use Rattle.layout_tree.specs.Nodes.{at}
use Rattle.layout_tree.specs.Reading.{plain}
use Rattle.layout_tree.specs.Listing.{tree_of, version_of}
use Rattle.layout_tree.proofs.Readings.{same_nodes}
use Rattle.layout_tree.proofs.Numbers.{number_of_part}
use Rattle.content_check.specs.Sure.{IsSure}
use Rattle.layout_tree.proofs.Left.{left_start, left_step, left_end}
use Rattle.content_check.proofs.Parts.{shape, struct_shape, leaf_shape, SureLeft, sure_leaf, sure_flag}
use Rattle.content_check.proofs.sure.+sure.Goals as goal

pub is_sure-fields_sure-requires : goal.is_sure-fields_sure-requires
is_sure-fields_sure-requires t c =
    let l = at c.args.layouts.now c.args.node in (
      omega (arith, c.decreases),
      (
        c.requires.node,
        struct_shape c.kind.result l
            (shape c.kind.result l c.kind.ensures.kind) c.in-Struct.is,
      ),
    )

pub is_sure-returns-in-Flag : goal.is_sure-returns-in-Flag
is_sure-returns-in-Flag t c e = sure_flag (at c.args.layouts.now c.args.node)
    (ap plain (sym c.in-Flag.is) ∙ c.kind.ensures.kind)

pub is_sure-returns-in-I8 : goal.is_sure-returns-in-I8
is_sure-returns-in-I8 t c e =
    let l = at c.args.layouts.now c.args.node in
    sure_leaf l (leaf_shape c.kind.result l (shape c.kind.result l c.kind.ensures.kind) c.in-I8.is)
    (c.stays_in_range.ensures e)

pub fields_sure-loop-child-init : goal.fields_sure-loop-child-init
fields_sure-loop-child-init t c =
    let y = c.args.layouts.now in
    let v = version_of y.version in
    let l = at y c.args.node in
    left_start (tree_of y.nodes.items) v c.args.node (c.args.node + 1) c.past-end.result (SureLeft v l)
    c.requires.node c.requires.structure (λ fs e. record { then = λ h. subst IsSure (sym e) h })
    (c.past-end.ensures.part c.requires.node) refl

pub fields_sure-is_sure-requires : goal.fields_sure-is_sure-requires
fields_sure-is_sure-requires t c =
    let y = c.args.layouts.now in
    let v = version_of y.version in
    let l = at y c.args.node in
    let k = c.loop-child in
    let st = left_step (tree_of y.nodes.items) v (nodes l) k.child c.past-end.result (SureLeft v l)
    (SureLeft v l) k.invariant c.loop-child-test.true in
    (omega (arith, c.decreases, st.below, ap nodes st.node.is, same_nodes v st.here), st.node.node)

pub fields_sure-past-child-requires : goal.fields_sure-past-child-requires
fields_sure-past-child-requires t c =
    let y = c.args.layouts.now in
    let v = version_of y.version in
    let l = at y c.args.node in
    let k = c.loop-child in
    number_of_part (tree_of y.nodes.items) k.child
    (left_step (tree_of y.nodes.items) v (nodes l) k.child c.past-end.result (SureLeft v l) (SureLeft v l)
    k.invariant c.loop-child-test.true).node.node

pub fields_sure-loop-child-smaller : goal.fields_sure-loop-child-smaller
fields_sure-loop-child-smaller t c =
    let y = c.args.layouts.now in
    let v = version_of y.version in
    let l = at y c.args.node in
    let k = c.loop-child in
    let st = left_step (tree_of y.nodes.items) v (nodes l) k.child c.past-end.result (SureLeft v l)
    (SureLeft v l) k.invariant c.loop-child-test.true in
    omega (
      arith,
      c.past-child.ensures.part st.node.node,
      ap nodes st.node.is,
      same_nodes v st.here,
      st.some,
      st.past,
    )

pub fields_sure-loop-child-preserved : goal.fields_sure-loop-child-preserved
fields_sure-loop-child-preserved t c =
    let y = c.args.layouts.now in
    let v = version_of y.version in
    let l = at y c.args.node in
    let k = c.loop-child in
    let st = left_step (tree_of y.nodes.items) v (nodes l) k.child c.past-end.result (SureLeft v l)
    (SureLeft v l) k.invariant c.loop-child-test.true in
    let s = subst IsSure st.node.is (c.is_sure.ensures c.if-not-is_sure.false) in
    st.next c.past-child.result (omega
    (arith, c.past-child.ensures.part st.node.node, ap nodes st.node.is, same_nodes v st.here))
    (record { then = λ h. st.holds.then (s, h) })

pub fields_sure-returns : goal.fields_sure-returns
fields_sure-returns t c e =
    let y = c.args.layouts.now in
    let v = version_of y.version in
    let l = at y c.args.node in
    let k = c.loop-child in
    (left_end (tree_of y.nodes.items) v (nodes l) k.child c.past-end.result (SureLeft v l) k.invariant
    c.loop-child-test.false).then tt

pub fields_sure-past-end-requires : goal.fields_sure-past-end-requires
fields_sure-past-end-requires t c = number_of_part (tree_of c.args.layouts.now.nodes.items) c.args.node
    c.requires.node
