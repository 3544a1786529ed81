use Rattle.std.proofs.Common.{◌+◌, arith, ap, sym, ◌∙◌, subst, refl}
use Rattle.frozen_model.specs.Trees.{nodes}
use Rattle.frozen_model.specs.Values.{inline_cells}
use Rattle.layout_tree.specs.Nodes.{at}
use Rattle.layout_tree.specs.Reading.{plain}
use Rattle.layout_tree.specs.Listing.{sub, tree_of, version_of}
use Rattle.layout_tree.proofs.Children.{inner_child, node_small}
use Rattle.layout_tree.proofs.Readings.{same_nodes}
use Rattle.layout_tree.proofs.Numbers.{number_of_part}
use Rattle.frozen_laws.proofs.Opening.{inline_nodes}
use Rattle.layout_tree.proofs.Left.{left_start, left_step, left_end}
use Rattle.content_check.proofs.Parts.{IsShape, shape, struct_shape, optional_at, CellsLeft}
use Rattle.content_check.proofs.cells.+cells.Goals as goal

pub inline_cells-overflow_add-node : goal.inline_cells-overflow_add-node
inline_cells-overflow_add-node t c =
    let l = c.args.layouts.now in
    omega (
      arith,
      node_small l.version l.nodes.items (sub (tree_of l.nodes.items) c.args.node) c.args.node
          l.listing l.sound c.requires.node,
    )

pub inline_cells-inline_cells-requires : goal.inline_cells-inline_cells-requires
inline_cells-inline_cells-requires t c =
    let y = c.args.layouts.now in
    let l = at y c.args.node in
    let o = optional_at l (subst (λ z. IsShape (plain z) l) c.in-Optional.is
    (shape c.kind.result l c.kind.ensures.kind)) in
    let ch = inner_child (tree_of y.nodes.items) (version_of y.version) c.args.node o.width o.inner
    c.requires.node o.is in
    (omega (arith, c.decreases, ap nodes o.is, ap nodes ch.is), ch.node)

pub inline_cells-struct_cells-requires : goal.inline_cells-struct_cells-requires
inline_cells-struct_cells-requires t c =
    let l = at c.args.layouts.now c.args.node in (
      omega (arith, c.decreases),
      (
        c.requires.node,
        struct_shape c.kind.result l
            (shape c.kind.result l c.kind.ensures.kind) c.in-Struct.is,
      ),
    )

pub inline_cells-returns-in-Optional-clause-cells : goal.inline_cells-returns-in-Optional-clause-cells
inline_cells-returns-in-Optional-clause-cells t c =
    let y = c.args.layouts.now in
    let l = at y c.args.node in
    let o = optional_at l (subst (λ z. IsShape (plain z) l) c.in-Optional.is
    (shape c.kind.result l c.kind.ensures.kind)) in
    let ch = inner_child (tree_of y.nodes.items) (version_of y.version) c.args.node o.width o.inner
    c.requires.node o.is in
    ap (λ n. 1 + n) (c.inline_cells.ensures.cells ∙ ap inline_cells ch.is) ∙ sym (ap inline_cells o.is)

pub inline_cells-returns-in-Optional-clause-few : goal.inline_cells-returns-in-Optional-clause-few
inline_cells-returns-in-Optional-clause-few t c =
    let y = c.args.layouts.now in
    let l = at y c.args.node in
    let o = optional_at l (subst (λ z. IsShape (plain z) l) c.in-Optional.is
    (shape c.kind.result l c.kind.ensures.kind)) in
    let ch = inner_child (tree_of y.nodes.items) (version_of y.version) c.args.node o.width o.inner
    c.requires.node o.is in
    let s = sub (tree_of y.nodes.items) c.args.node in
    omega (
      arith,
      c.inline_cells.ensures.cells,
      ap inline_cells ch.is,
      inline_nodes o.inner,
      ap nodes o.is,
      same_nodes (version_of y.version) s,
      node_small y.version y.nodes.items s c.args.node y.listing
          y.sound c.requires.node,
    )

pub struct_cells-loop-child-init : goal.struct_cells-loop-child-init
struct_cells-loop-child-init t c =
    let y = c.args.layouts.now in
    let v = version_of y.version in
    let l = at y c.args.node in
    left_start (tree_of y.nodes.items) v c.args.node (c.args.node + 1) c.past-end.result (CellsLeft v l 0)
    c.requires.node c.requires.structure (λ fs e. record { is = omega (arith, ap inline_cells e) })
    (c.past-end.ensures.part c.requires.node) refl

pub struct_cells-inline_cells-sum-requires : goal.struct_cells-inline_cells-sum-requires
struct_cells-inline_cells-sum-requires t c =
    let y = c.args.layouts.now in
    let v = version_of y.version in
    let l = at y c.args.node in
    let k = c.loop-child in
    let st = left_step (tree_of y.nodes.items) v (nodes l) k.child c.past-end.result (CellsLeft v l k.sum)
    (CellsLeft v l k.sum) k.invariant c.loop-child-test.true in
    (omega (arith, c.decreases, st.below, ap nodes st.node.is, same_nodes v st.here), st.node.node)

pub struct_cells-overflow_add-sum : goal.struct_cells-overflow_add-sum
struct_cells-overflow_add-sum t c =
    let y = c.args.layouts.now in
    let v = version_of y.version in
    let l = at y c.args.node in
    let k = c.loop-child in
    let st = left_step (tree_of y.nodes.items) v (nodes l) k.child c.past-end.result (CellsLeft v l k.sum)
    (CellsLeft v l k.sum) k.invariant c.loop-child-test.true in
    let s = sub (tree_of y.nodes.items) c.args.node in
    omega (
      arith,
      st.holds.is,
      c.inline_cells-sum.ensures.few,
      inline_nodes l,
      same_nodes v s,
      node_small
          y.version y.nodes.items s c.args.node y.listing y.sound c.requires.node,
    )

pub struct_cells-past-child-requires : goal.struct_cells-past-child-requires
struct_cells-past-child-requires t c =
    let y = c.args.layouts.now in
    let v = version_of y.version in
    let l = at y c.args.node in
    let k = c.loop-child in
    number_of_part (tree_of y.nodes.items) k.child
    (left_step (tree_of y.nodes.items) v (nodes l) k.child c.past-end.result (CellsLeft v l k.sum)
    (CellsLeft v l k.sum) k.invariant c.loop-child-test.true).node.node

pub struct_cells-loop-child-smaller : goal.struct_cells-loop-child-smaller
struct_cells-loop-child-smaller t c =
    let y = c.args.layouts.now in
    let v = version_of y.version in
    let l = at y c.args.node in
    let k = c.loop-child in
    let st = left_step (tree_of y.nodes.items) v (nodes l) k.child c.past-end.result (CellsLeft v l k.sum)
    (CellsLeft v l k.sum) k.invariant c.loop-child-test.true in
    omega (
      arith,
      c.past-child.ensures.part st.node.node,
      ap nodes st.node.is,
      same_nodes v st.here,
      st.some,
      st.past,
    )

pub struct_cells-loop-child-preserved : goal.struct_cells-loop-child-preserved
struct_cells-loop-child-preserved t c =
    let y = c.args.layouts.now in
    let v = version_of y.version in
    let l = at y c.args.node in
    let k = c.loop-child in
    let sum2 = k.sum + c.inline_cells-sum.result in
    let st = left_step (tree_of y.nodes.items) v (nodes l) k.child c.past-end.result (CellsLeft v l k.sum)
    (CellsLeft v l sum2) k.invariant c.loop-child-test.true in
    st.next c.past-child.result (omega
    (arith, c.past-child.ensures.part st.node.node, ap nodes st.node.is, same_nodes v st.here))
    (record {
      is = omega (
        arith,
        st.holds.is,
        c.inline_cells-sum.ensures.cells,
        ap inline_cells
            st.node.is,
      );
    })

pub struct_cells-returns-clause-cells : goal.struct_cells-returns-clause-cells
struct_cells-returns-clause-cells t c =
    let y = c.args.layouts.now in
    let v = version_of y.version in
    let l = at y c.args.node in
    let k = c.loop-child in
    let h = left_end (tree_of y.nodes.items) v (nodes l) k.child c.past-end.result (CellsLeft v l k.sum)
    k.invariant c.loop-child-test.false in
    omega (arith, h.is)

pub struct_cells-returns-clause-few : goal.struct_cells-returns-clause-few
struct_cells-returns-clause-few t c =
    let y = c.args.layouts.now in
    let v = version_of y.version in
    let l = at y c.args.node in
    let k = c.loop-child in
    let h = left_end (tree_of y.nodes.items) v (nodes l) k.child c.past-end.result (CellsLeft v l k.sum)
    k.invariant c.loop-child-test.false in
    let s = sub (tree_of y.nodes.items) c.args.node in
    omega (
      arith,
      h.is,
      inline_nodes l,
      same_nodes v s,
      node_small y.version y.nodes.items s c.args.node
          y.listing y.sound c.requires.node,
    )

pub struct_cells-past-end-requires : goal.struct_cells-past-end-requires
struct_cells-past-end-requires t c = number_of_part (tree_of c.args.layouts.now.nodes.items) c.args.node
    c.requires.node
