use Rattle.std.proofs.Common.{◌≡◌, ◌+◌, ◌-◌, ◌*◌, ◌≤◌, arith, ap, sym, ◌∙◌, subst, refl, None, Some, Ok, Err}
use Rattle.std.proofs.Common.{ℕ}
use Rattle.frozen_model.specs.Bits.{field}
use Rattle.frozen_model.specs.Trees.{nodes, AList, AMap}
use Rattle.frozen_model.specs.Values.{inline_cells}
use Rattle.frozen_model.specs.Layouts.{Layout, stride}
use Rattle.frozen_model.specs.Walk.{walk}
use Rattle.layout_tree.specs.Nodes.{at}
use Rattle.layout_tree.specs.Listing.{sub, tree_of, version_of}
use Rattle.layout_tree.specs.Reading.{plain, item_of, isset_width}
use Rattle.layout_tree.proofs.Children.{item_child, inner_child, node_small}
use Rattle.layout_tree.proofs.Readings.{same_nodes}
use Rattle.layout_tree.proofs.Numbers.{number_of_part, item_is}
use Rattle.content_check.specs.Agreeing.{IsHere, Agrees}
use Rattle.layout_tree.proofs.Left.{left_start, left_step, left_end}
use Rattle.content_check.proofs.Parts.{IsShape, shape, struct_shape, leaf_shape, list_holder, optional_at}
use Rattle.content_check.proofs.Parts.{item_nodes}
use Rattle.content_check.proofs.Walks.{FieldsRest, fields_start, fields_ok, fields_err, fields_done}
use Rattle.content_check.proofs.Walks.{fields_here, EachLeft, each_start, each_here, each_ok, each_err}
use Rattle.content_check.proofs.Walks.{each_done, walks, present_agrees, absent_agrees, dirty_agrees}
use Rattle.content_check.proofs.Walks.{number_agrees, list_at, range_err, block_err, block_ok, block_here}
use Rattle.content_check.proofs.MapForms.{map_range, map_holder, map_pair, pair_nodes, pair_key_err}
use Rattle.content_check.proofs.MapForms.{pair_value_err, pair_ok, key_here, value_here, value_nodes}
use Rattle.content_check.proofs.Walks.{agrees_ok}
use Rattle.content_check.specs.Steps.{IsOfKind}
use Rattle.content_check.specs.Agreeing.{key_value}
use Rattle.content_check.specs.Agreeing.{IsAhead}
use Rattle.key_order.specs.Keys.{value_of}
use Rattle.frozen_model.specs.Values.{Value}
use Rattle.frozen_model.specs.Trees.{IsKey}
use Rattle.content_check.specs.Sure.{IsSure}
use Rattle.content_check.proofs.Sures.{sure_passes, sure_items_pass}
use Rattle.content_check.proofs.check.+check.Goals as goal

-- ---- fields

pub check_fields-loop-child-init : goal.check_fields-loop-child-init
check_fields-loop-child-init t c =
    let y = c.args.layouts.now in
    let v = version_of y.version in
    let l = at y c.args.node in
    let a = c.args in
    left_start (tree_of y.nodes.items) v a.node (a.node + 1) c.past-end.result
    (FieldsRest a.content.now v l a.start a.bit a.from a.bit a.from) c.requires.node c.requires.structure
    (λ fs e. fields_start a.content.now v l a.start a.bit a.from fs e c.requires.here)
    (c.past-end.ensures.part c.requires.node) refl

pub check_fields-check_part-requires : goal.check_fields-check_part-requires
check_fields-check_part-requires t c =
    let y = c.args.layouts.now in
    let v = version_of y.version in
    let l = at y c.args.node in
    let a = c.args in
    let k = c.loop-child in
    let p = FieldsRest a.content.now v l a.start a.bit a.from k.place k.reach in
    let st = left_step (tree_of y.nodes.items) v (nodes l) k.child c.past-end.result p p k.invariant
    c.loop-child-test.true in
    let h = fields_here a.content.now v l a.start a.bit a.from k.place k.reach st.id st.here st.rest
    c.requires.here.past st.holds in (
      omega (arith, c.decreases, st.below, ap nodes st.node.is, same_nodes v st.here),
      (
        st.node.node,
        (
          c.requires.facts,
          subst (λ (z : Layout). IsHere a.content.now z a.start k.place k.reach)
              (sym st.node.is) h,
        ),
      ),
    )

pub check_fields-returns-in-Err : goal.check_fields-returns-in-Err
check_fields-returns-in-Err t c =
    let y = c.args.layouts.now in
    let v = version_of y.version in
    let l = at y c.args.node in
    let a = c.args in
    let k = c.loop-child in
    let p = FieldsRest a.content.now v l a.start a.bit a.from k.place k.reach in
    let st = left_step (tree_of y.nodes.items) v (nodes l) k.child c.past-end.result p p k.invariant
    c.loop-child-test.true in
    let s = subst (λ (z : Layout). Agrees a.content.now
    (walk a.content.now z a.start None k.place k.reach.next k.reach.cells) k.reach (Err c.in-Err.fault))
    st.node.is c.in-Err.ensures in
    fields_err a.content.now v l a.start a.bit a.from k.place k.reach c.in-Err.fault st.id st.here st.rest
    st.holds s

pub check_fields-bits-requires : goal.check_fields-bits-requires
check_fields-bits-requires t c =
    let y = c.args.layouts.now in
    let v = version_of y.version in
    let l = at y c.args.node in
    let a = c.args in
    let k = c.loop-child in
    let p = FieldsRest a.content.now v l a.start a.bit a.from k.place k.reach in
    (left_step (tree_of y.nodes.items) v (nodes l) k.child c.past-end.result p p k.invariant
    c.loop-child-test.true).node.node

pub check_fields-past-child-requires : goal.check_fields-past-child-requires
check_fields-past-child-requires t c =
    let y = c.args.layouts.now in
    let v = version_of y.version in
    let l = at y c.args.node in
    let a = c.args in
    let k = c.loop-child in
    let p = FieldsRest a.content.now v l a.start a.bit a.from k.place k.reach in
    number_of_part (tree_of y.nodes.items) k.child
    (left_step (tree_of y.nodes.items) v (nodes l) k.child c.past-end.result p p k.invariant
    c.loop-child-test.true).node.node

pub check_fields-overflow_add-place : goal.check_fields-overflow_add-place
check_fields-overflow_add-place t c =
    let y = c.args.layouts.now in
    let v = version_of y.version in
    let l = at y c.args.node in
    let a = c.args in
    let k = c.loop-child in
    let p = FieldsRest a.content.now v l a.start a.bit a.from k.place k.reach in
    let st = left_step (tree_of y.nodes.items) v (nodes l) k.child c.past-end.result p p k.invariant
    c.loop-child-test.true in
    omega (arith, st.holds.inside, st.holds.small, c.bits.ensures.bits, ap stride st.node.is)

pub check_fields-loop-child-smaller : goal.check_fields-loop-child-smaller
check_fields-loop-child-smaller t c =
    let y = c.args.layouts.now in
    let v = version_of y.version in
    let l = at y c.args.node in
    let a = c.args in
    let k = c.loop-child in
    let p = FieldsRest a.content.now v l a.start a.bit a.from k.place k.reach in
    let st = left_step (tree_of y.nodes.items) v (nodes l) k.child c.past-end.result p p k.invariant
    c.loop-child-test.true in
    omega (
      arith,
      c.past-child.ensures.part st.node.node,
      ap nodes st.node.is,
      same_nodes v st.here,
      st.some,
      st.past,
    )

pub check_fields-loop-child-preserved : goal.check_fields-loop-child-preserved
check_fields-loop-child-preserved t c =
    let y = c.args.layouts.now in
    let v = version_of y.version in
    let l = at y c.args.node in
    let a = c.args in
    let k = c.loop-child in
    let after = c.in-Ok.after in
    let p = FieldsRest a.content.now v l a.start a.bit a.from k.place k.reach in
    let q = FieldsRest a.content.now v l a.start a.bit a.from (k.place + c.bits.result) after in
    let st = left_step (tree_of y.nodes.items) v (nodes l) k.child c.past-end.result p q k.invariant
    c.loop-child-test.true in
    let s = subst (λ (z : Layout). Agrees a.content.now
    (walk a.content.now z a.start None k.place k.reach.next k.reach.cells) k.reach (Ok after)) st.node.is
    c.in-Ok.ensures in
    st.next c.past-child.result (omega
    (arith, c.past-child.ensures.part st.node.node, ap nodes st.node.is, same_nodes v st.here))
    (fields_ok a.content.now v l a.start a.bit a.from k.place k.reach after st.id st.here st.rest
    (k.place + c.bits.result) st.holds s (ap (λ z. k.place + z) (c.bits.ensures.bits ∙ ap stride st.node.is)))

pub check_fields-returns : goal.check_fields-returns
check_fields-returns t c =
    let y = c.args.layouts.now in
    let v = version_of y.version in
    let l = at y c.args.node in
    let a = c.args in
    let k = c.loop-child in
    let p = FieldsRest a.content.now v l a.start a.bit a.from k.place k.reach in
    fields_done a.content.now v l a.start a.bit a.from k.place k.reach
    (left_end (tree_of y.nodes.items) v (nodes l) k.child c.past-end.result p k.invariant
    c.loop-child-test.false)

-- ---- items

pub check_list_items-loop-left-init : goal.check_list_items-loop-left-init
check_list_items-loop-left-init t c =
    let a = c.args in (
      None,
      each_start a.content.now AList (item_of (at a.layouts.now a.node)) a.start a.n a.from a.n refl
          c.requires.here,
    )

pub check_list_items-is_sure_at-requires : goal.check_list_items-is_sure_at-requires
check_list_items-is_sure_at-requires t c =
    let a = c.args in
    let y = a.layouts.now in
    record {
      node = (item_child (tree_of y.nodes.items) (version_of y.version) a.node c.requires.node
          c.requires.holder).node;
      facts = c.requires.facts;
    }

pub check_list_items-returns-then-is_sure_at : goal.check_list_items-returns-then-is_sure_at
check_list_items-returns-then-is_sure_at t c =
    let a = c.args in
    let y = a.layouts.now in
    let l = at y a.node in
    let ch = item_child (tree_of y.nodes.items) (version_of y.version) a.node c.requires.node
    c.requires.holder in
    let s = subst IsSure ch.is (c.is_sure_at.ensures c.if-is_sure_at.true) in
    let h = c.requires.here in
    record {
      same = sym (sure_items_pass a.content.now (item_of l) s a.start (stride (item_of l)) a.n (8 * a.start)
          a.from.next a.from.cells None);
      ahead = (omega arith, h.within, h.few);
    }

pub check_list_items-overflow_add-node : goal.check_list_items-overflow_add-node
check_list_items-overflow_add-node t c =
    let l = c.args.layouts.now in
    omega (
      arith,
      node_small l.version l.nodes.items (sub (tree_of l.nodes.items) c.args.node) c.args.node
          l.listing l.sound c.requires.node,
    )

pub check_list_items-overflow_add-node-in-loop-left : goal.check_list_items-overflow_add-node-in-loop-left
check_list_items-overflow_add-node-in-loop-left t c =
    let l = c.args.layouts.now in
    omega (
      arith,
      node_small l.version l.nodes.items (sub (tree_of l.nodes.items) c.args.node) c.args.node
          l.listing l.sound c.requires.node,
    )

pub check_list_items-check_part-requires : goal.check_list_items-check_part-requires
check_list_items-check_part-requires t c =
    let a = c.args in
    let y = a.layouts.now in
    let l = at y a.node in
    let k = c.loop-left in
    let ch = item_child (tree_of y.nodes.items) (version_of y.version) a.node c.requires.node
    c.requires.holder in
    let h = each_here a.content.now AList (item_of l) a.start a.n a.from k.invariant.0 k.left k.bit k.reach
    (omega (arith, c.loop-left-test.true)) k.invariant.1 in (
      omega (arith, c.decreases, ap nodes ch.is, item_nodes l c.requires.holder),
      (
        ch.node,
        (
          c.requires.facts,
          subst (λ (z : Layout). IsHere a.content.now z a.start k.bit k.reach)
              (sym ch.is) h,
        ),
      ),
    )

pub check_list_items-returns-in-Err : goal.check_list_items-returns-in-Err
check_list_items-returns-in-Err t c =
    let a = c.args in
    let y = a.layouts.now in
    let l = at y a.node in
    let k = c.loop-left in
    let ch = item_child (tree_of y.nodes.items) (version_of y.version) a.node c.requires.node
    c.requires.holder in
    let s = subst (λ (z : Layout). Agrees a.content.now
    (walk a.content.now z a.start None k.bit k.reach.next k.reach.cells) k.reach (Err c.in-Err.fault))
    ch.is c.in-Err.ensures in
    each_err a.content.now AList (item_of l) a.start a.n a.from k.invariant.0 k.left k.bit k.reach
    c.in-Err.fault k.invariant.1 (omega (arith, c.loop-left-test.true)) s

pub check_list_items-overflow_add-bit : goal.check_list_items-overflow_add-bit
check_list_items-overflow_add-bit t c =
    let a = c.args in
    let y = a.layouts.now in
    let l = at y a.node in
    let k = c.loop-left in
    let h = each_here a.content.now AList (item_of l) a.start a.n a.from k.invariant.0 k.left k.bit k.reach
    (omega (arith, c.loop-left-test.true)) k.invariant.1 in
    omega (arith, h.inside, h.small, (c.stride-stride.ensures.stride ∙ sym (item_is l c.requires.holder)))

pub check_list_items-loop-left-preserved : goal.check_list_items-loop-left-preserved
check_list_items-loop-left-preserved t c =
    let a = c.args in
    let y = a.layouts.now in
    let l = at y a.node in
    let k = c.loop-left in
    let m = item_of l in
    let after = c.in-Ok.after in
    let ch = item_child (tree_of y.nodes.items) (version_of y.version) a.node c.requires.node
    c.requires.holder in
    let s = subst (λ (z : Layout). Agrees a.content.now
    (walk a.content.now z a.start None k.bit k.reach.next k.reach.cells) k.reach (Ok after)) ch.is
    c.in-Ok.ensures in
    let w = walks (walk a.content.now m a.start None k.bit k.reach.next k.reach.cells) after.next after.cells
    (sym s.same) in (
      _,
      each_ok a.content.now AList m a.start a.n a.from k.invariant.0 k.left k.bit k.reach after (k.left - 1)
          (k.bit + c.stride-stride.result) k.invariant.1 (omega (arith, c.loop-left-test.true)) s w
          (ap (λ z. k.bit + z) (c.stride-stride.ensures.stride ∙ sym (item_is l c.requires.holder))),
    )

pub check_list_items-returns : goal.check_list_items-returns
check_list_items-returns t c =
    let a = c.args in
    let k = c.loop-left in
    each_done a.content.now AList (item_of (at a.layouts.now a.node)) a.start a.n a.from k.invariant.0 k.left
    k.bit k.reach k.invariant.1 (omega (arith, c.loop-left-test.false))

-- ---- optionals

pub check_optional-overflow_add-node : goal.check_optional-overflow_add-node
check_optional-overflow_add-node t c =
    let l = c.args.layouts.now in
    omega (
      arith,
      node_small l.version l.nodes.items (sub (tree_of l.nodes.items) c.args.node) c.args.node
          l.listing l.sound c.requires.node,
    )

pub check_optional-overflow_add-node-else-read_bits-eq1 : goal.check_optional-overflow_add-node-else-read_bits-eq1
check_optional-overflow_add-node-else-read_bits-eq1 t c =
    let l = c.args.layouts.now in
    omega (
      arith,
      node_small l.version l.nodes.items (sub (tree_of l.nodes.items) c.args.node) c.args.node
          l.listing l.sound c.requires.node,
    )

pub check_optional-check_part-requires : goal.check_optional-check_part-requires
check_optional-check_part-requires t c =
    let a = c.args in
    let y = a.layouts.now in
    let l = at y a.node in
    let o = optional_at l c.requires.optional in
    let ch = inner_child (tree_of y.nodes.items) (version_of y.version) a.node o.width o.inner c.requires.node
    o.is in
    let h = c.requires.here in
    let w : c.isset_bits-width.result ≡ o.width = c.isset_bits-width.ensures.width ∙ ap isset_width o.is in
    let i : IsHere a.content.now o.inner a.start (a.bit + c.isset_bits-width.result) a.reach = record {
      inside = omega (arith, h.inside, ap stride o.is, w);
      past = h.past;
      within = h.within;
      few = h.few;
      small = h.small;
    } in (
      omega (arith, c.decreases, ap nodes o.is, ap nodes ch.is),
      (
        ch.node,
        (
          c.requires.facts,
          subst (λ (z : Layout). IsHere a.content.now z a.start
              (a.bit + c.isset_bits-width.result) a.reach) (sym ch.is) i,
        ),
      ),
    )

pub check_optional-bits-requires : goal.check_optional-bits-requires
check_optional-bits-requires t c =
    let a = c.args in
    let y = a.layouts.now in
    let o = optional_at (at y a.node) c.requires.optional in
    (inner_child (tree_of y.nodes.items) (version_of y.version) a.node o.width o.inner c.requires.node
    o.is).node

pub check_optional-check_zero-requires-clause-inside : goal.check_optional-check_zero-requires-clause-inside
check_optional-check_zero-requires-clause-inside t c =
    let a = c.args in
    let y = a.layouts.now in
    let l = at y a.node in
    let o = optional_at l c.requires.optional in
    let ch = inner_child (tree_of y.nodes.items) (version_of y.version) a.node o.width o.inner c.requires.node
    o.is in
    let w : c.isset_bits-width.result ≡ o.width = c.isset_bits-width.ensures.width ∙ ap isset_width o.is in
    omega (arith, c.requires.here.inside, ap stride o.is, w, c.bits.ensures.bits, ap stride ch.is)

pub check_optional-returns-then-read_bits-eq1 : goal.check_optional-returns-then-read_bits-eq1
check_optional-returns-then-read_bits-eq1 t c =
    let a = c.args in
    let y = a.layouts.now in
    let l = at y a.node in
    let o = optional_at l c.requires.optional in
    let ch = inner_child (tree_of y.nodes.items) (version_of y.version) a.node o.width o.inner c.requires.node
    o.is in
    let w : c.isset_bits-width.result ≡ o.width = c.isset_bits-width.ensures.width ∙ ap isset_width o.is in
    let f : field a.content.now a.bit o.width ≡ 1 = ap (field a.content.now a.bit) (sym w)
    ∙ sym c.read_bits.ensures.value ∙ c.if-read_bits-eq1.true in
    present_agrees a.content.now l o.width o.inner a.start a.bit (a.bit + c.isset_bits-width.result) a.reach
    o.is f (ap (λ z. a.bit + z) w)
    (subst (λ (z : Layout). Agrees a.content.now
    (walk a.content.now z a.start None (a.bit + c.isset_bits-width.result) a.reach.next a.reach.cells) a.reach
    c.check_part.result) ch.is c.check_part.ensures)

pub check_optional-returns-in-Ok : goal.check_optional-returns-in-Ok
check_optional-returns-in-Ok t c =
    let a = c.args in
    let y = a.layouts.now in
    let l = at y a.node in
    let o = optional_at l c.requires.optional in
    let ch = inner_child (tree_of y.nodes.items) (version_of y.version) a.node o.width o.inner c.requires.node
    o.is in
    let w : c.isset_bits-width.result ≡ o.width = c.isset_bits-width.ensures.width ∙ ap isset_width o.is in
    let f = λ (e : field a.content.now a.bit o.width ≡ 1). c.if-read_bits-eq1.false
    (c.read_bits.ensures.value ∙ ap (field a.content.now a.bit) w ∙ e) in
    absent_agrees a.content.now l o.width o.inner a.start a.bit (a.bit + c.isset_bits-width.result)
    c.bits.result a.reach o.is f (ap (λ z. a.bit + z) w) (c.bits.ensures.bits ∙ ap stride ch.is)
    c.requires.here.within c.requires.here.few c.in-Ok.ensures

pub check_optional-returns-in-Err : goal.check_optional-returns-in-Err
check_optional-returns-in-Err t c =
    let a = c.args in
    let y = a.layouts.now in
    let l = at y a.node in
    let o = optional_at l c.requires.optional in
    let ch = inner_child (tree_of y.nodes.items) (version_of y.version) a.node o.width o.inner c.requires.node
    o.is in
    let w : c.isset_bits-width.result ≡ o.width = c.isset_bits-width.ensures.width ∙ ap isset_width o.is in
    let f = λ (e : field a.content.now a.bit o.width ≡ 1). c.if-read_bits-eq1.false
    (c.read_bits.ensures.value ∙ ap (field a.content.now a.bit) w ∙ e) in
    dirty_agrees a.content.now l o.width o.inner a.start a.bit (a.bit + c.isset_bits-width.result)
    c.bits.result a.reach c.in-Err.fault o.is f (ap (λ z. a.bit + z) w)
    (c.bits.ensures.bits ∙ ap stride ch.is) c.in-Err.ensures

-- ---- parts

pub check_part-check_fields-requires : goal.check_part-check_fields-requires
check_part-check_fields-requires t c =
    let l = at c.args.layouts.now c.args.node in (
      omega (arith, c.decreases),
      (
        c.requires.node,
        (
          c.requires.facts,
          (
            struct_shape c.kind.result l (shape c.kind.result l c.kind.ensures.kind) c.in-Struct.is,
            c.requires.here,
          ),
        ),
      ),
    )

pub check_part-check_map-requires : goal.check_part-check_map-requires
check_part-check_map-requires t c =
    let l = at c.args.layouts.now c.args.node in (
      omega (arith, c.decreases),
      (
        c.requires.node,
        (
          c.requires.facts,
          (
            subst (λ z. IsShape (plain z) l) c.in-Map.is (shape c.kind.result l c.kind.ensures.kind),
            c.requires.here,
          ),
        ),
      ),
    )

pub check_part-check_set-requires-clause-set : goal.check_part-check_set-requires-clause-set
check_part-check_set-requires-clause-set t c =
    let l = at c.args.layouts.now c.args.node in
    subst (λ z. IsShape (plain z) l) c.in-Set.is (shape c.kind.result l c.kind.ensures.kind)

pub check_part-check_list-requires : goal.check_part-check_list-requires
check_part-check_list-requires t c =
    let l = at c.args.layouts.now c.args.node in (
      omega (arith, c.decreases),
      (
        c.requires.node,
        (
          c.requires.facts,
          (
            subst (λ z. IsShape (plain z) l) c.in-List.is (shape c.kind.result l c.kind.ensures.kind),
            c.requires.here,
          ),
        ),
      ),
    )

pub check_part-check_optional-requires : goal.check_part-check_optional-requires
check_part-check_optional-requires t c =
    let l = at c.args.layouts.now c.args.node in (
      omega (arith, c.decreases),
      (
        c.requires.node,
        (
          c.requires.facts,
          (
            subst (λ z. IsShape (plain z) l) c.in-Optional.is
                (shape c.kind.result l c.kind.ensures.kind),
            c.requires.here,
          ),
        ),
      ),
    )

pub check_part-returns-in-Some : goal.check_part-returns-in-Some
check_part-returns-in-Some t c =
    let a = c.args in
    let l = at a.layouts.now a.node in
    number_agrees a.content.now l a.start a.bit a.reach _
    (leaf_shape c.kind.result l (shape c.kind.result l c.kind.ensures.kind) c.in-I8.is) c.in-Some.ensures
    c.requires.here

-- ---- lists

pub check_list-returns-in-Err : goal.check_list-returns-in-Err
check_list-returns-in-Err t c =
    let a = c.args in
    let l = at a.layouts.now a.node in
    range_err a.content.now AList l a.start a.bit a.reach c.in-Err.fault (list_at l c.requires.list)
    c.in-Err.ensures.goes_on

pub check_list-overflow_add-node : goal.check_list-overflow_add-node
check_list-overflow_add-node t c =
    let l = c.args.layouts.now in
    omega (
      arith,
      node_small l.version l.nodes.items (sub (tree_of l.nodes.items) c.args.node) c.args.node
          l.listing l.sound c.requires.node,
    )

pub check_list-cells_at-unit-requires : goal.check_list-cells_at-unit-requires
check_list-cells_at-unit-requires t c =
    let y = c.args.layouts.now in
    record {
      node = (item_child (tree_of y.nodes.items) (version_of y.version) c.args.node c.requires.node
          (list_holder (at y c.args.node) c.requires.list)).node;
      facts = c.requires.facts;
    }

pub check_list-take_block-requires-clause-holder : goal.check_list-take_block-requires-clause-holder
check_list-take_block-requires-clause-holder t c = list_holder (at c.args.layouts.now c.args.node)
    c.requires.list

pub check_list-take_block-requires-clause-unit : goal.check_list-take_block-requires-clause-unit
check_list-take_block-requires-clause-unit t c =
    let y = c.args.layouts.now in
    let ch = item_child (tree_of y.nodes.items) (version_of y.version) c.args.node c.requires.node
    (list_holder (at y c.args.node) c.requires.list) in
    omega (arith, c.cells_at-unit.ensures.cells, ap inline_cells ch.is)

pub check_list-returns-in-Err-take_block : goal.check_list-returns-in-Err-take_block
check_list-returns-in-Err-take_block t c =
    let a = c.args in
    let l = at a.layouts.now a.node in
    block_err a.content.now AList l a.start a.bit c.in-Ok.n a.reach c.in-Err-take_block.fault
    (list_at l c.requires.list) c.in-Ok.ensures.goes_on c.in-Err-take_block.ensures.taken

pub check_list-check_list_items-requires : goal.check_list-check_list_items-requires
check_list-check_list_items-requires t c =
    let a = c.args in
    let l = at a.layouts.now a.node in (
      omega (arith, c.decreases),
      (
        c.requires.node,
        (
          c.requires.facts,
          (
            list_holder l c.requires.list,
            block_here a.content.now (item_of l) c.in-Ok.n a.reach
                c.in-Ok-take_block.inner c.requires.here.within c.requires.here.small
                c.in-Ok-take_block.ensures.lies,
          ),
        ),
      ),
    )

pub check_list-returns : goal.check_list-returns
check_list-returns t c =
    let a = c.args in
    let l = at a.layouts.now a.node in
    block_ok a.content.now AList l a.start a.bit c.in-Ok.n a.reach c.in-Ok-take_block.inner
    (list_at l c.requires.list) c.in-Ok.ensures.goes_on c.in-Ok-take_block.ensures.taken
    c.in-Ok-take_block.ensures.lies c.check_list_items.ensures

-- ---- maps

pub check_map-returns-in-Err : goal.check_map-returns-in-Err
check_map-returns-in-Err t c =
    let a = c.args in
    let l = at a.layouts.now a.node in
    range_err a.content.now AMap l a.start a.bit a.reach c.in-Err.fault (map_range l c.requires.map)
    c.in-Err.ensures.goes_on

pub check_map-overflow_add-node : goal.check_map-overflow_add-node
check_map-overflow_add-node t c =
    let l = c.args.layouts.now in
    omega (
      arith,
      node_small l.version l.nodes.items (sub (tree_of l.nodes.items) c.args.node) c.args.node
          l.listing l.sound c.requires.node,
    )

pub check_map-cells_at-unit-requires : goal.check_map-cells_at-unit-requires
check_map-cells_at-unit-requires t c =
    let y = c.args.layouts.now in
    record {
      node = (item_child (tree_of y.nodes.items) (version_of y.version) c.args.node c.requires.node
          (map_holder (at y c.args.node) c.requires.map)).node;
      facts = c.requires.facts;
    }

pub check_map-take_block-requires-clause-holder : goal.check_map-take_block-requires-clause-holder
check_map-take_block-requires-clause-holder t c = map_holder (at c.args.layouts.now c.args.node)
    c.requires.map

pub check_map-take_block-requires-clause-unit : goal.check_map-take_block-requires-clause-unit
check_map-take_block-requires-clause-unit t c =
    let y = c.args.layouts.now in
    let ch = item_child (tree_of y.nodes.items) (version_of y.version) c.args.node c.requires.node
    (map_holder (at y c.args.node) c.requires.map) in
    omega (arith, c.cells_at-unit.ensures.cells, ap inline_cells ch.is)

pub check_map-returns-in-Err-take_block : goal.check_map-returns-in-Err-take_block
check_map-returns-in-Err-take_block t c =
    let a = c.args in
    let l = at a.layouts.now a.node in
    block_err a.content.now AMap l a.start a.bit c.in-Ok.n a.reach c.in-Err-take_block.fault
    (map_range l c.requires.map) c.in-Ok.ensures.goes_on c.in-Err-take_block.ensures.taken

pub check_map-check_map_items-requires : goal.check_map-check_map_items-requires
check_map-check_map_items-requires t c =
    let a = c.args in
    let l = at a.layouts.now a.node in (
      omega (arith, c.decreases),
      (
        c.requires.node,
        (
          c.requires.facts,
          (
            c.requires.map,
            block_here a.content.now (item_of l) c.in-Ok.n a.reach
                c.in-Ok-take_block.inner c.requires.here.within c.requires.here.small
                c.in-Ok-take_block.ensures.lies,
          ),
        ),
      ),
    )

pub check_map-returns : goal.check_map-returns
check_map-returns t c =
    let a = c.args in
    let l = at a.layouts.now a.node in
    block_ok a.content.now AMap l a.start a.bit c.in-Ok.n a.reach c.in-Ok-take_block.inner
    (map_range l c.requires.map) c.in-Ok.ensures.goes_on c.in-Ok-take_block.ensures.taken
    c.in-Ok-take_block.ensures.lies c.check_map_items.ensures

-- ---- pairs

pub check_map_items-overflow_add-node : goal.check_map_items-overflow_add-node
check_map_items-overflow_add-node t c =
    let l = c.args.layouts.now in
    omega (
      arith,
      node_small l.version l.nodes.items (sub (tree_of l.nodes.items) c.args.node) c.args.node
          l.listing l.sound c.requires.node,
    )

pub check_map_items-past-value-requires : goal.check_map_items-past-value-requires
check_map_items-past-value-requires t c =
    let a = c.args in
    let y = a.layouts.now in
    let v = version_of y.version in
    let t0 = tree_of y.nodes.items in
    let l = at y a.node in
    let m = item_of l in
    let bs = a.content.now in
    let ch = item_child t0 v a.node c.requires.node (map_holder l c.requires.map) in
    let p = map_pair y.version t0 (sub t0 a.node) a.node y.sound c.requires.node c.requires.map in
    let pn = pair_nodes t0 v a.node m p ch in
    number_of_part t0 (a.node + 4) pn.key.node

pub check_map_items-bits-key_bits-requires : goal.check_map_items-bits-key_bits-requires
check_map_items-bits-key_bits-requires t c =
    let a = c.args in
    let y = a.layouts.now in
    let v = version_of y.version in
    let t0 = tree_of y.nodes.items in
    let l = at y a.node in
    let m = item_of l in
    let bs = a.content.now in
    let ch = item_child t0 v a.node c.requires.node (map_holder l c.requires.map) in
    let p = map_pair y.version t0 (sub t0 a.node) a.node y.sound c.requires.node c.requires.map in
    let pn = pair_nodes t0 v a.node m p ch in
    pn.key.node

pub check_map_items-loop-left-init : goal.check_map_items-loop-left-init
check_map_items-loop-left-init t c =
    let a = c.args in
    let y = a.layouts.now in
    let v = version_of y.version in
    let t0 = tree_of y.nodes.items in
    let l = at y a.node in
    let m = item_of l in
    let bs = a.content.now in
    let ch = item_child t0 v a.node c.requires.node (map_holder l c.requires.map) in
    let p = map_pair y.version t0 (sub t0 a.node) a.node y.sound c.requires.node c.requires.map in
    let pn = pair_nodes t0 v a.node m p ch in
    record { pair = p; left = each_start bs AMap m a.start a.n a.from a.n refl c.requires.here; kind = tt }

pub check_map_items-check_key-requires-clause-node : goal.check_map_items-check_key-requires-clause-node
check_map_items-check_key-requires-clause-node t c =
    let a = c.args in
    let y = a.layouts.now in
    let v = version_of y.version in
    let t0 = tree_of y.nodes.items in
    let l = at y a.node in
    let m = item_of l in
    let bs = a.content.now in
    let ch = item_child t0 v a.node c.requires.node (map_holder l c.requires.map) in
    let k = c.loop-left in
    let p = k.invariant.pair in
    let pn = pair_nodes t0 v a.node m p ch in
    let key = key_value k.before in
    let pos : 1 ≤ k.left = omega (arith, c.loop-left-test.true) in
    let h = each_here bs AMap m a.start a.n a.from key k.left k.bit k.reach pos k.invariant.left in
    pn.key.node

pub check_map_items-check_key-requires-clause-key : goal.check_map_items-check_key-requires-clause-key
check_map_items-check_key-requires-clause-key t c =
    let a = c.args in
    let y = a.layouts.now in
    let v = version_of y.version in
    let t0 = tree_of y.nodes.items in
    let l = at y a.node in
    let m = item_of l in
    let bs = a.content.now in
    let ch = item_child t0 v a.node c.requires.node (map_holder l c.requires.map) in
    let k = c.loop-left in
    let p = k.invariant.pair in
    let pn = pair_nodes t0 v a.node m p ch in
    let key = key_value k.before in
    let pos : 1 ≤ k.left = omega (arith, c.loop-left-test.true) in
    let h = each_here bs AMap m a.start a.n a.from key k.left k.bit k.reach pos k.invariant.left in
    subst (λ (z : Layout). IsKey z) (sym pn.key.is) p.keyed

pub check_map_items-check_key-requires-clause-here : goal.check_map_items-check_key-requires-clause-here
check_map_items-check_key-requires-clause-here t c =
    let a = c.args in
    let y = a.layouts.now in
    let v = version_of y.version in
    let t0 = tree_of y.nodes.items in
    let l = at y a.node in
    let m = item_of l in
    let bs = a.content.now in
    let ch = item_child t0 v a.node c.requires.node (map_holder l c.requires.map) in
    let k = c.loop-left in
    let p = k.invariant.pair in
    let pn = pair_nodes t0 v a.node m p ch in
    let key = key_value k.before in
    let pos : 1 ≤ k.left = omega (arith, c.loop-left-test.true) in
    let h = each_here bs AMap m a.start a.n a.from key k.left k.bit k.reach pos k.invariant.left in
    subst (λ (z : Layout). IsHere bs z a.start k.bit k.reach) (sym pn.key.is)
    (key_here bs m p a.start k.bit k.reach h)

pub check_map_items-check_key-requires-clause-before : goal.check_map_items-check_key-requires-clause-before
check_map_items-check_key-requires-clause-before t c =
    let a = c.args in
    let y = a.layouts.now in
    let v = version_of y.version in
    let t0 = tree_of y.nodes.items in
    let l = at y a.node in
    let m = item_of l in
    let bs = a.content.now in
    let ch = item_child t0 v a.node c.requires.node (map_holder l c.requires.map) in
    let k = c.loop-left in
    let p = k.invariant.pair in
    let pn = pair_nodes t0 v a.node m p ch in
    let key = key_value k.before in
    let pos : 1 ≤ k.left = omega (arith, c.loop-left-test.true) in
    let h = each_here bs AMap m a.start a.n a.from key k.left k.bit k.reach pos k.invariant.left in
    subst (λ (z : Layout). IsOfKind z k.before) (sym pn.key.is) k.invariant.kind

pub check_map_items-returns-in-Err : goal.check_map_items-returns-in-Err
check_map_items-returns-in-Err t c =
    let a = c.args in
    let y = a.layouts.now in
    let v = version_of y.version in
    let t0 = tree_of y.nodes.items in
    let l = at y a.node in
    let m = item_of l in
    let bs = a.content.now in
    let ch = item_child t0 v a.node c.requires.node (map_holder l c.requires.map) in
    let k = c.loop-left in
    let p = k.invariant.pair in
    let pn = pair_nodes t0 v a.node m p ch in
    let key = key_value k.before in
    let pos : 1 ≤ k.left = omega (arith, c.loop-left-test.true) in
    let h = each_here bs AMap m a.start a.n a.from key k.left k.bit k.reach pos k.invariant.left in
    let s = subst (λ (z : Layout). Agrees bs (walk bs z a.start key k.bit k.reach.next k.reach.cells) k.reach
    (Err c.in-Err.fault)) pn.key.is c.in-Err.ensures.agrees in
    each_err bs AMap m a.start a.n a.from key k.left k.bit k.reach c.in-Err.fault k.invariant.left pos
    (pair_key_err bs m p a.start key k.bit k.reach c.in-Err.fault s)

pub check_map_items-check_part-requires : goal.check_map_items-check_part-requires
check_map_items-check_part-requires t c =
    let a = c.args in
    let y = a.layouts.now in
    let v = version_of y.version in
    let t0 = tree_of y.nodes.items in
    let l = at y a.node in
    let m = item_of l in
    let bs = a.content.now in
    let ch = item_child t0 v a.node c.requires.node (map_holder l c.requires.map) in
    let k = c.loop-left in
    let p = k.invariant.pair in
    let pn = pair_nodes t0 v a.node m p ch in
    let key = key_value k.before in
    let pos : 1 ≤ k.left = omega (arith, c.loop-left-test.true) in
    let h = each_here bs AMap m a.start a.n a.from key k.left k.bit k.reach pos k.invariant.left in
    let mid = c.in-Ok.after in
    let eb : k.bit + c.bits-key_bits.result ≡ k.bit
    + stride p.key = ap (λ z. k.bit + z) (c.bits-key_bits.ensures.bits ∙ ap stride pn.key.is) in
    let s = subst (λ (z : Layout). Agrees bs (walk bs z a.start key k.bit k.reach.next k.reach.cells) k.reach
    (Ok mid)) pn.key.is c.in-Ok.ensures.agrees in
    let val = subst (λ (z : Layout). (x : Value × ℕ × ℕ)
    → walk bs z a.start key k.bit k.reach.next k.reach.cells ≡ Ok x → x.0 ≡ value_of c.in-Ok.key)
    pn.key.is c.in-Ok.ensures.value in
    let w = walks (walk bs p.key a.start key k.bit k.reach.next k.reach.cells) mid.next mid.cells
    (sym s.same) in
    let u = pn.value c.past-value.result (c.past-value.ensures.part pn.key.node
    ∙ ap (λ (z : Layout). a.node + 4 + nodes z) pn.key.is) in
    let bit2 = k.bit + c.bits-key_bits.result in (
      omega (arith, c.decreases, item_nodes l (map_holder l c.requires.map), value_nodes m p, ap nodes u.is),
      (
        u.node,
        (
          c.requires.facts,
          subst (λ (z : Layout). IsHere bs z a.start bit2 mid) (sym u.is)
              (value_here bs m p a.start k.bit bit2 k.reach mid h s.ahead eb),
        ),
      ),
    )

pub check_map_items-returns-in-Err-check_part : goal.check_map_items-returns-in-Err-check_part
check_map_items-returns-in-Err-check_part t c =
    let a = c.args in
    let y = a.layouts.now in
    let v = version_of y.version in
    let t0 = tree_of y.nodes.items in
    let l = at y a.node in
    let m = item_of l in
    let bs = a.content.now in
    let ch = item_child t0 v a.node c.requires.node (map_holder l c.requires.map) in
    let k = c.loop-left in
    let p = k.invariant.pair in
    let pn = pair_nodes t0 v a.node m p ch in
    let key = key_value k.before in
    let pos : 1 ≤ k.left = omega (arith, c.loop-left-test.true) in
    let h = each_here bs AMap m a.start a.n a.from key k.left k.bit k.reach pos k.invariant.left in
    let mid = c.in-Ok.after in
    let eb : k.bit + c.bits-key_bits.result ≡ k.bit
    + stride p.key = ap (λ z. k.bit + z) (c.bits-key_bits.ensures.bits ∙ ap stride pn.key.is) in
    let s = subst (λ (z : Layout). Agrees bs (walk bs z a.start key k.bit k.reach.next k.reach.cells) k.reach
    (Ok mid)) pn.key.is c.in-Ok.ensures.agrees in
    let val = subst (λ (z : Layout). (x : Value × ℕ × ℕ)
    → walk bs z a.start key k.bit k.reach.next k.reach.cells ≡ Ok x → x.0 ≡ value_of c.in-Ok.key)
    pn.key.is c.in-Ok.ensures.value in
    let w = walks (walk bs p.key a.start key k.bit k.reach.next k.reach.cells) mid.next mid.cells
    (sym s.same) in
    let u = pn.value c.past-value.result (c.past-value.ensures.part pn.key.node
    ∙ ap (λ (z : Layout). a.node + 4 + nodes z) pn.key.is) in
    let bit2 = k.bit + c.bits-key_bits.result in
    let r = subst (λ (z : Layout). Agrees bs (walk bs z a.start None bit2 mid.next mid.cells) mid
    (Err c.in-Err-check_part.fault)) u.is c.in-Err-check_part.ensures in
    each_err bs AMap m a.start a.n a.from key k.left k.bit k.reach c.in-Err-check_part.fault k.invariant.left
    pos (pair_value_err bs m p a.start key k.bit bit2 k.reach mid c.in-Err-check_part.fault w eb r)

pub check_map_items-loop-left-preserved : goal.check_map_items-loop-left-preserved
check_map_items-loop-left-preserved t c =
    let a = c.args in
    let y = a.layouts.now in
    let v = version_of y.version in
    let t0 = tree_of y.nodes.items in
    let l = at y a.node in
    let m = item_of l in
    let bs = a.content.now in
    let ch = item_child t0 v a.node c.requires.node (map_holder l c.requires.map) in
    let k = c.loop-left in
    let p = k.invariant.pair in
    let pn = pair_nodes t0 v a.node m p ch in
    let key = key_value k.before in
    let pos : 1 ≤ k.left = omega (arith, c.loop-left-test.true) in
    let h = each_here bs AMap m a.start a.n a.from key k.left k.bit k.reach pos k.invariant.left in
    let mid = c.in-Ok.after in
    let eb : k.bit + c.bits-key_bits.result ≡ k.bit
    + stride p.key = ap (λ z. k.bit + z) (c.bits-key_bits.ensures.bits ∙ ap stride pn.key.is) in
    let s = subst (λ (z : Layout). Agrees bs (walk bs z a.start key k.bit k.reach.next k.reach.cells) k.reach
    (Ok mid)) pn.key.is c.in-Ok.ensures.agrees in
    let val = subst (λ (z : Layout). (x : Value × ℕ × ℕ)
    → walk bs z a.start key k.bit k.reach.next k.reach.cells ≡ Ok x → x.0 ≡ value_of c.in-Ok.key)
    pn.key.is c.in-Ok.ensures.value in
    let w = walks (walk bs p.key a.start key k.bit k.reach.next k.reach.cells) mid.next mid.cells
    (sym s.same) in
    let u = pn.value c.past-value.result (c.past-value.ensures.part pn.key.node
    ∙ ap (λ (z : Layout). a.node + 4 + nodes z) pn.key.is) in
    let bit2 = k.bit + c.bits-key_bits.result in
    let after = c.in-Ok-check_part.end in
    let r = subst (λ (z : Layout). Agrees bs (walk bs z a.start None bit2 mid.next mid.cells) mid (Ok after))
    u.is c.in-Ok-check_part.ensures in
    let wu = walks (walk bs p.value a.start None bit2 mid.next mid.cells) after.next after.cells
    (sym r.same) in
    let ok = pair_ok bs m p a.start key k.bit bit2 k.reach mid after (value_of c.in-Ok.key) w (val w.is w.ok)
    eb wu in
    let ahead : IsAhead bs k.reach (Ok after) = (omega (arith, s.ahead.0, r.ahead.0), r.ahead.1, r.ahead.2) in
    let sm : Agrees bs (walk bs m a.start key k.bit k.reach.next k.reach.cells) k.reach (Ok after) = record {
      same = agrees_ok (walk bs m a.start key k.bit k.reach.next k.reach.cells) after ok.walked;
      ahead = ahead;
    } in
    let e = each_ok bs AMap m a.start a.n a.from key k.left k.bit k.reach after (k.left - 1)
    (k.bit + c.stride-stride.result) k.invariant.left (omega (arith, c.loop-left-test.true)) sm ok.walked
    (ap (λ z. k.bit + z) (c.stride-stride.ensures.stride
    ∙ sym (item_is l (map_holder l c.requires.map)))) in
    record {
      pair = p;
      left = subst (λ q. EachLeft bs AMap m a.start a.n a.from q (k.left - 1) (k.bit + c.stride-stride.result)
          after) (ap (λ q. Some q) ok.first) e;
      kind = subst (λ (z : Layout). IsOfKind z (Some c.in-Ok.key)) pn.key.is c.in-Ok.ensures.kind;
    }

pub check_map_items-returns : goal.check_map_items-returns
check_map_items-returns t c =
    let a = c.args in
    let k = c.loop-left in
    each_done a.content.now AMap (item_of (at a.layouts.now a.node)) a.start a.n a.from (key_value k.before)
    k.left k.bit k.reach k.invariant.left (omega (arith, c.loop-left-test.false))

pub check_fields-past-end-requires : goal.check_fields-past-end-requires
check_fields-past-end-requires t c = number_of_part (tree_of c.args.layouts.now.nodes.items) c.args.node
    c.requires.node

pub check_part-returns-then-is_sure_at : goal.check_part-returns-then-is_sure_at
check_part-returns-then-is_sure_at t c =
    let a = c.args in
    let h = c.requires.here in
    let s = c.is_sure_at.ensures c.if-is_sure_at.true in
    record {
      same = sym (sure_passes a.content.now (at a.layouts.now a.node) s a.start a.bit a.reach.next
          a.reach.cells);
      ahead = (omega arith, h.within, h.few);
    }
