use Rattle.std.proofs.Common.{◌≡◌, ◌+◌, ◌<◌, ◌^◌, [], ◌∷◌, pos, length, arith, ap, sym, ◌∙◌, subst, refl}
use Rattle.std.proofs.Common.{w64}
use Rattle.std.proofs.lemmas.Int.{to_z_pos}
use Rattle.frozen_model.specs.Trees.{nodes}
use Rattle.frozen_model.specs.Values.{Value, count, nth, Of}
use Rattle.frozen_model.specs.Layouts.{Layout}
use Rattle.layout_tree.specs.Nodes.{at}
use Rattle.layout_tree.specs.Reading.{item_of}
use Rattle.layout_tree.specs.Listing.{sub, tree_of, version_of}
use Rattle.layout_tree.proofs.Numbers.{number_of_part}
use Rattle.layout_tree.proofs.Children.{item_child, inner_child, node_small}
use Rattle.typed_tree.specs.Heights.{height}
use Rattle.typed_tree.specs.References.{value_of_ref}
use Rattle.typed_tree.specs.Parts.{items_of, fields_of}
use Rattle.typed_tree.specs.Spots.{pair}
use Rattle.typed_tree.proofs.Forms.{height_nth, height_items, height_fields, items_form, items_kind, row_is}
use Rattle.typed_tree.proofs.Forms.{map_is}
use Rattle.value_bounds.specs.Seeing.{Saw, seen_from}
use Rattle.layout_tree.proofs.Left.{items_start, items_here, items_next, items_end, fields_more, fields_here}
use Rattle.layout_tree.proofs.Left.{fields_next, fields_end, fields_over}
use Rattle.value_bounds.proofs.Left.{items_unseen, item_seen, items_seen, fields_unseen, field_seen}
use Rattle.value_bounds.proofs.Left.{fields_seen}
use Rattle.value_bounds.proofs.Forms.{bytes_at, items_at, items_held, present_at}
use Rattle.value_bounds.proofs.Arms.{room_for, bytes_room, bytes_saw, items_room, items_saw}
use Rattle.value_bounds.proofs.Arms.{absent_saw, present_room, present_saw}
use Rattle.value_bounds.proofs.walk.+walk.Goals as goal

pub see_fields-loop-child-init : goal.see_fields-loop-child-init
see_fields-loop-child-init t c =
    let l = c.args.layouts.now in
    let n = c.args.node in
    fields_unseen (tree_of l.nodes.items) (version_of l.version) n (n + 1) c.past-end.result
    (value_of_ref c.args.v) c.args.bounds.now c.requires.record c.requires.node c.requires.form
    (c.past-end.ensures.part c.requires.node) refl

pub see_fields-field_at-requires : goal.see_fields-field_at-requires
see_fields-field_at-requires t c = (fields_here c.loop-child.invariant c.loop-child-test.true).some

pub see_fields-see_part-requires : goal.see_fields-see_part-requires
see_fields-see_part-requires t c =
    let l = c.args.layouts.now in
    let k = c.loop-child in
    let u = value_of_ref c.args.v in
    let h = fields_here k.invariant c.loop-child-test.true in (
      omega (
        arith,
        c.decreases,
        height_fields u c.requires.record,
        height_nth (fields_of u) k.i,
        ap height
            c.field_at.ensures.value,
      ),
      (h.node, (subst (Of (at l k.child)) (sym c.field_at.ensures.value) h.form, k.auto.bounds ∙ c.requires.room)),
    )

pub see_fields-past-end-requires : goal.see_fields-past-end-requires
see_fields-past-end-requires t c = number_of_part (tree_of c.args.layouts.now.nodes.items) c.args.node
    c.requires.node

pub see_fields-past-child-requires : goal.see_fields-past-child-requires
see_fields-past-child-requires t c =
    number_of_part (tree_of c.args.layouts.now.nodes.items) c.loop-child.child
    (fields_here c.loop-child.invariant c.loop-child-test.true).node

pub see_fields-overflow_add-i : goal.see_fields-overflow_add-i
see_fields-overflow_add-i t c =
    let f : c.loop-child.child < c.past-end.result = c.loop-child-test.true in
    omega (arith, c.loop-child.invariant.holds.passed, f, c.past-end.type_inv)

pub see_fields-loop-child-preserved : goal.see_fields-loop-child-preserved
see_fields-loop-child-preserved t c =
    let l = c.args.layouts.now in
    let k = c.loop-child in
    let lt = c.loop-child-test.true in
    let h = fields_here k.invariant lt in
    let e = c.past-child.ensures.part h.node in
    let w = subst (λ (y : Value). Saw (at l k.child) y k.bounds c.see_part.new.bounds k.child)
    c.field_at.ensures.value c.see_part.ensures in
    fields_next c.past-child.result k.invariant lt e (λ id ms vs o os r. field_seen o e w r)

pub see_fields-returns : goal.see_fields-returns
see_fields-returns t c = fields_seen (fields_end c.loop-child.invariant c.loop-child-test.false)

pub see_items-loop-i-init : goal.see_items-loop-i-init
see_items-loop-i-init t c =
    let m = item_of (at c.args.layouts.now c.args.node) in
    items_start c.requires.form (items_unseen m (items_of (value_of_ref c.args.v)) c.args.bounds.now
    (c.args.node + 3))

pub see_items-overflow_add-node : goal.see_items-overflow_add-node
see_items-overflow_add-node t c =
    let l = c.args.layouts.now in
    omega (
      arith,
      node_small l.version l.nodes.items (sub (tree_of l.nodes.items) c.args.node) c.args.node
          l.listing l.sound c.requires.node,
    )

pub see_items-see_part-requires : goal.see_items-see_part-requires
see_items-see_part-requires t c =
    let l = c.args.layouts.now in
    let n = c.args.node in
    let m = item_of (at l n) in
    let all = items_of (value_of_ref c.args.v) in
    let k = c.loop-i in
    let u = value_of_ref c.item.result in
    let ch = item_child (tree_of l.nodes.items) (version_of l.version) n c.requires.node c.requires.holder in
    let lt : k.i < count all = omega (arith, c.len-n.ensures) in
    let h = items_here k.invariant lt in
    let e : u ≡ nth all k.i = c.item.ensures.value in (
      omega (
        arith,
        c.decreases,
        height_items (value_of_ref c.args.v)
            (row_is (value_of_ref c.args.v) c.requires.row),
        height_nth all k.i,
        ap height e,
      ),
      (
        ch.node,
        (
          subst (λ (z : Layout). Of z u) (sym ch.is) (subst (Of m) (sym e) h.form),
          k.auto.bounds
              ∙ c.requires.room,
        ),
      ),
    )

pub see_items-loop-i-preserved : goal.see_items-loop-i-preserved
see_items-loop-i-preserved t c =
    let l = c.args.layouts.now in
    let n = c.args.node in
    let m = item_of (at l n) in
    let all = items_of (value_of_ref c.args.v) in
    let k = c.loop-i in
    let u = value_of_ref c.item.result in
    let mid = c.see_part.new.bounds in
    let ch = item_child (tree_of l.nodes.items) (version_of l.version) n c.requires.node c.requires.holder in
    let lt : k.i < count all = omega (arith, c.len-n.ensures) in
    let e : u ≡ nth all k.i = c.item.ensures.value in
    let w = subst (λ (y : Value). Saw m y k.bounds mid (n + 3)) e
    (subst (λ (z : Layout). Saw z u k.bounds mid (n + 3)) ch.is c.see_part.ensures) in
    items_next k.invariant lt (λ vs o os r. item_seen o os w r)

pub see_items-returns : goal.see_items-returns
see_items-returns t c =
    let e : c.loop-i.i ≡ count (items_of (value_of_ref c.args.v)) = omega (arith, c.len-n.ensures) in
    items_seen (items_end c.loop-i.invariant e)

pub see_pairs-loop-i-init : goal.see_pairs-loop-i-init
see_pairs-loop-i-init t c =
    let m = item_of (at c.args.layouts.now c.args.node) in
    items_start c.requires.form (items_unseen m (items_of (value_of_ref c.args.v)) c.args.bounds.now
    (c.args.node + 3))

pub see_pairs-overflow_add-node : goal.see_pairs-overflow_add-node
see_pairs-overflow_add-node t c =
    let l = c.args.layouts.now in
    omega (
      arith,
      node_small l.version l.nodes.items (sub (tree_of l.nodes.items) c.args.node) c.args.node
          l.listing l.sound c.requires.node,
    )

pub see_pairs-see_pair-requires : goal.see_pairs-see_pair-requires
see_pairs-see_pair-requires t c =
    let l = c.args.layouts.now in
    let n = c.args.node in
    let m = item_of (at l n) in
    let all = items_of (value_of_ref c.args.v) in
    let k = c.loop-i in
    let u = pair (value_of_ref c.entry.result.0) (value_of_ref c.entry.result.1) in
    let ch = item_child (tree_of l.nodes.items) (version_of l.version) n c.requires.node c.requires.holder in
    let lt : k.i < count all = omega (arith, c.len-n.ensures) in
    let h = items_here k.invariant lt in
    let e : u ≡ nth all k.i = sym c.entry.ensures.pair in (
      omega (
        arith,
        c.decreases,
        height_items (value_of_ref c.args.v)
            (map_is (value_of_ref c.args.v) c.requires.map),
        height_nth all k.i,
        ap height e,
      ),
      (
        ch.node,
        (
          subst (λ (z : Layout). Of z u) (sym ch.is) (subst (Of m) (sym e) h.form),
          k.auto.bounds
              ∙ c.requires.room,
        ),
      ),
    )

pub see_pairs-loop-i-preserved : goal.see_pairs-loop-i-preserved
see_pairs-loop-i-preserved t c =
    let l = c.args.layouts.now in
    let n = c.args.node in
    let m = item_of (at l n) in
    let all = items_of (value_of_ref c.args.v) in
    let k = c.loop-i in
    let u = pair (value_of_ref c.entry.result.0) (value_of_ref c.entry.result.1) in
    let mid = c.see_pair.new.bounds in
    let ch = item_child (tree_of l.nodes.items) (version_of l.version) n c.requires.node c.requires.holder in
    let lt : k.i < count all = omega (arith, c.len-n.ensures) in
    let e : u ≡ nth all k.i = sym c.entry.ensures.pair in
    let w = subst (λ (y : Value). Saw m y k.bounds mid (n + 3)) e
    (subst (λ (z : Layout). Saw z u k.bounds mid (n + 3)) ch.is c.see_pair.ensures) in
    items_next k.invariant lt (λ vs o os r. item_seen o os w r)

pub see_pairs-returns : goal.see_pairs-returns
see_pairs-returns t c =
    let e : c.loop-i.i ≡ count (items_of (value_of_ref c.args.v)) = omega (arith, c.len-n.ensures) in
    items_seen (items_end c.loop-i.invariant e)

pub see_pair-overflow_add-first : goal.see_pair-overflow_add-first
see_pair-overflow_add-first t c =
    let l = c.args.layouts.now in
    omega (
      arith,
      node_small l.version l.nodes.items (sub (tree_of l.nodes.items) c.args.node) c.args.node
          l.listing l.sound c.requires.node,
    )

pub see_pair-past-second-requires : goal.see_pair-past-second-requires
see_pair-past-second-requires t c =
    let l = c.args.layouts.now in
    let tree = tree_of l.nodes.items in
    let n = c.args.node in
    let u = pair (value_of_ref c.args.key) (value_of_ref c.args.value) in
    let start = fields_unseen tree (version_of l.version) n (n + 1) (n + nodes (at l n)) u c.args.bounds.now
    tt c.requires.node c.requires.form refl refl in
    let some = fields_more start (omega arith) in
    let one = fields_here start some in
    number_of_part tree (n + 1) one.node

pub see_pair-see_part-requires : goal.see_pair-see_part-requires
see_pair-see_part-requires t c =
    let l = c.args.layouts.now in
    let tree = tree_of l.nodes.items in
    let n = c.args.node in
    let u = pair (value_of_ref c.args.key) (value_of_ref c.args.value) in
    let start = fields_unseen tree (version_of l.version) n (n + 1) (n + nodes (at l n)) u c.args.bounds.now
    tt c.requires.node c.requires.form refl refl in
    let some = fields_more start (omega arith) in
    let one = fields_here start some in
    (omega (arith, c.decreases), (one.node, (one.form, c.requires.room)))

pub see_pair-see_part-requires-2 : goal.see_pair-see_part-requires-2
see_pair-see_part-requires-2 t c =
    let l = c.args.layouts.now in
    let tree = tree_of l.nodes.items in
    let n = c.args.node in
    let u = pair (value_of_ref c.args.key) (value_of_ref c.args.value) in
    let start = fields_unseen tree (version_of l.version) n (n + 1) (n + nodes (at l n)) u c.args.bounds.now
    tt c.requires.node c.requires.form refl refl in
    let some = fields_more start (omega arith) in
    let one = fields_here start some in
    let second = c.past-second.result in
    let e = c.past-second.ensures.part one.node in
    let later = fields_next second start some e (λ id ms vs o os r. field_seen o e c.see_part.ensures r) in
    let more = fields_more later (omega arith) in
    let two = fields_here later more in
    (omega (arith, c.decreases), (two.node, (two.form, c.see_part.auto.bounds ∙ c.requires.room)))

pub see_pair-returns : goal.see_pair-returns
see_pair-returns t c =
    let l = c.args.layouts.now in
    let tree = tree_of l.nodes.items in
    let n = c.args.node in
    let u = pair (value_of_ref c.args.key) (value_of_ref c.args.value) in
    let start = fields_unseen tree (version_of l.version) n (n + 1) (n + nodes (at l n)) u c.args.bounds.now
    tt c.requires.node c.requires.form refl refl in
    let some = fields_more start (omega arith) in
    let one = fields_here start some in
    let second = c.past-second.result in
    let e = c.past-second.ensures.part one.node in
    let later = fields_next second start some e (λ id ms vs o os r. field_seen o e c.see_part.ensures r) in
    let more = fields_more later (omega arith) in
    let two = fields_here later more in
    let last = fields_next (second + nodes (at l second)) later more refl
    (λ id ms vs o os r. field_seen o refl c.see_part-2.ensures r) in
    fields_seen (fields_over last refl)

pub see_fields-loop-child-smaller : goal.see_fields-loop-child-smaller
see_fields-loop-child-smaller t c =
    let h = fields_here c.loop-child.invariant c.loop-child-test.true in
    omega (arith, c.past-child.ensures.part h.node, h.past, h.grows)

pub see_part-see-requires : goal.see_part-see-requires
see_part-see-requires t c =
    let l = c.args.layouts.now in
    omega (arith, c.requires.room, number_of_part (tree_of l.nodes.items) c.args.node c.requires.node)

pub see_part-see-requires-in-Int : goal.see_part-see-requires-in-Int
see_part-see-requires-in-Int t c =
    let l = c.args.layouts.now in
    omega (arith, c.requires.room, number_of_part (tree_of l.nodes.items) c.args.node c.requires.node)

pub see_part-overflow_add-node : goal.see_part-overflow_add-node
see_part-overflow_add-node t c =
    let l = c.args.layouts.now in
    omega (
      arith,
      node_small l.version l.nodes.items (sub (tree_of l.nodes.items) c.args.node) c.args.node
          l.listing l.sound c.requires.node,
    )

pub see_part-see-requires-in-Text : goal.see_part-see-requires-in-Text
see_part-see-requires-in-Text t c =
    let l = c.args.layouts.now in
    let k = bytes_at (at l c.args.node) (value_of_ref c.args.v) c.bytes.result.now c.bytes.ensures c.requires.form in
    let r = bytes_room (at l c.args.node) c.bytes.result.now k in
    omega (
      arith,
      c.requires.room,
      room_for (version_of l.version) (tree_of l.nodes.items) c.args.node 3
          c.requires.node (omega (arith, r)),
    )

pub see_part-overflow_add-node-in-List : goal.see_part-overflow_add-node-in-List
see_part-overflow_add-node-in-List t c =
    let l = c.args.layouts.now in
    omega (
      arith,
      node_small l.version l.nodes.items (sub (tree_of l.nodes.items) c.args.node) c.args.node
          l.listing l.sound c.requires.node,
    )

pub see_part-see-requires-in-List : goal.see_part-see-requires-in-List
see_part-see-requires-in-List t c =
    let l = c.args.layouts.now in
    let u = value_of_ref c.args.v in
    let k = items_at (at l c.args.node) u (items_of u)
    (items_form u (items_kind c.kind-kind.result u c.kind-kind.ensures.form c.in-List.is))
    c.requires.form in
    omega (
      arith,
      c.requires.room,
      room_for (version_of l.version) (tree_of l.nodes.items) c.args.node 4
          c.requires.node (items_room (at l c.args.node) (items_of u) k),
    )

pub see_part-overflow_add-node-in-Present : goal.see_part-overflow_add-node-in-Present
see_part-overflow_add-node-in-Present t c =
    let l = c.args.layouts.now in
    omega (
      arith,
      node_small l.version l.nodes.items (sub (tree_of l.nodes.items) c.args.node) c.args.node
          l.listing l.sound c.requires.node,
    )

pub see_part-overflow_add-node-in-Present-2 : goal.see_part-overflow_add-node-in-Present-2
see_part-overflow_add-node-in-Present-2 t c =
    let l = c.args.layouts.now in
    omega (
      arith,
      node_small l.version l.nodes.items (sub (tree_of l.nodes.items) c.args.node) c.args.node
          l.listing l.sound c.requires.node,
    )

pub see_part-see-requires-in-Present : goal.see_part-see-requires-in-Present
see_part-see-requires-in-Present t c =
    let l = c.args.layouts.now in
    let r = present_room (at l c.args.node) (value_of_ref c.args.v) c.requires.form
    c.in-Present.ensures.form in
    omega (
      arith,
      c.requires.room,
      room_for (version_of l.version) (tree_of l.nodes.items) c.args.node 3
          c.requires.node r,
    )

pub see_part-see_part-requires : goal.see_part-see_part-requires
see_part-see_part-requires t c =
    let l = c.args.layouts.now in
    let u = value_of_ref c.args.v in
    let x = value_of_ref c.inner.result in
    let e = c.inner.ensures.value in
    let p = present_at (at l c.args.node) u x e c.requires.form in
    let ch = inner_child (tree_of l.nodes.items) (version_of l.version) c.args.node p.width p.inner
    c.requires.node p.is in (
      omega (arith, c.decreases, ap height e),
      (
        ch.node,
        (
          subst (λ (z : Layout). Of z x) (sym ch.is) p.form,
          c.see-in-Present.auto.bounds
              ∙ c.requires.room,
        ),
      ),
    )

pub see_part-returns-in-Text : goal.see_part-returns-in-Text
see_part-returns-in-Text t c =
    let a = at c.args.layouts.now c.args.node in
    let u = value_of_ref c.args.v in
    let bs = c.bytes.result.now in
    let k = bytes_at a u bs c.bytes.ensures c.requires.form in
    let small : length bs < 2 ^ 63 = omega (arith, k.few) in
    bytes_saw a u bs c.args.bounds.now c.see-in-Text.new.bounds c.args.node k c.bytes.ensures
    (c.see-in-Text.ensures ∙ ap (λ z. seen_from c.args.bounds.now (c.args.node + 2) ((z ∷ []) ∷ []))
    (to_z_pos w64 (length bs) small))

pub see_part-returns-in-Map : goal.see_part-returns-in-Map
see_part-returns-in-Map t c =
    let a = at c.args.layouts.now c.args.node in
    let u = value_of_ref c.args.v in
    let vs = items_of u in
    let all = items_form u (items_kind c.kind-kind.result u c.kind-kind.ensures.form c.in-List.is) in
    let k = items_at a u vs all c.requires.form in
    let small : c.len.result < 2 ^ 63 = omega (arith, k.few, c.len.ensures) in
    let mid = c.see-in-List.ensures
    ∙ ap (λ z. seen_from c.args.bounds.now (c.args.node + 2) ((z ∷ []) ∷ []))
    (to_z_pos w64 c.len.result small ∙ ap pos c.len.ensures) in
    items_saw a u vs c.args.bounds.now c.see-in-List.new.bounds c.see_pairs.new.bounds c.args.node all
    (items_held a vs k).0 mid c.see_pairs.ensures

pub see_part-returns-in_default : goal.see_part-returns-in_default
see_part-returns-in_default t c =
    let a = at c.args.layouts.now c.args.node in
    let u = value_of_ref c.args.v in
    let vs = items_of u in
    let all = items_form u (items_kind c.kind-kind.result u c.kind-kind.ensures.form c.in-List.is) in
    let k = items_at a u vs all c.requires.form in
    let small : c.len.result < 2 ^ 63 = omega (arith, k.few, c.len.ensures) in
    let mid = c.see-in-List.ensures
    ∙ ap (λ z. seen_from c.args.bounds.now (c.args.node + 2) ((z ∷ []) ∷ []))
    (to_z_pos w64 c.len.result small ∙ ap pos c.len.ensures) in
    items_saw a u vs c.args.bounds.now c.see-in-List.new.bounds c.see_items.new.bounds c.args.node all
    (items_held a vs k).0 mid c.see_items.ensures

pub see_part-returns-in-Absent : goal.see_part-returns-in-Absent
see_part-returns-in-Absent t c = absent_saw (at c.args.layouts.now c.args.node) (value_of_ref c.args.v)
    c.args.bounds.now c.args.node c.requires.form c.in-Absent.ensures.form

pub see_part-returns-in-Present : goal.see_part-returns-in-Present
see_part-returns-in-Present t c =
    let l = c.args.layouts.now in
    let u = value_of_ref c.args.v in
    let x = value_of_ref c.inner.result in
    let e = c.inner.ensures.value in
    let p = present_at (at l c.args.node) u x e c.requires.form in
    let ch = inner_child (tree_of l.nodes.items) (version_of l.version) c.args.node p.width p.inner
    c.requires.node p.is in
    let new = c.see_part.new.bounds in
    let mid = c.see-in-Present.new.bounds in
    present_saw (at l c.args.node) u x p c.args.bounds.now mid new c.args.node e c.see-in-Present.ensures
    (subst (λ (z : Layout). Saw z x mid new (c.args.node + 2)) ch.is c.see_part.ensures)
