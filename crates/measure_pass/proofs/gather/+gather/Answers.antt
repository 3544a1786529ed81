use Rattle.std.proofs.Common.{◌≡◌, ◌+◌, ◌<◌, length, arith, ap, sym, subst, refl}
use Rattle.std.proofs.lemmas.Result.{IfOk-weaker}
use Rattle.frozen_model.specs.Trees.{nodes}
use Rattle.frozen_model.specs.Values.{Value, count, nth, Of}
use Rattle.frozen_model.specs.Layouts.{Layout}
use Rattle.layout_tree.specs.Nodes.{at, noted_in}
use Rattle.layout_tree.specs.Reading.{item_of, IsLeaf}
use Rattle.layout_tree.specs.Listing.{sub, tree_of, version_of}
use Rattle.layout_tree.proofs.Numbers.{number_of_part}
use Rattle.layout_tree.proofs.Children.{item_child, inner_child, node_small}
use Rattle.typed_tree.specs.Heights.{height}
use Rattle.typed_tree.specs.References.{value_of_ref}
use Rattle.typed_tree.specs.Parts.{items_of, fields_of}
use Rattle.typed_tree.specs.Spots.{pair}
use Rattle.typed_tree.proofs.Forms.{height_fields, height_items, height_nth, items_form, items_kind, map_is}
use Rattle.typed_tree.proofs.Forms.{map_kind, row_is, row_kind}
use Rattle.measure_pass.specs.Spots.{Gathers, EachGathers}
use Rattle.layout_tree.proofs.Left.{items_start, items_here, items_next, items_end, fields_more, fields_here}
use Rattle.layout_tree.proofs.Left.{fields_next, fields_end, fields_over}
use Rattle.measure_pass.proofs.Gathered.{item_gathered, items_gathered, fields_ungathered, field_gathered}
use Rattle.value_bounds.proofs.Forms.{items_at, items_held, present_at}
use Rattle.measure_pass.proofs.Gathered.{fields_gathered, leaves_gathered}
use Rattle.measure_pass.proofs.Gathered.{alone_gathered, alone_kind, bytes_gathered, range_gathered}
use Rattle.measure_pass.proofs.Gathered.{present_gathered}
use Rattle.measure_pass.proofs.gather.+gather.Goals as goal

-- ---- fields

pub gather_fields-past-end-requires : goal.gather_fields-past-end-requires
gather_fields-past-end-requires t c = number_of_part (noted_in c.args.layouts.now) c.args.node c.requires.node

pub gather_fields-loop-child-init : goal.gather_fields-loop-child-init
gather_fields-loop-child-init t c =
    let l = c.args.layouts.now in
    let n = c.args.node in
    fields_ungathered (noted_in l) (version_of l.version) n (n + 1) c.past-end.result c.args.parent
    (value_of_ref c.args.v) c.args.spots.now.items c.requires.record c.requires.node c.requires.form
    (c.past-end.ensures.part c.requires.node) refl

pub gather_fields-field_at-requires : goal.gather_fields-field_at-requires
gather_fields-field_at-requires t c = (fields_here c.loop-child.invariant c.loop-child-test.true).some

pub gather_fields-gather_part-requires : goal.gather_fields-gather_part-requires
gather_fields-gather_part-requires t c =
    let k = c.loop-child in
    let u = value_of_ref c.args.v in
    let h = fields_here k.invariant c.loop-child-test.true in (
      omega (
        arith,
        c.decreases,
        height_fields u c.requires.record,
        height_nth (fields_of u) k.i,
        ap height
            c.field_at.ensures.value,
      ),
      (h.node, subst (Of (at c.args.layouts.now k.child)) (sym c.field_at.ensures.value) h.form),
    )

pub gather_fields-past-child-requires : goal.gather_fields-past-child-requires
gather_fields-past-child-requires t c =
    number_of_part (noted_in c.args.layouts.now) c.loop-child.child
    (fields_here c.loop-child.invariant c.loop-child-test.true).node

pub gather_fields-loop-child-preserved : goal.gather_fields-loop-child-preserved
gather_fields-loop-child-preserved t c =
    let k = c.loop-child in
    let lt = c.loop-child-test.true in
    let e = c.past-child.ensures.part (fields_here k.invariant lt).node in
    let g = subst (λ (y : Value). Gathers (at c.args.layouts.now k.child) y k.child c.args.parent
    k.spots.items c.gather_part.new.spots.items) c.field_at.ensures.value c.in_ok-gather_part.ensures in
    fields_next c.past-child.result k.invariant lt e (λ id ms vs o os r. field_gathered e g r)

pub gather_fields-overflow_add-i : goal.gather_fields-overflow_add-i
gather_fields-overflow_add-i t c =
    let f : c.loop-child.child < c.past-end.result = c.loop-child-test.true in
    omega (arith, c.loop-child.invariant.holds.passed, f, c.past-end.type_inv)

pub gather_fields-loop-child-smaller : goal.gather_fields-loop-child-smaller
gather_fields-loop-child-smaller t c =
    let h = fields_here c.loop-child.invariant c.loop-child-test.true in
    omega (arith, c.past-child.ensures.part h.node, h.past, h.grows)

pub gather_fields-returns : goal.gather_fields-returns
gather_fields-returns t c = fields_gathered (fields_end c.loop-child.invariant c.loop-child-test.false)

-- ---- items

pub gather_items-overflow_add-item : goal.gather_items-overflow_add-item
gather_items-overflow_add-item t c =
    let l = c.args.layouts.now in
    omega (
      arith,
      node_small l.version l.nodes.items (sub (tree_of l.nodes.items) c.args.node) c.args.node
          l.listing l.sound c.requires.node,
    )

pub gather_items-is_leaf-requires : goal.gather_items-is_leaf-requires
gather_items-is_leaf-requires t c =
    let l = c.args.layouts.now in
    (item_child (noted_in l) (version_of l.version) c.args.node c.requires.node c.requires.holder).node

pub gather_items-returns-then-is_leaf : goal.gather_items-returns-then-is_leaf
gather_items-returns-then-is_leaf t c =
    let l = c.args.layouts.now in
    let n = c.args.node in
    let ch = item_child (noted_in l) (version_of l.version) n c.requires.node c.requires.holder in
    leaves_gathered (item_of (at l n)) (items_of (value_of_ref c.args.v)) (n + 3) c.args.parent
    c.args.spots.now.items (subst (λ (z : Layout). IsLeaf z) ch.is (c.is_leaf.ensures c.if-is_leaf.true))

pub gather_items-loop-i-init : goal.gather_items-loop-i-init
gather_items-loop-i-init t c = items_start c.requires.form (record { rest = refl })

pub gather_items-gather_part-requires : goal.gather_items-gather_part-requires
gather_items-gather_part-requires t c =
    let l = c.args.layouts.now in
    let n = c.args.node in
    let m = item_of (at l n) in
    let all = items_of (value_of_ref c.args.v) in
    let k = c.loop-i in
    let u = value_of_ref c.item.result in
    let lt : k.i < count all = omega (arith, c.len-n.ensures) in
    let e : u ≡ nth all k.i = c.item.ensures.value in
    let ch = item_child (noted_in l) (version_of l.version) n c.requires.node c.requires.holder in
    let h = items_here k.invariant lt in (
      omega (
        arith,
        c.decreases,
        height_items (value_of_ref c.args.v)
            (row_is (value_of_ref c.args.v) c.requires.row),
        height_nth all k.i,
        ap height e,
      ),
      (ch.node, subst (λ (z : Layout). Of z u) (sym ch.is) (subst (Of m) (sym e) h.form)),
    )

pub gather_items-loop-i-preserved : goal.gather_items-loop-i-preserved
gather_items-loop-i-preserved t c =
    let l = c.args.layouts.now in
    let n = c.args.node in
    let m = item_of (at l n) in
    let all = items_of (value_of_ref c.args.v) in
    let k = c.loop-i in
    let u = value_of_ref c.item.result in
    let lt : k.i < count all = omega (arith, c.len-n.ensures) in
    let e : u ≡ nth all k.i = c.item.ensures.value in
    let ch = item_child (noted_in l) (version_of l.version) n c.requires.node c.requires.holder in
    let new = c.gather_part.new.spots.items in
    let g = subst (λ (y : Value). Gathers m y (n + 3) c.args.parent k.spots.items new) e
    (subst (λ (z : Layout). Gathers z u (n + 3) c.args.parent k.spots.items new) ch.is
    c.in_ok-gather_part.ensures) in
    items_next k.invariant lt (λ vs o os r. item_gathered g r)

pub gather_items-returns : goal.gather_items-returns
gather_items-returns t c =
    let e : c.loop-i.i ≡ count (items_of (value_of_ref c.args.v)) = omega (arith, c.len-n.ensures) in
    items_gathered (items_end c.loop-i.invariant e)

-- ---- pairs

pub gather_pairs-loop-i-init : goal.gather_pairs-loop-i-init
gather_pairs-loop-i-init t c = items_start c.requires.form (record { rest = refl })

pub gather_pairs-overflow_add-node : goal.gather_pairs-overflow_add-node
gather_pairs-overflow_add-node t c =
    let l = c.args.layouts.now in
    omega (
      arith,
      node_small l.version l.nodes.items (sub (tree_of l.nodes.items) c.args.node) c.args.node
          l.listing l.sound c.requires.node,
    )

pub gather_pairs-gather_pair-requires : goal.gather_pairs-gather_pair-requires
gather_pairs-gather_pair-requires t c =
    let l = c.args.layouts.now in
    let n = c.args.node in
    let m = item_of (at l n) in
    let all = items_of (value_of_ref c.args.v) in
    let k = c.loop-i in
    let u = pair (value_of_ref c.entry.result.0) (value_of_ref c.entry.result.1) in
    let lt : k.i < count all = omega (arith, c.len-n.ensures) in
    let e : u ≡ nth all k.i = sym c.entry.ensures.pair in
    let ch = item_child (noted_in l) (version_of l.version) n c.requires.node c.requires.holder in
    let h = items_here k.invariant lt in (
      omega (
        arith,
        c.decreases,
        height_items (value_of_ref c.args.v)
            (map_is (value_of_ref c.args.v) c.requires.map),
        height_nth all k.i,
        ap height e,
      ),
      (ch.node, subst (λ (z : Layout). Of z u) (sym ch.is) (subst (Of m) (sym e) h.form)),
    )

pub gather_pairs-loop-i-preserved : goal.gather_pairs-loop-i-preserved
gather_pairs-loop-i-preserved t c =
    let l = c.args.layouts.now in
    let n = c.args.node in
    let m = item_of (at l n) in
    let all = items_of (value_of_ref c.args.v) in
    let k = c.loop-i in
    let u = pair (value_of_ref c.entry.result.0) (value_of_ref c.entry.result.1) in
    let lt : k.i < count all = omega (arith, c.len-n.ensures) in
    let e : u ≡ nth all k.i = sym c.entry.ensures.pair in
    let ch = item_child (noted_in l) (version_of l.version) n c.requires.node c.requires.holder in
    let new = c.gather_pair.new.spots.items in
    let g = subst (λ (y : Value). Gathers m y (n + 3) c.args.parent k.spots.items new) e
    (subst (λ (z : Layout). Gathers z u (n + 3) c.args.parent k.spots.items new) ch.is
    c.in_ok-gather_pair.ensures) in
    items_next k.invariant lt (λ vs o os r. item_gathered g r)

pub gather_pairs-returns : goal.gather_pairs-returns
gather_pairs-returns t c =
    let e : c.loop-i.i ≡ count (items_of (value_of_ref c.args.v)) = omega (arith, c.len-n.ensures) in
    items_gathered (items_end c.loop-i.invariant e)

-- ---- a pair

pub gather_pair-overflow_add-first : goal.gather_pair-overflow_add-first
gather_pair-overflow_add-first t c =
    let l = c.args.layouts.now in
    omega (
      arith,
      node_small l.version l.nodes.items (sub (tree_of l.nodes.items) c.args.node) c.args.node
          l.listing l.sound c.requires.node,
    )

pub gather_pair-past-second-requires : goal.gather_pair-past-second-requires
gather_pair-past-second-requires t c =
    let l = c.args.layouts.now in
    let n = c.args.node in
    let u = pair (value_of_ref c.args.key) (value_of_ref c.args.value) in
    let start = fields_ungathered (noted_in l) (version_of l.version) n (n + 1) (n + nodes (at l n))
    c.args.parent u c.args.spots.now.items tt c.requires.node c.requires.form refl refl in
    let some = fields_more start (omega arith) in
    let one = fields_here start some in
    number_of_part (noted_in l) (n + 1) one.node

pub gather_pair-gather_part-requires : goal.gather_pair-gather_part-requires
gather_pair-gather_part-requires t c =
    let l = c.args.layouts.now in
    let n = c.args.node in
    let u = pair (value_of_ref c.args.key) (value_of_ref c.args.value) in
    let start = fields_ungathered (noted_in l) (version_of l.version) n (n + 1) (n + nodes (at l n))
    c.args.parent u c.args.spots.now.items tt c.requires.node c.requires.form refl refl in
    let some = fields_more start (omega arith) in
    let one = fields_here start some in
    (omega (arith, c.decreases), (one.node, one.form))

pub gather_pair-gather_part-requires-2 : goal.gather_pair-gather_part-requires-2
gather_pair-gather_part-requires-2 t c =
    let l = c.args.layouts.now in
    let n = c.args.node in
    let u = pair (value_of_ref c.args.key) (value_of_ref c.args.value) in
    let start = fields_ungathered (noted_in l) (version_of l.version) n (n + 1) (n + nodes (at l n))
    c.args.parent u c.args.spots.now.items tt c.requires.node c.requires.form refl refl in
    let some = fields_more start (omega arith) in
    let one = fields_here start some in
    let second = c.past-second.result in
    let e = c.past-second.ensures.part one.node in
    let later = fields_next second start some e
    (λ id ms vs o os r. field_gathered e c.in_ok-gather_part.ensures r) in
    let more = fields_more later (omega arith) in
    let two = fields_here later more in
    (omega (arith, c.decreases), (two.node, two.form))

pub gather_pair-returns : goal.gather_pair-returns
gather_pair-returns t c =
    let l = c.args.layouts.now in
    let n = c.args.node in
    let u = pair (value_of_ref c.args.key) (value_of_ref c.args.value) in
    let start = fields_ungathered (noted_in l) (version_of l.version) n (n + 1) (n + nodes (at l n))
    c.args.parent u c.args.spots.now.items tt c.requires.node c.requires.form refl refl in
    let some = fields_more start (omega arith) in
    let one = fields_here start some in
    let second = c.past-second.result in
    let e = c.past-second.ensures.part one.node in
    let later = fields_next second start some e
    (λ id ms vs o os r. field_gathered e c.in_ok-gather_part.ensures r) in
    let more = fields_more later (omega arith) in
    let two = fields_here later more in
    let last = fields_next (second + nodes (at l second)) later more refl
    (λ id ms vs o os r. field_gathered refl c.in_ok-gather_part-2.ensures r) in
    fields_gathered (fields_over last refl)

-- ---- parts

pub gather_part-gather_items-requires : goal.gather_part-gather_items-requires
gather_part-gather_items-requires t c =
    let u = value_of_ref c.args.v in
    let is = items_kind c.kind-kind.result u c.kind-kind.ensures.form c.in-List.is in
    let a = at c.args.layouts.now c.args.node in
    let r = items_held a (items_of u) (items_at a u (items_of u) (items_form u is) c.requires.form) in (
      omega (arith, c.decreases),
      (
        c.requires.node,
        (
          r.0,
          (
            row_kind c.kind-kind.result u c.kind-kind.ensures.form c.in-List.is c.in_default.not-Map,
            r.1,
          ),
        ),
      ),
    )

pub gather_part-gather_pairs-requires : goal.gather_part-gather_pairs-requires
gather_part-gather_pairs-requires t c =
    let u = value_of_ref c.args.v in
    let is = items_kind c.kind-kind.result u c.kind-kind.ensures.form c.in-List.is in
    let a = at c.args.layouts.now c.args.node in
    let r = items_held a (items_of u) (items_at a u (items_of u) (items_form u is) c.requires.form) in (
      omega (arith, c.decreases),
      (
        c.requires.node,
        (r.0, (map_kind c.kind-kind.result u c.kind-kind.ensures.form c.in-Map.is, r.1)),
      ),
    )

pub gather_part-overflow_add-node : goal.gather_part-overflow_add-node
gather_part-overflow_add-node t c =
    let l = c.args.layouts.now in
    omega (
      arith,
      node_small l.version l.nodes.items (sub (tree_of l.nodes.items) c.args.node) c.args.node
          l.listing l.sound c.requires.node,
    )

pub gather_part-gather_part-requires : goal.gather_part-gather_part-requires
gather_part-gather_part-requires t c =
    let l = c.args.layouts.now in
    let x = value_of_ref c.inner.result in
    let p = present_at (at l c.args.node) (value_of_ref c.args.v) x c.inner.ensures.value c.requires.form in
    let ch = inner_child (noted_in l) (version_of l.version) c.args.node p.width p.inner c.requires.node p.is in (
      omega (arith, c.decreases, ap height c.inner.ensures.value),
      (ch.node, subst (λ (z : Layout). Of z x) (sym ch.is) p.form),
    )

pub gather_part-returns-in-Flag : goal.gather_part-returns-in-Flag
gather_part-returns-in-Flag t c =
    let u = value_of_ref c.args.v in
    alone_gathered (at c.args.layouts.now c.args.node) u c.args.node c.args.parent c.args.spots.now.items
    (alone_kind c.kind-kind.result u c.kind-kind.ensures.form c.in-Flag.is)

pub gather_part-returns-in-Text : goal.gather_part-returns-in-Text
gather_part-returns-in-Text t c =
    let u = value_of_ref c.args.v in
    IfOk-weaker c.add_range.result _ _ (λ x h. bytes_gathered (at c.args.layouts.now c.args.node) u
    c.bytes.result.now c.args.node c.args.parent c.args.spots.now.items c.add_range.new.spots.items
    c.bytes.ensures c.requires.form h) c.add_range.ensures

pub gather_part-returns-in_default : goal.gather_part-returns-in_default
gather_part-returns-in_default t c =
    let a = at c.args.layouts.now c.args.node in
    let u = value_of_ref c.args.v in
    let vs = items_of u in
    let n = c.args.node in
    let p = c.args.parent in
    let is = items_kind c.kind-kind.result u c.kind-kind.ensures.form c.in-List.is in
    let old = c.args.spots.now.items in
    let mid = c.add_range-in-List.new.spots.items in
    let new = c.gather_items.new.spots.items in
    let here : c.len-here.result ≡ length old = omega (arith, c.len-here.ensures, c.args.spots.now.ok.0) in
    IfOk-weaker c.gather_items.result _ _
    (λ x g. range_gathered a u vs c.len.result n p old mid new (items_form u is) c.requires.form c.len.ensures
    c.in_ok-add_range-in-List.ensures (subst (λ k. EachGathers (item_of a) vs (n + 3) k mid new) here g))
    c.gather_items.ensures

pub gather_part-returns-in-Map : goal.gather_part-returns-in-Map
gather_part-returns-in-Map t c =
    let a = at c.args.layouts.now c.args.node in
    let u = value_of_ref c.args.v in
    let vs = items_of u in
    let n = c.args.node in
    let p = c.args.parent in
    let is = items_kind c.kind-kind.result u c.kind-kind.ensures.form c.in-List.is in
    let old = c.args.spots.now.items in
    let mid = c.add_range-in-List.new.spots.items in
    let new = c.gather_pairs.new.spots.items in
    let here : c.len-here.result ≡ length old = omega (arith, c.len-here.ensures, c.args.spots.now.ok.0) in
    IfOk-weaker c.gather_pairs.result _ _
    (λ x g. range_gathered a u vs c.len.result n p old mid new (items_form u is) c.requires.form c.len.ensures
    c.in_ok-add_range-in-List.ensures (subst (λ k. EachGathers (item_of a) vs (n + 3) k mid new) here g))
    c.gather_pairs.ensures

pub gather_part-returns-in-Present : goal.gather_part-returns-in-Present
gather_part-returns-in-Present t c =
    let l = c.args.layouts.now in
    let x = value_of_ref c.inner.result in
    let u = value_of_ref c.args.v in
    let n = c.args.node in
    let p = present_at (at l n) u x c.inner.ensures.value c.requires.form in
    let ch = inner_child (noted_in l) (version_of l.version) n p.width p.inner c.requires.node p.is in
    let old = c.args.spots.now.items in
    let new = c.gather_part.new.spots.items in
    IfOk-weaker c.gather_part.result _ _ (λ y g. present_gathered (at l n) u x p.width p.inner n c.args.parent old
    new p.is c.inner.ensures.value (subst (λ (z : Layout). Gathers z x (n + 2) c.args.parent old new) ch.is g))
    c.gather_part.ensures
