use Rattle.std.proofs.Common.{◌≡◌, ◌+◌, ◌-◌, ◌*◌, ◌<◌, ◌≤◌, ◌^◌, arith, ap, sym, ◌∙◌, subst, refl, rules, w64}
use Rattle.std.proofs.lemmas.Int.{to_z-of_z}
use mir.Val.{SFits}
use Rattle.frozen_model.specs.Packing.{bytes_for}
use Rattle.frozen_model.specs.Trees.{nodes, Flag, Integer}
use Rattle.frozen_model.specs.Values.{Value, count, nth, Truth, Number, Of}
use Rattle.frozen_model.specs.Layouts.{Layout, stride, stored, width, number_of}
use Rattle.frozen_laws.specs.Everywhere.{HoldsAt, RangeFits}
use Rattle.layout_tree.specs.Nodes.{at}
use Rattle.layout_tree.specs.Reading.{item_of, distance_width, count_width}
use Rattle.layout_tree.specs.Listing.{sub, tree_of, version_of}
use Rattle.layout_tree.proofs.Numbers.{number_of_part, item_is}
use Rattle.typed_tree.specs.Spots.{pair}
use Rattle.layout_tree.proofs.Children.{item_child, inner_child, node_small}
use Rattle.typed_tree.specs.References.{value_of_ref}
use Rattle.typed_tree.specs.Parts.{items_of, fields_of}
use Rattle.freezer.specs.Writing.{Ready, Wrote}
use Rattle.layout_tree.proofs.Left.{items_here, items_next, items_end, fields_more, fields_here, fields_next}
use Rattle.layout_tree.proofs.Left.{fields_end, fields_over}
use Rattle.freezer.proofs.Left.{items_unwritten, item_ready, item_written, items_written, fields_unwritten}
use Rattle.freezer.proofs.Left.{field_ready, field_written, fields_written}
use Rattle.freezer.proofs.Stores.{small}
use Rattle.freezer.proofs.NoBits.{none_written}
use Rattle.value_bounds.proofs.Forms.{bytes_at, items_at, present_at}
use Rattle.freezer.proofs.Arms.{flag_at, number_at, wrote_leaf, wrote_absent, items_range, items_extent}
use Rattle.freezer.proofs.Arms.{items_ready, items_done, bytes_extent, bytes_done, byte_is, RangeWrote}
use Rattle.freezer.proofs.Arms.{present_ready, present_done}
use Rattle.freezer.proofs.write.+write.Goals as goal
use Rattle.typed_tree.specs.Heights.{height}
use Rattle.typed_tree.proofs.Forms.{height_fields, height_items, height_nth, items_form, items_kind, map_is}
use Rattle.typed_tree.proofs.Forms.{map_kind, row_is, row_kind}

pub write_fields-loop-child-init : goal.write_fields-loop-child-init
write_fields-loop-child-init t c =
    let l = c.args.layouts.now in
    let n = c.args.node in
    fields_unwritten (tree_of l.nodes.items) (version_of l.version) n (n + 1) c.past-end.result
    (value_of_ref c.args.v) c.args.region.now c.args.block.now c.args.bit c.requires.record
    c.requires.node c.requires.ready (c.past-end.ensures.part c.requires.node) refl

pub write_fields-field_at-requires : goal.write_fields-field_at-requires
write_fields-field_at-requires t c = (fields_here c.loop-child.invariant c.loop-child-test.true).some

pub write_fields-write_part-requires : goal.write_fields-write_part-requires
write_fields-write_part-requires t c =
    let k = c.loop-child in
    let u = value_of_ref c.args.v in
    let h = fields_here k.invariant c.loop-child-test.true in
    let r = field_ready h.form h.holds in (
      omega (
        arith,
        c.decreases,
        height_fields u c.requires.record,
        height_nth (fields_of u) k.i,
        ap height
            c.field_at.ensures.value,
      ),
      (
        c.requires.based,
        (
          h.node,
          subst (λ (y : Value). Ready (at c.args.layouts.now k.child) y k.region
              c.args.block.now k.place) (sym c.field_at.ensures.value) r,
        ),
      ),
    )

pub write_fields-bits-requires : goal.write_fields-bits-requires
write_fields-bits-requires t c = (fields_here c.loop-child.invariant c.loop-child-test.true).node

pub write_fields-past-end-requires : goal.write_fields-past-end-requires
write_fields-past-end-requires t c = number_of_part (tree_of c.args.layouts.now.nodes.items) c.args.node
    c.requires.node

pub write_fields-past-child-requires : goal.write_fields-past-child-requires
write_fields-past-child-requires t c =
    number_of_part (tree_of c.args.layouts.now.nodes.items) c.loop-child.child
    (fields_here c.loop-child.invariant c.loop-child-test.true).node

pub write_fields-overflow_add-i : goal.write_fields-overflow_add-i
write_fields-overflow_add-i t c =
    let f : c.loop-child.child < c.past-end.result = c.loop-child-test.true in
    omega (arith, c.loop-child.invariant.holds.passed, f, c.past-end.type_inv)

pub write_fields-loop-child-preserved : goal.write_fields-loop-child-preserved
write_fields-loop-child-preserved t c =
    let k = c.loop-child in
    let lt = c.loop-child-test.true in
    let h = fields_here k.invariant lt in
    let e = c.past-child.ensures.part h.node in
    let eb = ap (λ z. k.place + z) c.bits.ensures.bits in
    let w = subst (λ (y : Value). Wrote (at c.args.layouts.now k.child) y k.region c.write_part.new.region
    c.args.block.now k.place) c.field_at.ensures.value c.write_part.ensures in
    fields_next c.past-child.result k.invariant lt e (λ id ms vs o os r. field_written o eb w r)

pub write_fields-loop-child-smaller : goal.write_fields-loop-child-smaller
write_fields-loop-child-smaller t c =
    let h = fields_here c.loop-child.invariant c.loop-child-test.true in
    omega (arith, c.past-child.ensures.part h.node, h.past, h.grows)

pub write_fields-returns : goal.write_fields-returns
write_fields-returns t c = fields_written (fields_end c.loop-child.invariant c.loop-child-test.false)

pub write_items-loop-i-init : goal.write_items-loop-i-init
write_items-loop-i-init t c =
    let a = at c.args.layouts.now c.args.node in
    let small : stride (item_of a) ≤ 32767 = omega (
      arith,
      c.stride-stride.ensures.stride,
      item_is a c.requires.holder,
      c.stride-stride.ensures.small,
    ) in
    items_unwritten (item_of a) (items_of (value_of_ref c.args.v)) c.args.region.now c.args.block.now small
    c.requires.ready

pub write_items-returns-then-stride-eq0 : goal.write_items-returns-then-stride-eq0
write_items-returns-then-stride-eq0 t c =
    let a = at c.args.layouts.now c.args.node in
    let z = item_is a c.requires.holder ∙ sym c.stride-stride.ensures.stride ∙ c.if-stride-eq0.true in
    none_written (item_of a) (items_of (value_of_ref c.args.v)) c.args.region.now c.args.block.now
    c.requires.ready.form c.requires.ready.holds z

pub write_items-overflow_add-node : goal.write_items-overflow_add-node
write_items-overflow_add-node t c =
    let l = c.args.layouts.now in
    omega (
      arith,
      node_small l.version l.nodes.items (sub (tree_of l.nodes.items) c.args.node) c.args.node
          l.listing l.sound c.requires.node,
    )

pub write_items-write_part-requires : goal.write_items-write_part-requires
write_items-write_part-requires t c =
    let l = c.args.layouts.now in
    let n = c.args.node in
    let m = item_of (at l n) in
    let all = items_of (value_of_ref c.args.v) in
    let k = c.loop-i in
    let b = c.args.block.now in
    let u = value_of_ref c.item.result in
    let lt : k.i < count all = omega (arith, c.len-n.ensures) in
    let e : u ≡ nth all k.i = c.item.ensures.value in
    let ch = item_child (tree_of l.nodes.items) (version_of l.version) n c.requires.node c.requires.holder in
    let place : k.i * stride m ≡ k.i * c.stride-stride.result = ap (λ z. k.i * z)
    (item_is (at l n) c.requires.holder ∙ sym c.stride-stride.ensures.stride) in
    let h = items_here k.invariant lt in
    let r = item_ready h.form h.holds in (
      omega (
        arith,
        c.decreases,
        height_items (value_of_ref c.args.v)
            (row_is (value_of_ref c.args.v) c.requires.row),
        height_nth all k.i,
        ap height e,
      ),
      (
        c.requires.based,
        (
          ch.node,
          subst (λ (z : Layout). Ready z u k.region b (k.i * c.stride-stride.result))
              (sym ch.is) (subst (λ z. Ready m u k.region b z) place
              (subst (λ (y : Value). Ready m y k.region b (k.i * stride m)) (sym e) r)),
        ),
      ),
    )

pub write_items-loop-i-preserved : goal.write_items-loop-i-preserved
write_items-loop-i-preserved t c =
    let l = c.args.layouts.now in
    let n = c.args.node in
    let m = item_of (at l n) in
    let all = items_of (value_of_ref c.args.v) in
    let k = c.loop-i in
    let b = c.args.block.now in
    let u = value_of_ref c.item.result in
    let lt : k.i < count all = omega (arith, c.len-n.ensures) in
    let e : u ≡ nth all k.i = c.item.ensures.value in
    let ch = item_child (tree_of l.nodes.items) (version_of l.version) n c.requires.node c.requires.holder in
    let place : k.i * stride m ≡ k.i * c.stride-stride.result = ap (λ z. k.i * z)
    (item_is (at l n) c.requires.holder ∙ sym c.stride-stride.ensures.stride) in
    let mid = c.write_part.new.region in
    let w = subst (λ (y : Value). Wrote m y k.region mid b (k.i * stride m)) e
    (subst (λ z. Wrote m u k.region mid b z) (sym place)
    (subst (λ (z : Layout). Wrote z u k.region mid b (k.i * c.stride-stride.result)) ch.is
    c.write_part.ensures)) in
    items_next k.invariant lt (λ vs o os r. item_written o w r)

pub write_items-returns : goal.write_items-returns
write_items-returns t c =
    let e : c.loop-i.i ≡ count (items_of (value_of_ref c.args.v)) = omega (arith, c.len-n.ensures) in
    items_written (items_end c.loop-i.invariant e)

pub write_pairs-loop-i-init : goal.write_pairs-loop-i-init
write_pairs-loop-i-init t c =
    let a = at c.args.layouts.now c.args.node in
    let small : stride (item_of a) ≤ 32767 = omega (
      arith,
      c.stride-stride.ensures.stride,
      item_is a c.requires.holder,
      c.stride-stride.ensures.small,
    ) in
    items_unwritten (item_of a) (items_of (value_of_ref c.args.v)) c.args.region.now c.args.block.now small
    c.requires.ready

pub write_pairs-overflow_add-node : goal.write_pairs-overflow_add-node
write_pairs-overflow_add-node t c =
    let l = c.args.layouts.now in
    omega (
      arith,
      node_small l.version l.nodes.items (sub (tree_of l.nodes.items) c.args.node) c.args.node
          l.listing l.sound c.requires.node,
    )

pub write_pairs-write_pair-requires : goal.write_pairs-write_pair-requires
write_pairs-write_pair-requires t c =
    let l = c.args.layouts.now in
    let n = c.args.node in
    let m = item_of (at l n) in
    let all = items_of (value_of_ref c.args.v) in
    let k = c.loop-i in
    let b = c.args.block.now in
    let u = pair (value_of_ref c.entry.result.0) (value_of_ref c.entry.result.1) in
    let lt : k.i < count all = omega (arith, c.len-n.ensures) in
    let e : u ≡ nth all k.i = sym c.entry.ensures.pair in
    let ch = item_child (tree_of l.nodes.items) (version_of l.version) n c.requires.node c.requires.holder in
    let place : k.i * stride m ≡ k.i * c.stride-stride.result = ap (λ z. k.i * z)
    (item_is (at l n) c.requires.holder ∙ sym c.stride-stride.ensures.stride) in
    let h = items_here k.invariant lt in
    let r = item_ready h.form h.holds in (
      omega (
        arith,
        c.decreases,
        height_items (value_of_ref c.args.v)
            (map_is (value_of_ref c.args.v) c.requires.map),
        height_nth all k.i,
        ap height e,
      ),
      (
        c.requires.based,
        (
          ch.node,
          subst (λ (z : Layout). Ready z u k.region b (k.i * c.stride-stride.result))
              (sym ch.is) (subst (λ z. Ready m u k.region b z) place
              (subst (λ (y : Value). Ready m y k.region b (k.i * stride m)) (sym e) r)),
        ),
      ),
    )

pub write_pairs-loop-i-preserved : goal.write_pairs-loop-i-preserved
write_pairs-loop-i-preserved t c =
    let l = c.args.layouts.now in
    let n = c.args.node in
    let m = item_of (at l n) in
    let all = items_of (value_of_ref c.args.v) in
    let k = c.loop-i in
    let b = c.args.block.now in
    let u = pair (value_of_ref c.entry.result.0) (value_of_ref c.entry.result.1) in
    let lt : k.i < count all = omega (arith, c.len-n.ensures) in
    let e : u ≡ nth all k.i = sym c.entry.ensures.pair in
    let ch = item_child (tree_of l.nodes.items) (version_of l.version) n c.requires.node c.requires.holder in
    let place : k.i * stride m ≡ k.i * c.stride-stride.result = ap (λ z. k.i * z)
    (item_is (at l n) c.requires.holder ∙ sym c.stride-stride.ensures.stride) in
    let mid = c.write_pair.new.region in
    let w = subst (λ (y : Value). Wrote m y k.region mid b (k.i * stride m)) e
    (subst (λ z. Wrote m u k.region mid b z) (sym place)
    (subst (λ (z : Layout). Wrote z u k.region mid b (k.i * c.stride-stride.result)) ch.is
    c.write_pair.ensures)) in
    items_next k.invariant lt (λ vs o os r. item_written o w r)

pub write_pairs-returns : goal.write_pairs-returns
write_pairs-returns t c =
    let e : c.loop-i.i ≡ count (items_of (value_of_ref c.args.v)) = omega (arith, c.len-n.ensures) in
    items_written (items_end c.loop-i.invariant e)

pub write_pair-overflow_add-first : goal.write_pair-overflow_add-first
write_pair-overflow_add-first t c =
    let l = c.args.layouts.now in
    omega (
      arith,
      node_small l.version l.nodes.items (sub (tree_of l.nodes.items) c.args.node) c.args.node
          l.listing l.sound c.requires.node,
    )

pub write_pair-write_part-requires : goal.write_pair-write_part-requires
write_pair-write_part-requires t c =
    let l = c.args.layouts.now in
    let n = c.args.node in
    let u = pair (value_of_ref c.args.key) (value_of_ref c.args.value) in
    let start = fields_unwritten (tree_of l.nodes.items) (version_of l.version) n (n + 1) (n + nodes (at l n))
    u c.args.region.now c.args.block.now c.args.bit tt c.requires.node c.requires.ready refl refl in
    let some = fields_more start (omega arith) in
    let one = fields_here start some in
    (omega (arith, c.decreases), (c.requires.based, (one.node, field_ready one.form one.holds)))

pub write_pair-past-second-requires : goal.write_pair-past-second-requires
write_pair-past-second-requires t c =
    let l = c.args.layouts.now in
    let n = c.args.node in
    let u = pair (value_of_ref c.args.key) (value_of_ref c.args.value) in
    let start = fields_unwritten (tree_of l.nodes.items) (version_of l.version) n (n + 1) (n + nodes (at l n))
    u c.args.region.now c.args.block.now c.args.bit tt c.requires.node c.requires.ready refl refl in
    let some = fields_more start (omega arith) in
    let one = fields_here start some in
    number_of_part (tree_of l.nodes.items) (n + 1) one.node

pub write_pair-bits-requires : goal.write_pair-bits-requires
write_pair-bits-requires t c =
    let l = c.args.layouts.now in
    let n = c.args.node in
    let u = pair (value_of_ref c.args.key) (value_of_ref c.args.value) in
    let start = fields_unwritten (tree_of l.nodes.items) (version_of l.version) n (n + 1) (n + nodes (at l n))
    u c.args.region.now c.args.block.now c.args.bit tt c.requires.node c.requires.ready refl refl in
    let some = fields_more start (omega arith) in
    let one = fields_here start some in
    one.node

pub write_pair-overflow_add-place : goal.write_pair-overflow_add-place
write_pair-overflow_add-place t c =
    let l = c.args.layouts.now in
    let n = c.args.node in
    let u = pair (value_of_ref c.args.key) (value_of_ref c.args.value) in
    let start = fields_unwritten (tree_of l.nodes.items) (version_of l.version) n (n + 1) (n + nodes (at l n))
    u c.args.region.now c.args.block.now c.args.bit tt c.requires.node c.requires.ready refl refl in
    let some = fields_more start (omega arith) in
    let one = fields_here start some in
    omega (arith, (field_ready one.form one.holds).small, c.bits.ensures.bits)

pub write_pair-write_part-requires-2 : goal.write_pair-write_part-requires-2
write_pair-write_part-requires-2 t c =
    let l = c.args.layouts.now in
    let n = c.args.node in
    let u = pair (value_of_ref c.args.key) (value_of_ref c.args.value) in
    let start = fields_unwritten (tree_of l.nodes.items) (version_of l.version) n (n + 1) (n + nodes (at l n))
    u c.args.region.now c.args.block.now c.args.bit tt c.requires.node c.requires.ready refl refl in
    let some = fields_more start (omega arith) in
    let one = fields_here start some in
    let second = c.past-second.result in
    let place = c.args.bit + c.bits.result in
    let e = c.past-second.ensures.part one.node in
    let eb = ap (λ z. c.args.bit + z) c.bits.ensures.bits in
    let later = fields_next second start some e
    (λ id ms vs o os r. field_written o eb c.write_part.ensures r) in
    let more = fields_more later (omega arith) in
    let two = fields_here later more in
    (omega (arith, c.decreases), (c.requires.based, (two.node, field_ready two.form two.holds)))

pub write_pair-returns : goal.write_pair-returns
write_pair-returns t c =
    let l = c.args.layouts.now in
    let n = c.args.node in
    let u = pair (value_of_ref c.args.key) (value_of_ref c.args.value) in
    let start = fields_unwritten (tree_of l.nodes.items) (version_of l.version) n (n + 1) (n + nodes (at l n))
    u c.args.region.now c.args.block.now c.args.bit tt c.requires.node c.requires.ready refl refl in
    let some = fields_more start (omega arith) in
    let one = fields_here start some in
    let second = c.past-second.result in
    let place = c.args.bit + c.bits.result in
    let e = c.past-second.ensures.part one.node in
    let eb = ap (λ z. c.args.bit + z) c.bits.ensures.bits in
    let later = fields_next second start some e
    (λ id ms vs o os r. field_written o eb c.write_part.ensures r) in
    let more = fields_more later (omega arith) in
    let two = fields_here later more in
    let last = fields_next (second + nodes (at l second)) later more refl
    (λ id ms vs o os r. field_written o refl c.write_part-2.ensures r) in
    fields_written (fields_over last refl)

pub write_part-put-requires-clause-fits : goal.write_part-put-requires-clause-fits
write_part-put-requires-clause-fits t c =
    let l = c.args.layouts.now in
    let a = at l c.args.node in
    let s = sub (tree_of l.nodes.items) c.args.node in
    let g = c.args.region.now.taken - c.args.block.now.start in
    let b = c.flag.result in
    let f = flag_at (version_of l.version) s b g
    (subst (λ (y : Value). Of a y) c.flag.ensures c.requires.ready.form)
    (subst (λ (y : Value). HoldsAt a y g) c.flag.ensures c.requires.ready.holds) in
    let w : c.bits.result ≡ width f.code = c.bits.ensures.bits ∙ ap stride f.is in
    let h = subst (λ z. stored f.code (number_of (Truth b)) < 2 ^ z) (sym w)
    (small f.code (number_of (Truth b)) f.fits) in
    omega (arith, h, f.stores, byte_is b)

pub write_part-returns-in-Flag : goal.write_part-returns-in-Flag
write_part-returns-in-Flag t c =
    let l = c.args.layouts.now in
    let a = at l c.args.node in
    let s = sub (tree_of l.nodes.items) c.args.node in
    let g = c.args.region.now.taken - c.args.block.now.start in
    let b = c.flag.result in
    let f = flag_at (version_of l.version) s b g
    (subst (λ (y : Value). Of a y) c.flag.ensures c.requires.ready.form)
    (subst (λ (y : Value). HoldsAt a y g) c.flag.ensures c.requires.ready.holds) in
    wrote_leaf a (value_of_ref c.args.v) Flag f.code (Truth b) c.bits.result _ c.args.region.now
    c.put.new.region c.args.block.now c.args.bit f.is c.flag.ensures c.bits.ensures.bits
    (byte_is b ∙ sym f.stores) c.put.ensures.taken c.put.ensures.length c.put.ensures.bits

pub write_part-returns-in-Int : goal.write_part-returns-in-Int
write_part-returns-in-Int t c =
    let l = c.args.layouts.now in
    let a = at l c.args.node in
    let g = c.args.region.now.taken - c.args.block.now.start in
    let z = c.int.result in
    let fits : SFits w64 z = search rules in
    let s = number_at a z g (subst (λ (y : Value). Of a y) c.int.ensures c.requires.ready.form)
    (subst (λ (y : Value). HoldsAt a y g) c.int.ensures c.requires.ready.holds) in
    wrote_leaf a (value_of_ref c.args.v) (Integer s.kind) s.code (Number z) c.bits-width.result
    c.stored_number-stored.result c.args.region.now c.put-in-Int.new.region c.args.block.now c.args.bit
    s.is c.int.ensures c.bits-width.ensures.bits
    (c.stored_number-stored.ensures.stored s.kind s.code s.is
    ∙ ap (λ q. stored s.code q) (to_z-of_z w64 z fits)) c.put-in-Int.ensures.taken c.put-in-Int.ensures.length
    c.put-in-Int.ensures.bits

pub write_part-returns-in_default : goal.write_part-returns-in_default
write_part-returns-in_default t c =
    let l = at c.args.layouts.now c.args.node in
    let r = c.requires.ready in
    let u = value_of_ref c.args.v in
    let bs = c.bytes-bytes.result.now in
    let e = c.bytes-bytes.ensures in
    let k = bytes_at l u bs e r.form in
    let h = c.in_default.ensures.enough.1 (omega (arith, r.room, bytes_extent l u bs k e)) in
    absurd cc

pub write_part-returns-in-Some : goal.write_part-returns-in-Some
write_part-returns-in-Some t c =
    let l = at c.args.layouts.now c.args.node in
    let r = c.requires.ready in
    let u = value_of_ref c.args.v in
    let bs = c.bytes-bytes.result.now in
    let old = c.args.region.now in
    let b = c.args.block.now in
    let e = c.bytes-bytes.ensures in
    let k = bytes_at l u bs e r.form in
    let i = c.in-Some in
    let w = c.write_range in
    bytes_done l u bs k old c.take.new.self w.new.region c.copy.new.self b i.inner c.args.bit e
    i.ensures.block i.ensures.after w.ensures.taken w.ensures.length w.ensures.written
    (omega (arith, r.room, bytes_extent l u bs k e)) c.copy.ensures.after

pub write_part-block_len-requires-clause-few : goal.write_part-block_len-requires-clause-few
write_part-block_len-requires-clause-few t c =
    let l = at c.args.layouts.now c.args.node in
    let r = c.requires.ready in
    let u = value_of_ref c.args.v in
    let vs = items_of u in
    let is = items_kind c.kind-kind.result u c.kind-kind.ensures.form c.in-List.is in
    let e = items_form u is in
    let k = items_at l u vs e r.form in
    omega (arith, k.few, c.len-n.ensures)

pub write_part-returns-in_default-take : goal.write_part-returns-in_default-take
write_part-returns-in_default-take t c =
    let l = at c.args.layouts.now c.args.node in
    let r = c.requires.ready in
    let u = value_of_ref c.args.v in
    let vs = items_of u in
    let old = c.args.region.now in
    let b = c.args.block.now in
    let g = old.taken - b.start in
    let is = items_kind c.kind-kind.result u c.kind-kind.ensures.form c.in-List.is in
    let e = items_form u is in
    let k = items_at l u vs e r.form in
    let eb : c.block_len.result ≡ bytes_for (count vs * stride (item_of l)) = c.block_len.ensures
    ∙ ap (λ z. bytes_for (c.len-n.result * z)) (sym (item_is l (items_range l u vs g k e r.holds).1))
    ∙ ap (λ z. bytes_for (z * stride (item_of l))) c.len-n.ensures in
    let h = c.in_default-take.ensures.enough.1 (omega (arith, r.room, items_extent l u vs k e, eb)) in
    absurd cc

pub write_part-write_range-requires-in-List-clause-range : goal.write_part-write_range-requires-in-List-clause-range
write_part-write_range-requires-in-List-clause-range t c =
    let l = at c.args.layouts.now c.args.node in
    let r = c.requires.ready in
    let u = value_of_ref c.args.v in
    let vs = items_of u in
    let old = c.args.region.now in
    let b = c.args.block.now in
    let g = old.taken - b.start in
    let is = items_kind c.kind-kind.result u c.kind-kind.ensures.form c.in-List.is in
    let e = items_form u is in
    let k = items_at l u vs e r.form in
    (items_range l u vs g k e r.holds).0

pub write_part-write_range-requires-in-List-clause-fits : goal.write_part-write_range-requires-in-List-clause-fits
write_part-write_range-requires-in-List-clause-fits t c =
    let l = at c.args.layouts.now c.args.node in
    let r = c.requires.ready in
    let u = value_of_ref c.args.v in
    let vs = items_of u in
    let old = c.args.region.now in
    let b = c.args.block.now in
    let g = old.taken - b.start in
    let is = items_kind c.kind-kind.result u c.kind-kind.ensures.form c.in-List.is in
    let e = items_form u is in
    let k = items_at l u vs e r.form in
    let n = c.len-n.result in
    let start : g ≡ c.in-Some-take.inner.start - b.start = ap (λ z. z - b.start)
    (sym (ap (λ z. z.start) c.in-Some-take.ensures.block)) in
    subst (λ z. RangeFits (distance_width l) (count_width l) z (c.in-Some-take.inner.start - b.start))
    (sym c.len-n.ensures) (subst (λ z. RangeFits (distance_width l) (count_width l) (count vs) z) start
    (items_range l u vs g k e r.holds).2)

pub write_part-write_items-requires : goal.write_part-write_items-requires
write_part-write_items-requires t c =
    let l = at c.args.layouts.now c.args.node in
    let r = c.requires.ready in
    let u = value_of_ref c.args.v in
    let vs = items_of u in
    let old = c.args.region.now in
    let b = c.args.block.now in
    let g = old.taken - b.start in
    let is = items_kind c.kind-kind.result u c.kind-kind.ensures.form c.in-List.is in
    let e = items_form u is in
    let k = items_at l u vs e r.form in
    let eb : c.block_len.result ≡ bytes_for (count vs * stride (item_of l)) = c.block_len.ensures
    ∙ ap (λ z. bytes_for (c.len-n.result * z)) (sym (item_is l (items_range l u vs g k e r.holds).1))
    ∙ ap (λ z. bytes_for (z * stride (item_of l))) c.len-n.ensures in
    let i = c.in-Some-take in
    let w = c.write_range-in-List in (
      omega (arith, c.decreases),
      (
        c.requires.based,
        (
          c.requires.node,
          (
            (items_range l u vs g k e r.holds).1,
            (
              row_kind c.kind-kind.result u c.kind-kind.ensures.form c.in-List.is c.in_default-kind.not-Map,
              items_ready l u vs g c.block_len.result k old c.take-in-List.new.self w.new.region i.inner e
                  r.holds eb i.ensures.block i.ensures.after w.ensures.taken w.ensures.length r.room,
            ),
          ),
        ),
      ),
    )

pub write_part-write_pairs-requires : goal.write_part-write_pairs-requires
write_part-write_pairs-requires t c =
    let l = at c.args.layouts.now c.args.node in
    let r = c.requires.ready in
    let u = value_of_ref c.args.v in
    let vs = items_of u in
    let old = c.args.region.now in
    let b = c.args.block.now in
    let g = old.taken - b.start in
    let is = items_kind c.kind-kind.result u c.kind-kind.ensures.form c.in-List.is in
    let e = items_form u is in
    let k = items_at l u vs e r.form in
    let eb : c.block_len.result ≡ bytes_for (count vs * stride (item_of l)) = c.block_len.ensures
    ∙ ap (λ z. bytes_for (c.len-n.result * z)) (sym (item_is l (items_range l u vs g k e r.holds).1))
    ∙ ap (λ z. bytes_for (z * stride (item_of l))) c.len-n.ensures in
    let i = c.in-Some-take in
    let w = c.write_range-in-List in (
      omega (arith, c.decreases),
      (
        c.requires.based,
        (
          c.requires.node,
          (
            (items_range l u vs g k e r.holds).1,
            (
              map_kind c.kind-kind.result u c.kind-kind.ensures.form c.in-Map.is,
              items_ready l u vs g
                  c.block_len.result k old c.take-in-List.new.self w.new.region i.inner e r.holds eb
                  i.ensures.block i.ensures.after
                  w.ensures.taken w.ensures.length r.room,
            ),
          ),
        ),
      ),
    )

pub write_part-returns-in_default-kind : goal.write_part-returns-in_default-kind
write_part-returns-in_default-kind t c =
    let l = at c.args.layouts.now c.args.node in
    let r = c.requires.ready in
    let u = value_of_ref c.args.v in
    let vs = items_of u in
    let old = c.args.region.now in
    let b = c.args.block.now in
    let g = old.taken - b.start in
    let is = items_kind c.kind-kind.result u c.kind-kind.ensures.form c.in-List.is in
    let e = items_form u is in
    let k = items_at l u vs e r.form in
    let eb : c.block_len.result ≡ bytes_for (count vs * stride (item_of l)) = c.block_len.ensures
    ∙ ap (λ z. bytes_for (c.len-n.result * z)) (sym (item_is l (items_range l u vs g k e r.holds).1))
    ∙ ap (λ z. bytes_for (z * stride (item_of l))) c.len-n.ensures in
    let i = c.in-Some-take in
    let w = c.write_range-in-List in
    let f = subst (λ z. RangeWrote l z c.take-in-List.new.self w.new.region b i.inner c.args.bit)
    c.len-n.ensures w.ensures.written in
    items_done l u vs c.block_len.result k old c.take-in-List.new.self w.new.region c.write_items.new.region
    b i.inner c.args.bit e eb i.ensures.block i.ensures.after w.ensures.taken w.ensures.length
    (omega (arith, r.taken)) f c.write_items.ensures

pub write_part-returns-in-Map : goal.write_part-returns-in-Map
write_part-returns-in-Map t c =
    let l = at c.args.layouts.now c.args.node in
    let r = c.requires.ready in
    let u = value_of_ref c.args.v in
    let vs = items_of u in
    let old = c.args.region.now in
    let b = c.args.block.now in
    let g = old.taken - b.start in
    let is = items_kind c.kind-kind.result u c.kind-kind.ensures.form c.in-List.is in
    let e = items_form u is in
    let k = items_at l u vs e r.form in
    let eb : c.block_len.result ≡ bytes_for (count vs * stride (item_of l)) = c.block_len.ensures
    ∙ ap (λ z. bytes_for (c.len-n.result * z)) (sym (item_is l (items_range l u vs g k e r.holds).1))
    ∙ ap (λ z. bytes_for (z * stride (item_of l))) c.len-n.ensures in
    let i = c.in-Some-take in
    let w = c.write_range-in-List in
    let f = subst (λ z. RangeWrote l z c.take-in-List.new.self w.new.region b i.inner c.args.bit)
    c.len-n.ensures w.ensures.written in
    items_done l u vs c.block_len.result k old c.take-in-List.new.self w.new.region c.write_pairs.new.region
    b i.inner c.args.bit e eb i.ensures.block i.ensures.after w.ensures.taken w.ensures.length
    (omega (arith, r.taken)) f c.write_pairs.ensures

pub write_part-returns-in-Absent : goal.write_part-returns-in-Absent
write_part-returns-in-Absent t c = wrote_absent (at c.args.layouts.now c.args.node) (value_of_ref c.args.v)
    c.args.region.now c.args.block.now c.args.bit c.requires.ready.form c.in-Absent.ensures.form

pub write_part-overflow_add-node : goal.write_part-overflow_add-node
write_part-overflow_add-node t c =
    let l = c.args.layouts.now in
    omega (
      arith,
      node_small l.version l.nodes.items (sub (tree_of l.nodes.items) c.args.node) c.args.node
          l.listing l.sound c.requires.node,
    )

pub write_part-write_part-requires : goal.write_part-write_part-requires
write_part-write_part-requires t c =
    let lay = c.args.layouts.now in
    let l = at lay c.args.node in
    let r = c.requires.ready in
    let u = value_of_ref c.args.v in
    let x = value_of_ref c.inner.result in
    let old = c.args.region.now in
    let b = c.args.block.now in
    let e = c.inner.ensures.value in
    let p = present_at l u x e r.form in
    let ch = inner_child (tree_of lay.nodes.items) (version_of lay.version) c.args.node p.width p.inner
    c.requires.node p.is in
    let w = c.isset_bits-width in
    let q = c.put-in-Present in
    let ready = present_ready l u x old q.new.region b c.args.bit w.result p e w.ensures.width q.ensures.taken
    q.ensures.length r in (
      omega (arith, c.decreases, ap height e),
      (
        c.requires.based,
        (
          ch.node,
          subst (λ (z : Layout). Ready z x q.new.region b (c.args.bit + w.result))
              (sym ch.is) ready,
        ),
      ),
    )

pub write_part-returns-in-Present : goal.write_part-returns-in-Present
write_part-returns-in-Present t c =
    let lay = c.args.layouts.now in
    let l = at lay c.args.node in
    let r = c.requires.ready in
    let u = value_of_ref c.args.v in
    let x = value_of_ref c.inner.result in
    let old = c.args.region.now in
    let b = c.args.block.now in
    let e = c.inner.ensures.value in
    let p = present_at l u x e r.form in
    let ch = inner_child (tree_of lay.nodes.items) (version_of lay.version) c.args.node p.width p.inner
    c.requires.node p.is in
    let w = c.isset_bits-width in
    let q = c.put-in-Present in
    let done = subst (λ (z : Layout). Wrote z x q.new.region c.write_part.new.region b
    (c.args.bit + w.result)) ch.is c.write_part.ensures in
    present_done l u x old q.new.region c.write_part.new.region b c.args.bit w.result p e w.ensures.width
    q.ensures.taken q.ensures.length q.ensures.bits done
