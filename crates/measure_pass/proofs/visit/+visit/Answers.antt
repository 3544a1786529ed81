use Rattle.std.proofs.Common.{◌≡◌, ◌≤◌, ◌+◌, ◌*◌, ◌<◌, arith, ap, sym, ◌∙◌, subst, refl, rules, w64}
use Rattle.std.proofs.lemmas.Int.{to_z-of_z}
use mir.Val.{SFits}
use Rattle.frozen_model.specs.Packing.{bytes_for}
use Rattle.frozen_model.specs.Trees.{nodes, Integer, greatest}
use Rattle.frozen_model.specs.Values.{Value, count, nth, Truth, Number, Of}
use Rattle.frozen_model.specs.Layouts.{Layout, stride, need}
use Rattle.frozen_laws.specs.Everywhere.{RangeFits}
use Rattle.layout_tree.specs.Nodes.{at, noted_in}
use Rattle.layout_tree.specs.Reading.{item_of, IsHolder, IsRange}
use Rattle.layout_tree.proofs.Numbers.{number_of_part}
use Rattle.typed_tree.specs.Spots.{pair}
use Rattle.layout_tree.specs.Listing.{sub, tree_of, version_of}
use Rattle.layout_tree.proofs.Children.{Child, item_child, inner_child, node_small}
use Rattle.typed_tree.specs.References.{value_of_ref}
use Rattle.typed_tree.specs.Parts.{items_of, fields_of}
use Rattle.measure_pass.specs.Growing.{Same, Ready, EachReady, Visited, EachVisited}
use Rattle.measure_pass.proofs.Stays.{same_child}
use Rattle.layout_tree.proofs.Left.{items_here, items_next, items_end, fields_more, fields_here, fields_next}
use Rattle.layout_tree.proofs.Left.{fields_end, fields_over}
use Rattle.measure_pass.proofs.Left.{items_unvisited, item_ready, item_visited, items_visited}
use Rattle.measure_pass.proofs.Left.{fields_unvisited, field_ready, field_visited, fields_visited}
use Rattle.measure_pass.proofs.Arms.{leaf_tip, flag_here, leaf_at, flag_needs, integer_at, visited_leaf}
use Rattle.value_bounds.proofs.Forms.{bytes_at, items_at, present_at}
use Rattle.measure_pass.proofs.Arms.{visited_absent, inner_ready, visited_present, bytes_range, bytes_fit}
use Rattle.measure_pass.proofs.Arms.{visited_bytes, items_range, items_fit, items_ready, visited_items}
use Rattle.measure_pass.proofs.Arms.{items_end_at, block_is}
use Rattle.measure_pass.proofs.visit.+visit.Goals as goal
use Rattle.typed_tree.specs.Heights.{height}
use Rattle.typed_tree.proofs.Forms.{height_fields, height_items, height_nth, items_form, items_kind, map_is}
use Rattle.typed_tree.proofs.Forms.{map_kind, row_is, row_kind}

pub visit_fields-loop-child-init : goal.visit_fields-loop-child-init
visit_fields-loop-child-init t c =
    let n = c.args.node in
    fields_unvisited c.args.layouts.now n (n + 1) c.past-end.result (value_of_ref c.args.v) c.args.from
    c.requires.record c.requires.node c.requires.ready (c.past-end.ensures.part c.requires.node) refl

pub visit_fields-past-end-requires : goal.visit_fields-past-end-requires
visit_fields-past-end-requires t c = number_of_part (tree_of c.args.layouts.now.nodes.items) c.args.node
    c.requires.node

pub visit_fields-past-past-requires : goal.visit_fields-past-past-requires
visit_fields-past-past-requires t c =
    let l = c.args.layouts.now in
    let k = c.loop-child in
    let lt = c.loop-child-test.true in
    let h = fields_here k.invariant lt in
    let ch : Child (noted_in k.layouts) (version_of k.layouts.version) k.child (at l k.child) = same_child
    h.holds.same (record {
      node = h.node;
      is = refl;
    }) in
    number_of_part (noted_in k.layouts) k.child ch.node

pub visit_fields-field_at-requires : goal.visit_fields-field_at-requires
visit_fields-field_at-requires t c = (fields_here c.loop-child.invariant c.loop-child-test.true).some

pub visit_fields-visit_part-next-requires : goal.visit_fields-visit_part-next-requires
visit_fields-visit_part-next-requires t c =
    let l = c.args.layouts.now in
    let k = c.loop-child in
    let lt = c.loop-child-test.true in
    let h = fields_here k.invariant lt in
    let ch : Child (noted_in k.layouts) (version_of k.layouts.version) k.child (at l k.child) = same_child
    h.holds.same (record {
      node = h.node;
      is = refl;
    }) in
    let u = value_of_ref c.args.v in
    let y = value_of_ref c.field_at.result in
    let r = field_ready h.form h.holds in (
      omega (
        arith,
        c.decreases,
        height_fields u c.requires.record,
        height_nth (fields_of u) k.i,
        ap height
            c.field_at.ensures.value,
      ),
      (
        ch.node,
        subst (λ (z : Layout). Ready z y k.next) (sym ch.is)
            (subst (λ (z : Value). Ready (at l k.child) z k.next) (sym c.field_at.ensures.value) r),
      ),
    )

pub visit_fields-loop-child-preserved : goal.visit_fields-loop-child-preserved
visit_fields-loop-child-preserved t c =
    let l = c.args.layouts.now in
    let k = c.loop-child in
    let lt = c.loop-child-test.true in
    let h = fields_here k.invariant lt in
    let ch : Child (noted_in k.layouts) (version_of k.layouts.version) k.child (at l k.child) = same_child
    h.holds.same (record {
      node = h.node;
      is = refl;
    }) in
    let y = value_of_ref c.field_at.result in
    let mid = c.visit_part-next.new.layouts in
    let next = c.visit_part-next.result in
    let e = c.past-past.ensures.part ch.node ∙ ap (λ (z : Layout). k.child + nodes z) ch.is in
    let w = subst (λ (z : Value). Visited (at l k.child) z k.layouts mid k.child k.next next)
    c.field_at.ensures.value (subst (λ (z : Layout). Visited z y k.layouts mid k.child k.next next) ch.is
    c.visit_part-next.ensures) in
    fields_next c.past-past.result k.invariant lt e (λ id ms vs o os r. field_visited e w r)

pub visit_fields-overflow_add-i : goal.visit_fields-overflow_add-i
visit_fields-overflow_add-i t c =
    let f : c.loop-child.child < c.past-end.result = c.loop-child-test.true in
    omega (arith, c.loop-child.invariant.holds.passed, f, c.past-end.type_inv)

pub visit_fields-loop-child-smaller : goal.visit_fields-loop-child-smaller
visit_fields-loop-child-smaller t c =
    let l = c.args.layouts.now in
    let k = c.loop-child in
    let h = fields_here k.invariant c.loop-child-test.true in
    let ch : Child (noted_in k.layouts) (version_of k.layouts.version) k.child (at l k.child) =
    same_child h.holds.same (record { node = h.node; is = refl }) in
    omega (arith, c.past-past.ensures.part ch.node, ap (λ (z : Layout). nodes z) ch.is, h.past, h.grows)

pub visit_fields-returns : goal.visit_fields-returns
visit_fields-returns t c = fields_visited (fields_end c.loop-child.invariant c.loop-child-test.false)

pub visit_items-loop-i-init : goal.visit_items-loop-i-init
visit_items-loop-i-init t c =
    let l = c.args.layouts.now in
    items_unvisited (item_of (at l c.args.node)) (items_of (value_of_ref c.args.v)) l (c.args.node + 3)
    c.args.from c.requires.ready

pub visit_items-overflow_add-node : goal.visit_items-overflow_add-node
visit_items-overflow_add-node t c =
    let l = c.args.layouts.now in
    omega (
      arith,
      node_small l.version l.nodes.items (sub (tree_of l.nodes.items) c.args.node) c.args.node
          l.listing l.sound c.requires.node,
    )

pub visit_items-visit_part-next-requires : goal.visit_items-visit_part-next-requires
visit_items-visit_part-next-requires t c =
    let l = c.args.layouts.now in
    let n = c.args.node in
    let m = item_of (at l n) in
    let all = items_of (value_of_ref c.args.v) in
    let k = c.loop-i in
    let u = value_of_ref c.item.result in
    let lt : k.i < count all = omega (arith, c.len-n.ensures) in
    let e : u ≡ nth all k.i = c.item.ensures.value in
    let ch : Child (noted_in k.layouts) (version_of k.layouts.version) (n + 3) m = same_child
    k.invariant.holds.same (item_child (tree_of l.nodes.items) (version_of l.version) n c.requires.node
    c.requires.holder) in
    let h = items_here k.invariant lt in
    let r = item_ready h.form h.forms h.holds in (
      omega (
        arith,
        c.decreases,
        height_items (value_of_ref c.args.v)
            (row_is (value_of_ref c.args.v) c.requires.row),
        height_nth all k.i,
        ap height e,
      ),
      (
        ch.node,
        subst (λ (z : Layout). Ready z u k.next) (sym ch.is)
            (subst (λ (y : Value). Ready m y k.next) (sym e) r),
      ),
    )

pub visit_items-loop-i-preserved : goal.visit_items-loop-i-preserved
visit_items-loop-i-preserved t c =
    let l = c.args.layouts.now in
    let n = c.args.node in
    let m = item_of (at l n) in
    let all = items_of (value_of_ref c.args.v) in
    let k = c.loop-i in
    let u = value_of_ref c.item.result in
    let lt : k.i < count all = omega (arith, c.len-n.ensures) in
    let e : u ≡ nth all k.i = c.item.ensures.value in
    let ch : Child (noted_in k.layouts) (version_of k.layouts.version) (n + 3) m = same_child
    k.invariant.holds.same (item_child (tree_of l.nodes.items) (version_of l.version) n c.requires.node
    c.requires.holder) in
    let mid = c.visit_part-next.new.layouts in
    let next = c.visit_part-next.result in
    let w = subst (λ (y : Value). Visited m y k.layouts mid (n + 3) k.next next) e
    (subst (λ (z : Layout). Visited z u k.layouts mid (n + 3) k.next next) ch.is
    c.visit_part-next.ensures) in
    items_next k.invariant lt (λ vs o os r. item_visited o os w r)

pub visit_items-returns : goal.visit_items-returns
visit_items-returns t c =
    let e : c.loop-i.i ≡ count (items_of (value_of_ref c.args.v)) = omega (arith, c.len-n.ensures) in
    items_visited (items_end c.loop-i.invariant e)

pub visit_pairs-loop-i-init : goal.visit_pairs-loop-i-init
visit_pairs-loop-i-init t c =
    let l = c.args.layouts.now in
    items_unvisited (item_of (at l c.args.node)) (items_of (value_of_ref c.args.v)) l (c.args.node + 3)
    c.args.from c.requires.ready

pub visit_pairs-overflow_add-node : goal.visit_pairs-overflow_add-node
visit_pairs-overflow_add-node t c =
    let l = c.args.layouts.now in
    omega (
      arith,
      node_small l.version l.nodes.items (sub (tree_of l.nodes.items) c.args.node) c.args.node
          l.listing l.sound c.requires.node,
    )

pub visit_pairs-visit_pair-next-requires : goal.visit_pairs-visit_pair-next-requires
visit_pairs-visit_pair-next-requires t c =
    let l = c.args.layouts.now in
    let n = c.args.node in
    let m = item_of (at l n) in
    let all = items_of (value_of_ref c.args.v) in
    let k = c.loop-i in
    let u = pair (value_of_ref c.entry.result.0) (value_of_ref c.entry.result.1) in
    let lt : k.i < count all = omega (arith, c.len-n.ensures) in
    let e : u ≡ nth all k.i = sym c.entry.ensures.pair in
    let ch : Child (noted_in k.layouts) (version_of k.layouts.version) (n + 3) m = same_child
    k.invariant.holds.same (item_child (tree_of l.nodes.items) (version_of l.version) n c.requires.node
    c.requires.holder) in
    let h = items_here k.invariant lt in
    let r = item_ready h.form h.forms h.holds in (
      omega (
        arith,
        c.decreases,
        height_items (value_of_ref c.args.v)
            (map_is (value_of_ref c.args.v) c.requires.map),
        height_nth all k.i,
        ap height e,
      ),
      (
        ch.node,
        subst (λ (z : Layout). Ready z u k.next) (sym ch.is)
            (subst (λ (y : Value). Ready m y k.next) (sym e) r),
      ),
    )

pub visit_pairs-loop-i-preserved : goal.visit_pairs-loop-i-preserved
visit_pairs-loop-i-preserved t c =
    let l = c.args.layouts.now in
    let n = c.args.node in
    let m = item_of (at l n) in
    let all = items_of (value_of_ref c.args.v) in
    let k = c.loop-i in
    let u = pair (value_of_ref c.entry.result.0) (value_of_ref c.entry.result.1) in
    let lt : k.i < count all = omega (arith, c.len-n.ensures) in
    let e : u ≡ nth all k.i = sym c.entry.ensures.pair in
    let ch : Child (noted_in k.layouts) (version_of k.layouts.version) (n + 3) m = same_child
    k.invariant.holds.same (item_child (tree_of l.nodes.items) (version_of l.version) n c.requires.node
    c.requires.holder) in
    let mid = c.visit_pair-next.new.layouts in
    let next = c.visit_pair-next.result in
    let w = subst (λ (y : Value). Visited m y k.layouts mid (n + 3) k.next next) e
    (subst (λ (z : Layout). Visited z u k.layouts mid (n + 3) k.next next) ch.is
    c.visit_pair-next.ensures) in
    items_next k.invariant lt (λ vs o os r. item_visited o os w r)

pub visit_pairs-returns : goal.visit_pairs-returns
visit_pairs-returns t c =
    let e : c.loop-i.i ≡ count (items_of (value_of_ref c.args.v)) = omega (arith, c.len-n.ensures) in
    items_visited (items_end c.loop-i.invariant e)

pub visit_pair-overflow_add-first : goal.visit_pair-overflow_add-first
visit_pair-overflow_add-first t c =
    let l = c.args.layouts.now in
    omega (
      arith,
      node_small l.version l.nodes.items (sub (tree_of l.nodes.items) c.args.node) c.args.node
          l.listing l.sound c.requires.node,
    )

pub visit_pair-past-second-requires : goal.visit_pair-past-second-requires
visit_pair-past-second-requires t c =
    let l = c.args.layouts.now in
    let n = c.args.node in
    let u = pair (value_of_ref c.args.key) (value_of_ref c.args.value) in
    let start = fields_unvisited l n (n + 1) (n + nodes (at l n)) u c.args.from tt c.requires.node
    c.requires.ready refl refl in
    let some = fields_more start (omega arith) in
    let one = fields_here start some in
    number_of_part (noted_in l) (n + 1) one.node

pub visit_pair-visit_part-next-requires : goal.visit_pair-visit_part-next-requires
visit_pair-visit_part-next-requires t c =
    let l = c.args.layouts.now in
    let n = c.args.node in
    let u = pair (value_of_ref c.args.key) (value_of_ref c.args.value) in
    let start = fields_unvisited l n (n + 1) (n + nodes (at l n)) u c.args.from tt c.requires.node
    c.requires.ready refl refl in
    let some = fields_more start (omega arith) in
    let one = fields_here start some in
    (omega (arith, c.decreases), (one.node, field_ready one.form one.holds))

pub visit_pair-visit_part-requires : goal.visit_pair-visit_part-requires
visit_pair-visit_part-requires t c =
    let l = c.args.layouts.now in
    let n = c.args.node in
    let u = pair (value_of_ref c.args.key) (value_of_ref c.args.value) in
    let start = fields_unvisited l n (n + 1) (n + nodes (at l n)) u c.args.from tt c.requires.node
    c.requires.ready refl refl in
    let some = fields_more start (omega arith) in
    let one = fields_here start some in
    let mid = c.visit_part-next.new.layouts in
    let next = c.visit_part-next.result in
    let second = c.past-second.result in
    let e = c.past-second.ensures.part one.node in
    let later = fields_next second start some e
    (λ id ms vs o os r. field_visited e c.visit_part-next.ensures r) in
    let more = fields_more later (omega arith) in
    let two = fields_here later more in
    let ch : Child (noted_in mid) (version_of mid.version) second (at l second) = same_child two.holds.same
    (record {
      node = two.node;
      is = refl;
    }) in
    let value = value_of_ref c.args.value in (
      omega (arith, c.decreases),
      (
        ch.node,
        subst (λ (z : Layout). Ready z value next) (sym ch.is)
            (field_ready two.form two.holds),
      ),
    )

pub visit_pair-returns : goal.visit_pair-returns
visit_pair-returns t c =
    let l = c.args.layouts.now in
    let n = c.args.node in
    let u = pair (value_of_ref c.args.key) (value_of_ref c.args.value) in
    let start = fields_unvisited l n (n + 1) (n + nodes (at l n)) u c.args.from tt c.requires.node
    c.requires.ready refl refl in
    let some = fields_more start (omega arith) in
    let one = fields_here start some in
    let mid = c.visit_part-next.new.layouts in
    let next = c.visit_part-next.result in
    let second = c.past-second.result in
    let e = c.past-second.ensures.part one.node in
    let later = fields_next second start some e
    (λ id ms vs o os r. field_visited e c.visit_part-next.ensures r) in
    let more = fields_more later (omega arith) in
    let two = fields_here later more in
    let ch : Child (noted_in mid) (version_of mid.version) second (at l second) = same_child two.holds.same
    (record {
      node = two.node;
      is = refl;
    }) in
    let value = value_of_ref c.args.value in
    let w = subst (λ (z : Layout). Visited z value mid c.visit_part.new.layouts second next
    c.visit_part.result) ch.is c.visit_part.ensures in
    let last = fields_next (second + nodes (at l second)) later more refl
    (λ id ms vs o os r. field_visited refl w r) in
    fields_visited (fields_over last refl)

pub visit_part-note-requires : goal.visit_part-note-requires
visit_part-note-requires t c =
    let l = c.args.layouts.now in
    let v = version_of l.version in
    let a = at l c.args.node in
    let b = c.flag.result in
    let f = leaf_at a (value_of_ref c.args.v) (Truth b) c.args.from c.flag.ensures c.requires.ready in
    let e = c.need_unsigned.ensures.need
    ∙ flag_needs v (sub (tree_of l.nodes.items) c.args.node) f.kind f.code b f.is
    (subst (λ (y : Value). Of a y) c.flag.ensures c.requires.ready.form) in
    let le : c.need_unsigned.result ≤ greatest f.kind = omega (arith, e, f.fits) in
    leaf_tip v (noted_in l) c.args.node f.kind f.code c.need_unsigned.result c.requires.node f.is le

pub visit_part-note-requires-in-Int : goal.visit_part-note-requires-in-Int
visit_part-note-requires-in-Int t c =
    let l = c.args.layouts.now in
    let v = version_of l.version in
    let z = c.int.result in
    let f = integer_at (at l c.args.node) (value_of_ref c.args.v) z c.args.from c.int.ensures
    c.requires.ready in
    let fits : SFits w64 z = search rules in
    let e : c.need_of-need.result ≡ need f.code z = c.need_of-need.ensures f.kind f.code f.is
    ∙ ap (need f.code) (to_z-of_z w64 z fits) in
    let le : c.need_of-need.result ≤ greatest (Integer f.kind) = omega (arith, e, f.fits) in
    leaf_tip v (noted_in l) c.args.node (Integer f.kind) f.code c.need_of-need.result c.requires.node f.is le

pub visit_part-note_range-requires-clause-range : goal.visit_part-note_range-requires-clause-range
visit_part-note_range-requires-clause-range t c =
    let a = at c.args.layouts.now c.args.node in
    let bs = c.bytes.result.now in
    bytes_range a bs (bytes_at a (value_of_ref c.args.v) bs c.bytes.ensures c.requires.ready.form)

pub visit_part-note_range-requires-clause-fits : goal.visit_part-note_range-requires-clause-fits
visit_part-note_range-requires-clause-fits t c =
    let a = at c.args.layouts.now c.args.node in
    let u = value_of_ref c.args.v in
    let bs = c.bytes.result.now in
    let e = c.bytes.ensures in
    bytes_fit a u bs c.args.from (bytes_at a u bs e c.requires.ready.form) e c.requires.ready

pub visit_part-note_range-requires-in-List-clause-range : goal.visit_part-note_range-requires-in-List-clause-range
visit_part-note_range-requires-in-List-clause-range t c =
    let a = at c.args.layouts.now c.args.node in
    let u = value_of_ref c.args.v in
    let is = items_kind c.kind-kind.result u c.kind-kind.ensures.form c.in-List.is in
    (items_range a (items_of u) (items_at a u (items_of u) (items_form u is) c.requires.ready.form)).0

pub visit_part-note_range-requires-in-List-clause-fits : goal.visit_part-note_range-requires-in-List-clause-fits
visit_part-note_range-requires-in-List-clause-fits t c =
    let a = at c.args.layouts.now c.args.node in
    let u = value_of_ref c.args.v in
    let is = items_kind c.kind-kind.result u c.kind-kind.ensures.form c.in-List.is in
    let e = items_form u is in
    subst (λ z. RangeFits 32 32 z c.args.from) (sym c.len-n.ensures)
    (items_fit a u (items_of u) c.args.from (items_at a u (items_of u) e c.requires.ready.form) e
    c.requires.ready)

pub visit_part-block_len-block-requires-clause-node : goal.visit_part-block_len-block-requires-clause-node
visit_part-block_len-block-requires-clause-node t c =
    let l = c.args.layouts.now in
    let m = c.note_range-in-List.new.layouts in
    let ch : Child (noted_in m) (version_of m.version) c.args.node (at l c.args.node) = same_child
    c.note_range-in-List.ensures.same (record {
      node = c.requires.node;
      is = refl;
    }) in
    ch.node

pub visit_part-block_len-block-requires-clause-range : goal.visit_part-block_len-block-requires-clause-range
visit_part-block_len-block-requires-clause-range t c =
    let l = c.args.layouts.now in
    let m = c.note_range-in-List.new.layouts in
    let a = at l c.args.node in
    let u = value_of_ref c.args.v in
    let is = items_kind c.kind-kind.result u c.kind-kind.ensures.form c.in-List.is in
    let ch : Child (noted_in m) (version_of m.version) c.args.node a = same_child
    c.note_range-in-List.ensures.same (record {
      node = c.requires.node;
      is = refl;
    }) in
    subst (λ (x : Layout). IsRange x) (sym ch.is)
    (items_range a (items_of u) (items_at a u (items_of u) (items_form u is) c.requires.ready.form)).0

pub visit_part-block_len-block-requires-clause-few : goal.visit_part-block_len-block-requires-clause-few
visit_part-block_len-block-requires-clause-few t c =
    let a = at c.args.layouts.now c.args.node in
    let u = value_of_ref c.args.v in
    let is = items_kind c.kind-kind.result u c.kind-kind.ensures.form c.in-List.is in
    let k = items_at a u (items_of u) (items_form u is) c.requires.ready.form in
    omega (arith, k.few, c.len-n.ensures)

pub visit_part-visit_items-requires : goal.visit_part-visit_items-requires
visit_part-visit_items-requires t c =
    let l = c.args.layouts.now in
    let m = c.note_range-in-List.new.layouts in
    let a = at l c.args.node in
    let u = value_of_ref c.args.v in
    let vs = items_of u in
    let is = items_kind c.kind-kind.result u c.kind-kind.ensures.form c.in-List.is in
    let e = items_form u is in
    let k = items_at a u vs e c.requires.ready.form in
    let ch : Child (noted_in m) (version_of m.version) c.args.node a = same_child
    c.note_range-in-List.ensures.same (record {
      node = c.requires.node;
      is = refl;
    }) in
    let eb : c.block_len-block.result
    ≡ bytes_for (count vs * stride (item_of a)) = block_is (at m c.args.node) a vs c.len-n.result
    c.block_len-block.result ch.is (items_range a vs k).1 c.block_len-block.ensures
    c.len-n.ensures in (
      omega (arith, c.decreases),
      (
        ch.node,
        (
          subst (λ (x : Layout). IsHolder x) (sym ch.is) (items_range a vs k).1,
          (
            row_kind c.kind-kind.result u c.kind-kind.ensures.form c.in-List.is c.in_default.not-Map,
            subst
                (λ (x : Layout). EachReady (item_of x) vs c.block_len-block.result) (sym ch.is)
                (items_ready a u vs c.args.from c.block_len-block.result k e c.requires.ready eb),
          ),
        ),
      ),
    )

pub visit_part-visit_pairs-requires : goal.visit_part-visit_pairs-requires
visit_part-visit_pairs-requires t c =
    let l = c.args.layouts.now in
    let m = c.note_range-in-List.new.layouts in
    let a = at l c.args.node in
    let u = value_of_ref c.args.v in
    let vs = items_of u in
    let is = items_kind c.kind-kind.result u c.kind-kind.ensures.form c.in-List.is in
    let e = items_form u is in
    let k = items_at a u vs e c.requires.ready.form in
    let ch : Child (noted_in m) (version_of m.version) c.args.node a = same_child
    c.note_range-in-List.ensures.same (record {
      node = c.requires.node;
      is = refl;
    }) in
    let eb : c.block_len-block.result
    ≡ bytes_for (count vs * stride (item_of a)) = block_is (at m c.args.node) a vs c.len-n.result
    c.block_len-block.result ch.is (items_range a vs k).1 c.block_len-block.ensures
    c.len-n.ensures in (
      omega (arith, c.decreases),
      (
        ch.node,
        (
          subst (λ (x : Layout). IsHolder x) (sym ch.is) (items_range a vs k).1,
          (
            map_kind c.kind-kind.result u c.kind-kind.ensures.form c.in-Map.is,
            subst
                (λ (x : Layout). EachReady (item_of x) vs c.block_len-block.result) (sym ch.is)
                (items_ready a u vs c.args.from c.block_len-block.result k e c.requires.ready eb),
          ),
        ),
      ),
    )

pub visit_part-overflow_add-result-in_default : goal.visit_part-overflow_add-result-in_default
visit_part-overflow_add-result-in_default t c =
    let l = c.args.layouts.now in
    let m = c.note_range-in-List.new.layouts in
    let a = at l c.args.node in
    let u = value_of_ref c.args.v in
    let vs = items_of u in
    let is = items_kind c.kind-kind.result u c.kind-kind.ensures.form c.in-List.is in
    let e = items_form u is in
    let k = items_at a u vs e c.requires.ready.form in
    let ch : Child (noted_in m) (version_of m.version) c.args.node a = same_child
    c.note_range-in-List.ensures.same (record {
      node = c.requires.node;
      is = refl;
    }) in
    let eb : c.block_len-block.result
    ≡ bytes_for (count vs * stride (item_of a)) = block_is (at m c.args.node) a vs c.len-n.result
    c.block_len-block.result ch.is (items_range a vs k).1 c.block_len-block.ensures
    c.len-n.ensures in
    let r = c.visit_items in
    let w = subst (λ (x : Layout). EachVisited (item_of x) vs m r.new.layouts (c.args.node + 3)
    c.block_len-block.result r.result) ch.is r.ensures in
    omega (
      arith,
      items_end_at a u vs c.args.from c.block_len-block.result r.result m r.new.layouts
          (c.args.node + 3) k e c.requires.ready eb w,
    )

pub visit_part-overflow_add-result-in-Map : goal.visit_part-overflow_add-result-in-Map
visit_part-overflow_add-result-in-Map t c =
    let l = c.args.layouts.now in
    let m = c.note_range-in-List.new.layouts in
    let a = at l c.args.node in
    let u = value_of_ref c.args.v in
    let vs = items_of u in
    let is = items_kind c.kind-kind.result u c.kind-kind.ensures.form c.in-List.is in
    let e = items_form u is in
    let k = items_at a u vs e c.requires.ready.form in
    let ch : Child (noted_in m) (version_of m.version) c.args.node a = same_child
    c.note_range-in-List.ensures.same (record {
      node = c.requires.node;
      is = refl;
    }) in
    let eb : c.block_len-block.result
    ≡ bytes_for (count vs * stride (item_of a)) = block_is (at m c.args.node) a vs c.len-n.result
    c.block_len-block.result ch.is (items_range a vs k).1 c.block_len-block.ensures
    c.len-n.ensures in
    let r = c.visit_pairs in
    let w = subst (λ (x : Layout). EachVisited (item_of x) vs m r.new.layouts (c.args.node + 3)
    c.block_len-block.result r.result) ch.is r.ensures in
    omega (
      arith,
      items_end_at a u vs c.args.from c.block_len-block.result r.result m r.new.layouts
          (c.args.node + 3) k e c.requires.ready eb w,
    )

pub visit_part-overflow_add-node : goal.visit_part-overflow_add-node
visit_part-overflow_add-node t c =
    let l = c.args.layouts.now in
    omega (
      arith,
      node_small l.version l.nodes.items (sub (tree_of l.nodes.items) c.args.node) c.args.node
          l.listing l.sound c.requires.node,
    )

pub visit_part-note-requires-in-Present : goal.visit_part-note-requires-in-Present
visit_part-note-requires-in-Present t c =
    let l = c.args.layouts.now in
    flag_here l c.args.node (value_of_ref c.args.v) c.args.from c.requires.node c.in-Present.ensures.form
    c.requires.ready

pub visit_part-overflow_add-node-in-Present : goal.visit_part-overflow_add-node-in-Present
visit_part-overflow_add-node-in-Present t c =
    let l = c.args.layouts.now in
    omega (
      arith,
      node_small l.version l.nodes.items (sub (tree_of l.nodes.items) c.args.node) c.args.node
          l.listing l.sound c.requires.node,
    )

pub visit_part-visit_part-requires : goal.visit_part-visit_part-requires
visit_part-visit_part-requires t c =
    let l = c.args.layouts.now in
    let m = c.note-in-Present.new.self in
    let f = c.note-in-Present.ensures in
    let x = value_of_ref c.inner.result in
    let u = value_of_ref c.args.v in
    let p = present_at (at l c.args.node) u x c.inner.ensures.value c.requires.ready.form in
    let s : Same l m = record { layout = f.layout } in
    let ch : Child (noted_in m) (version_of m.version) (c.args.node + 2) p.inner = same_child s
    (inner_child (noted_in l) (version_of l.version) c.args.node p.width p.inner c.requires.node p.is) in (
      omega (arith, c.decreases, ap height c.inner.ensures.value),
      (
        ch.node,
        subst (λ (z : Layout). Ready z x c.args.from) (sym ch.is)
            (inner_ready (at l c.args.node) u x c.args.from p c.inner.ensures.value c.requires.ready),
      ),
    )

pub visit_part-returns-in-Flag : goal.visit_part-returns-in-Flag
visit_part-returns-in-Flag t c =
    let l = c.args.layouts.now in
    let v = version_of l.version in
    let a = at l c.args.node in
    let b = c.flag.result in
    let f = leaf_at a (value_of_ref c.args.v) (Truth b) c.args.from c.flag.ensures c.requires.ready in
    let e = c.need_unsigned.ensures.need
    ∙ flag_needs v (sub (tree_of l.nodes.items) c.args.node) f.kind f.code b f.is
    (subst (λ (y : Value). Of a y) c.flag.ensures c.requires.ready.form) in
    let le : c.need_unsigned.result ≤ greatest f.kind = omega (arith, e, f.fits) in
    let n = c.note.ensures in
    visited_leaf a (value_of_ref c.args.v) f.kind f.code (Truth b) c.need_unsigned.result l c.note.new.self
    c.args.node c.args.from f.is c.flag.ensures e le n.noted (record { layout = n.layout })

pub visit_part-returns-in-Int : goal.visit_part-returns-in-Int
visit_part-returns-in-Int t c =
    let l = c.args.layouts.now in
    let v = version_of l.version in
    let a = at l c.args.node in
    let z = c.int.result in
    let f = integer_at a (value_of_ref c.args.v) z c.args.from c.int.ensures c.requires.ready in
    let fits : SFits w64 z = search rules in
    let e : c.need_of-need.result ≡ need f.code z = c.need_of-need.ensures f.kind f.code f.is
    ∙ ap (need f.code) (to_z-of_z w64 z fits) in
    let le : c.need_of-need.result ≤ greatest (Integer f.kind) = omega (arith, e, f.fits) in
    let n = c.note-in-Int.ensures in
    visited_leaf a (value_of_ref c.args.v) (Integer f.kind) f.code (Number z) c.need_of-need.result l
    c.note-in-Int.new.self c.args.node c.args.from f.is c.int.ensures e le n.noted
    (record { layout = n.layout })

pub visit_part-returns-in-Text : goal.visit_part-returns-in-Text
visit_part-returns-in-Text t c =
    let l = c.args.layouts.now in
    let a = at l c.args.node in
    let u = value_of_ref c.args.v in
    let bs = c.bytes.result.now in
    let k = bytes_at a u bs c.bytes.ensures c.requires.ready.form in
    visited_bytes a u bs l c.note_range.new.layouts c.args.node c.args.from _ c.bytes.ensures k refl
    c.note_range.ensures

pub visit_part-returns-in_default : goal.visit_part-returns-in_default
visit_part-returns-in_default t c =
    let l = c.args.layouts.now in
    let m = c.note_range-in-List.new.layouts in
    let a = at l c.args.node in
    let u = value_of_ref c.args.v in
    let vs = items_of u in
    let is = items_kind c.kind-kind.result u c.kind-kind.ensures.form c.in-List.is in
    let e = items_form u is in
    let k = items_at a u vs e c.requires.ready.form in
    let ch : Child (noted_in m) (version_of m.version) c.args.node a = same_child
    c.note_range-in-List.ensures.same (record {
      node = c.requires.node;
      is = refl;
    }) in
    let eb : c.block_len-block.result
    ≡ bytes_for (count vs * stride (item_of a)) = block_is (at m c.args.node) a vs c.len-n.result
    c.block_len-block.result ch.is (items_range a vs k).1 c.block_len-block.ensures
    c.len-n.ensures in
    let r = c.visit_items in
    let w = subst (λ (x : Layout). EachVisited (item_of x) vs m r.new.layouts (c.args.node + 3)
    c.block_len-block.result r.result) ch.is r.ensures in
    visited_items a u vs l m r.new.layouts c.args.node c.args.from c.len-n.result c.block_len-block.result
    r.result e k c.len-n.ensures eb c.note_range-in-List.ensures w

pub visit_part-returns-in-Map : goal.visit_part-returns-in-Map
visit_part-returns-in-Map t c =
    let l = c.args.layouts.now in
    let m = c.note_range-in-List.new.layouts in
    let a = at l c.args.node in
    let u = value_of_ref c.args.v in
    let vs = items_of u in
    let is = items_kind c.kind-kind.result u c.kind-kind.ensures.form c.in-List.is in
    let e = items_form u is in
    let k = items_at a u vs e c.requires.ready.form in
    let ch : Child (noted_in m) (version_of m.version) c.args.node a = same_child
    c.note_range-in-List.ensures.same (record {
      node = c.requires.node;
      is = refl;
    }) in
    let eb : c.block_len-block.result
    ≡ bytes_for (count vs * stride (item_of a)) = block_is (at m c.args.node) a vs c.len-n.result
    c.block_len-block.result ch.is (items_range a vs k).1 c.block_len-block.ensures
    c.len-n.ensures in
    let r = c.visit_pairs in
    let w = subst (λ (x : Layout). EachVisited (item_of x) vs m r.new.layouts (c.args.node + 3)
    c.block_len-block.result r.result) ch.is r.ensures in
    visited_items a u vs l m r.new.layouts c.args.node c.args.from c.len-n.result c.block_len-block.result
    r.result e k c.len-n.ensures eb c.note_range-in-List.ensures w

pub visit_part-returns-in-Absent : goal.visit_part-returns-in-Absent
visit_part-returns-in-Absent t c = visited_absent (at c.args.layouts.now c.args.node) (value_of_ref c.args.v)
    c.args.layouts.now c.args.node c.args.from c.in-Absent.ensures.form c.requires.ready.form

pub visit_part-returns-in-Present : goal.visit_part-returns-in-Present
visit_part-returns-in-Present t c =
    let l = c.args.layouts.now in
    let m = c.note-in-Present.new.self in
    let f = c.note-in-Present.ensures in
    let x = value_of_ref c.inner.result in
    let u = value_of_ref c.args.v in
    let r = c.visit_part in
    let p = present_at (at l c.args.node) u x c.inner.ensures.value c.requires.ready.form in
    let s : Same l m = record { layout = f.layout } in
    let ch : Child (noted_in m) (version_of m.version) (c.args.node + 2) p.inner = same_child s
    (inner_child (noted_in l) (version_of l.version) c.args.node p.width p.inner c.requires.node p.is) in
    let w = subst (λ (z : Layout). Visited z x m r.new.layouts (c.args.node + 2) c.args.from r.result) ch.is
    r.ensures in
    visited_present (at l c.args.node) u x p.width p.inner l m r.new.layouts c.args.node c.args.from r.result p.is
    c.inner.ensures.value f.noted s w
