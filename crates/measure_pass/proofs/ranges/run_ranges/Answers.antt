use Rattle.std.proofs.Common.{◌≡◌, ◌<◌, ◌≤◌, ◌+◌, ◌-◌, ◌^◌, get_or, slice_set, arith, refl, ap, sym, ◌∙◌}
use Rattle.std.proofs.Common.{subst}
use Rattle.frozen_model.specs.Bits.{digits}
use Rattle.frozen_model.specs.Layouts.{Layout}
use Rattle.frozen_model.proofs.Digits.{digits_within}
use Rattle.layout_tree.specs.Nodes.{noted_in, layout_of}
use Rattle.layout_tree.specs.Reading.{IsRange}
use Rattle.layout_tree.specs.Listing.{sub, version_of}
use Rattle.layout_tree.proofs.Children.{node_small}
use Rattle.measure_pass.specs.Growing.{Same}
use Rattle.measure_pass.specs.Spots.{spot, block_bytes, noting_at}
use Rattle.measure_pass.proofs.Arms.{distance_tip}
use Rattle.measure_pass.proofs.Ranging.{run_step}
use Rattle.measure_pass.proofs.ranges.run_ranges.Goals as goal

pub block_of-len-requires-clause-node : goal.block_of-len-requires-clause-node
block_of-len-requires-clause-node c =
    let k = c.loop-k in
    (run_step c.args.layouts.now k.layouts c.args.spots.now k.spots c.args.first k.at k.k k.invariant
    c.loop-k-test.true (spot 0 0 0 0)).node.node

pub block_of-len-requires-clause-range : goal.block_of-len-requires-clause-range
block_of-len-requires-clause-range c =
    let k = c.loop-k in
    let st = run_step c.args.layouts.now k.layouts c.args.spots.now k.spots c.args.first k.at k.k k.invariant
    c.loop-k-test.true (spot 0 0 0 0) in
    subst (λ (x : Layout). IsRange x) (sym st.node.is) st.item_range

pub overflow_add-here : goal.overflow_add-here
overflow_add-here c =
    let k = c.loop-k in
    let l = k.layouts in
    let st = run_step c.args.layouts.now l c.args.spots.now k.spots c.args.first k.at k.k k.invariant
    c.loop-k-test.true (spot 0 0 0 0) in
    omega (arith, node_small l.version l.nodes.items _ _ l.listing l.sound st.node.node)

pub note-requires : goal.note-requires
note-requires c =
    let k = c.loop-k in
    let l = k.layouts in
    let st = run_step c.args.layouts.now l c.args.spots.now k.spots c.args.first k.at k.k k.invariant
    c.loop-k-test.true (spot 0 0 0 0) in
    let e = c.need_unsigned.ensures.need ∙ ap (λ z. digits (k.at - z)) (st.starts (spot 0 0 0 0)) in
    let lt : k.at - st.start < 2 ^ 32 = omega (arith, k.invariant.small) in
    let h : c.need_unsigned.result ≤ 32 = omega (arith, e, digits_within (k.at - st.start) 32 lt) in
    distance_tip (version_of l.version) (noted_in l) _ c.need_unsigned.result st.node.node
    (subst (λ (x : Layout). IsRange x) (sym st.node.is) st.item_range) h

pub overflow_add-at : goal.overflow_add-at
overflow_add-at c =
    let k = c.loop-k in
    let l = k.layouts in
    let st = run_step c.args.layouts.now l c.args.spots.now k.spots c.args.first k.at k.k k.invariant
    c.loop-k-test.true (spot 0 0 0 0) in
    let d = get_or k.spots k.k (spot 0 0 0 0) in
    let e : c.block_of-len.result ≡ block_bytes (sub (layout_of c.args.layouts.now).tree d.node)
    d.count = c.block_of-len.ensures ∙ ap (λ (x : Layout). block_bytes x d.count) st.node.is in
    omega (arith, st.room, e)

pub loop-k-preserved : goal.loop-k-preserved
loop-k-preserved c =
    let k = c.loop-k in
    let l = k.layouts in
    let st = run_step c.args.layouts.now l c.args.spots.now k.spots c.args.first k.at k.k k.invariant
    c.loop-k-test.true (spot 0 0 0 0) in
    let e = c.need_unsigned.ensures.need ∙ ap (λ z. digits (k.at - z)) (st.starts (spot 0 0 0 0)) in
    let n = c.note.ensures in
    let s : Same l c.note.new.self = record { layout = n.layout } in
    let d = get_or k.spots k.k (spot 0 0 0 0) in
    let eb : c.block_of-len.result ≡ block_bytes (sub (layout_of c.args.layouts.now).tree d.node)
    d.count = c.block_of-len.ensures ∙ ap (λ (x : Layout). block_bytes x d.count) st.node.is in
    st.next c.note.new.self (slice_set k.spots k.k (spot d.node d.count d.parent k.at))
    (k.at + c.block_of-len.result) (k.k + 1) s
    (n.noted ∙ ap (λ w. noting_at (noted_in l) (d.node + 1) w) e) refl (ap (λ z. k.at + z) eb) refl
