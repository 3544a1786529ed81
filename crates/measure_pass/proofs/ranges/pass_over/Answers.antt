use Rattle.std.proofs.Common.{arith, ◌≡◌, ◌+◌, ◌/◌, ◌<◌, true, false, length, take, drop, refl, ap, sym, ◌∙◌}
use Rattle.std.proofs.Common.{subst}
use Rattle.frozen_model.specs.Layouts.{stride, Described, described}
use Rattle.frozen_model.specs.Packing.{bytes_for}
use Rattle.layout_tree.specs.Nodes.{layout_of, noted_in}
use Rattle.layout_tree.proofs.Children.{root_node}
use Rattle.measure_pass.specs.Growing.{passed}
use Rattle.measure_pass.specs.Spots.{listed, Runnable, run, ran}
use Rattle.measure_pass.proofs.Whole.{root_at}
use Rattle.measure_pass.proofs.Within.{small_whole}
use Rattle.measure_pass.proofs.Overall.{start_runnable, some_first, finished, put_back}
use Rattle.measure_pass.proofs.ranges.pass_over.Goals as goal

pub bits-requires : goal.bits-requires
bits-requires g c = root_node (noted_in c.args.layouts.now)

pub run_ranges-end-requires-clause-some : goal.run_ranges-end-requires-clause-some
run_ranges-end-requires-clause-some g c =
    let s = c.requires.value in
    subst (λ r. 0 < length r) (sym c.deref_mut.ensures.value)
    (some_first (layout_of c.args.layouts.now).tree (listed c.args.ranges.now) s.value s.are)

pub run_ranges-end-requires-clause-runnable : goal.run_ranges-end-requires-clause-runnable
run_ranges-end-requires-clause-runnable g c =
    let l = c.args.layouts.now in
    let es : c.bits.result ≡ stride (layout_of l).tree = c.bits.ensures.bits ∙ ap stride (root_at l) in
    let first = (c.bits.result + 7) / 8 in
    let e : first ≡ bytes_for (stride (layout_of l).tree) = ap (λ z. (z + 7) / 8) es in
    let s = c.requires.value in
    let small = small_whole (layout_of l) s.value s.are.form s.are.few c.layouts_are_described.ensures.bits in
    subst (λ r. Runnable (layout_of l).tree (take 1 r) first (drop 1 r)) (sym c.deref_mut.ensures.value)
    (start_runnable (layout_of l).tree (listed c.args.ranges.now) s.value first small e s.are)

pub returns-then-is_settled-clause-passed : goal.returns-then-is_settled-clause-passed
returns-then-is_settled-clause-passed g c v a =
    let l = c.args.layouts.now in
    let es : c.bits.result ≡ stride (layout_of l).tree = c.bits.ensures.bits ∙ ap stride (root_at l) in
    let first = (c.bits.result + 7) / 8 in
    let e : first ≡ bytes_for (stride (layout_of l).tree) = ap (λ z. (z + 7) / 8) es in
    let mid = c.run_ranges-end.new.layouts in
    let small = small_whole (layout_of l) v a.form a.few c.layouts_are_described.ensures.bits in
    let tree = (layout_of l).tree in
    let ran_on = subst (λ r. run tree (take 1 r) first (noted_in l) (drop 1 r)
    ≡ ran c.run_ranges-end.new.spots c.run_ranges-end.result (noted_in mid)) c.deref_mut.ensures.value
    c.run_ranges-end.ensures.ran in
    let f = finished l mid (listed c.args.ranges.now) c.run_ranges-end.new.spots v first
    c.run_ranges-end.result c.requires.settled small e a c.run_ranges-end.ensures.same ran_on in
    let back = put_back (listed c.args.ranges.now) c.run_ranges-end.new.spots c.args.ranges.now.spots.len
    (c.run_ranges-end.auto.spots ∙ ap length c.deref_mut.ensures.value)
    (omega (arith, c.args.ranges.now.spots.ok.0)) in
    let r = c.is_settled.ensures.0 c.if-is_settled.true in
    record {
      layout = sym r ∙ f.passes;
      starts = back ∙ f.placed;
      rested = (
        λ h. ap (λ (d : Described). d.tree) (sym f.passes ∙ r ∙ c.run_ranges-end.ensures.same.layout),
        λ h. refl,
      );
    }

pub returns-clause-passed : goal.returns-clause-passed
returns-clause-passed g c v a =
    let l = c.args.layouts.now in
    let es : c.bits.result ≡ stride (layout_of l).tree = c.bits.ensures.bits ∙ ap stride (root_at l) in
    let first = (c.bits.result + 7) / 8 in
    let e : first ≡ bytes_for (stride (layout_of l).tree) = ap (λ z. (z + 7) / 8) es in
    let mid = c.run_ranges-end.new.layouts in
    let small = small_whole (layout_of l) v a.form a.few c.layouts_are_described.ensures.bits in
    let tree = (layout_of l).tree in
    let ran_on = subst (λ r. run tree (take 1 r) first (noted_in l) (drop 1 r)
    ≡ ran c.run_ranges-end.new.spots c.run_ranges-end.result (noted_in mid)) c.deref_mut.ensures.value
    c.run_ranges-end.ensures.ran in
    let f = finished l mid (listed c.args.ranges.now) c.run_ranges-end.new.spots v first
    c.run_ranges-end.result c.requires.settled small e a c.run_ranges-end.ensures.same ran_on in
    let back = put_back (listed c.args.ranges.now) c.run_ranges-end.new.spots c.args.ranges.now.spots.len
    (c.run_ranges-end.auto.spots ∙ ap length c.deref_mut.ensures.value)
    (omega (arith, c.args.ranges.now.spots.ok.0)) in
    let no : c.is_settled.result ≡ false = c.if-is_settled.false in
    record {
      layout = c.settle.ensures.layout ∙ f.passes;
      starts = back ∙ f.placed;
      rested = (
        λ h. absurd cc,
        λ h.
            let same : passed (layout_of l) v
            ≡ layout_of l = ap (λ x. described (layout_of l).version (layout_of l).relaxed x) h in
            let y = c.is_settled.ensures.1 (f.passes ∙ same ∙ sym c.run_ranges-end.ensures.same.layout) in
            let z : true ≡ false = sym y ∙ no in absurd cc,
      );
    }

pub returns-then-is_settled-clause-ends : goal.returns-then-is_settled-clause-ends
returns-then-is_settled-clause-ends g c v a =
    let l = c.args.layouts.now in
    let es : c.bits.result ≡ stride (layout_of l).tree = c.bits.ensures.bits ∙ ap stride (root_at l) in
    let first = (c.bits.result + 7) / 8 in
    let e : first ≡ bytes_for (stride (layout_of l).tree) = ap (λ z. (z + 7) / 8) es in
    let mid = c.run_ranges-end.new.layouts in
    let small = small_whole (layout_of l) v a.form a.few c.layouts_are_described.ensures.bits in
    let tree = (layout_of l).tree in
    let ran_on = subst (λ r. run tree (take 1 r) first (noted_in l) (drop 1 r)
    ≡ ran c.run_ranges-end.new.spots c.run_ranges-end.result (noted_in mid)) c.deref_mut.ensures.value
    c.run_ranges-end.ensures.ran in
    (finished l mid (listed c.args.ranges.now) c.run_ranges-end.new.spots v first c.run_ranges-end.result
    c.requires.settled small e a c.run_ranges-end.ensures.same ran_on).ends

pub returns-clause-ends : goal.returns-clause-ends
returns-clause-ends g c v a =
    let l = c.args.layouts.now in
    let es : c.bits.result ≡ stride (layout_of l).tree = c.bits.ensures.bits ∙ ap stride (root_at l) in
    let first = (c.bits.result + 7) / 8 in
    let e : first ≡ bytes_for (stride (layout_of l).tree) = ap (λ z. (z + 7) / 8) es in
    let mid = c.run_ranges-end.new.layouts in
    let small = small_whole (layout_of l) v a.form a.few c.layouts_are_described.ensures.bits in
    let tree = (layout_of l).tree in
    let ran_on = subst (λ r. run tree (take 1 r) first (noted_in l) (drop 1 r)
    ≡ ran c.run_ranges-end.new.spots c.run_ranges-end.result (noted_in mid)) c.deref_mut.ensures.value
    c.run_ranges-end.ensures.ran in
    (finished l mid (listed c.args.ranges.now) c.run_ranges-end.new.spots v first c.run_ranges-end.result
    c.requires.settled small e a c.run_ranges-end.ensures.same ran_on).ends
