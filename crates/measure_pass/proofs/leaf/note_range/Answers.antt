use Rattle.std.proofs.Common.{◌≡◌, ◌≤◌, arith, refl, ap, sym, subst}
use Rattle.frozen_model.specs.Bits.{digits}
use Rattle.frozen_model.specs.Layouts.{Layout}
use Rattle.frozen_model.specs.Packing.{distance}
use Rattle.layout_tree.specs.Nodes.{at, noted_in}
use Rattle.layout_tree.specs.Reading.{IsRange}
use Rattle.layout_tree.specs.Listing.{sub, tree_of, version_of}
use Rattle.layout_tree.proofs.Children.{Child, node_small}
use Rattle.measure_pass.specs.Growing.{Same}
use Rattle.measure_pass.proofs.Arms.{distance_tip, count_tip, range_grew, distance_none, distance_some}
use Rattle.measure_pass.proofs.Stays.{same_chain, same_child}
use Rattle.measure_pass.proofs.leaf.note_range.Goals as goal
use Rattle.measure_pass.proofs.leaf.note_range.Goals.{then-n-eq0, else-n-eq0}

pub overflow_add-node : goal.overflow_add-node
overflow_add-node c =
    let l = c.args.layouts.now in
    omega (
      arith,
      node_small l.version l.nodes.items (sub (tree_of l.nodes.items) c.args.node) c.args.node
          l.listing l.sound c.requires.node,
    )

pub note-requires : goal.note-requires
note-requires c =
    let l = c.args.layouts.now in
    let gap = distance c.args.n c.args.from in
    let e : c.if-n-eq0.distance ≡ gap =
    elim c.if-n-eq0.branch [
      | then-n-eq0 w ↦ distance_none c.args.n c.args.from _ w.if-n-eq0.true
          w.distance-is
      | else-n-eq0 w ↦ distance_some c.args.n c.args.from _ w.if-n-eq0.false
          w.distance-is
    ] in
    let h : c.need_unsigned.result ≤ 32 = omega
    (arith, c.requires.fits.0, c.need_unsigned.ensures.need, ap digits e) in
    distance_tip (version_of l.version) (noted_in l) c.args.node c.need_unsigned.result c.requires.node
    c.requires.range h

pub overflow_add-node-2 : goal.overflow_add-node-2
overflow_add-node-2 c =
    let l = c.args.layouts.now in
    omega (
      arith,
      node_small l.version l.nodes.items (sub (tree_of l.nodes.items) c.args.node) c.args.node
          l.listing l.sound c.requires.node,
    )

pub note-requires-2 : goal.note-requires-2
note-requires-2 c =
    let l = c.args.layouts.now in
    let m = c.note.new.self in
    let f = c.note.ensures in
    let s : Same l m = record { layout = f.layout } in
    let ch : Child (noted_in m) (version_of m.version) c.args.node (at l c.args.node) = same_child s (record {
      node = c.requires.node;
      is = refl;
    }) in
    let h : c.need_unsigned-2.result
    ≤ 32 = omega (arith, c.requires.fits.1, c.need_unsigned-2.ensures.need) in
    count_tip (version_of m.version) (noted_in m) c.args.node c.need_unsigned-2.result ch.node
    (subst (λ (x : Layout). IsRange x) (sym ch.is) c.requires.range) h

pub returns : goal.returns
returns c =
    let l = c.args.layouts.now in
    let m = c.note.new.self in
    let k = c.note-2.new.self in
    let f = c.note.ensures in
    let g = c.note-2.ensures in
    let s : Same l m = record { layout = f.layout } in
    let r : Same m k = record { layout = g.layout } in
    let gap = distance c.args.n c.args.from in
    let e : c.if-n-eq0.distance ≡ gap =
    elim c.if-n-eq0.branch [
      | then-n-eq0 w ↦ distance_none c.args.n c.args.from _ w.if-n-eq0.true
          w.distance-is
      | else-n-eq0 w ↦ distance_some c.args.n c.args.from _ w.if-n-eq0.false
          w.distance-is
    ] in
    let h : c.need_unsigned.result ≤ 32 = omega
    (arith, c.requires.fits.0, c.need_unsigned.ensures.need, ap digits e) in
    let i : c.need_unsigned-2.result
    ≤ 32 = omega (arith, c.requires.fits.1, c.need_unsigned-2.ensures.need) in
    record {
      same = same_chain s r;
      grew = range_grew (version_of l.version) (at l c.args.node) c.if-n-eq0.distance c.args.n c.args.from
          c.need_unsigned.result c.need_unsigned-2.result (noted_in l) (noted_in m) (noted_in k) c.args.node
          c.requires.range e
          c.need_unsigned.ensures.need c.need_unsigned-2.ensures.need h i f.noted g.noted;
    }
