use Rattle.std.proofs.Common.{arith, ap, sym, ◌∙◌, length}
use Rattle.frozen_model.specs.Layouts.{Layout, described}
use Rattle.layout_tree.specs.Listing.{tree_of, settled, layout_in, version_of}
use Rattle.layout_tree.proofs.Settled.{whole_segment, settles, settled_twice}
use Rattle.layout_tree.proofs.layouts.Layouts.settle.Goals as goal

pub settle_part-requires : goal.settle_part-requires
settle_part-requires c =
    let l = c.args.self.now in
    whole_segment l.version l.nodes.items c.deref_mut.result.now c.deref_mut.ensures.value l.listing l.sound

pub invariant_of-self : goal.invariant_of-self
invariant_of-self c =
    let l = c.args.self.now in
    let ns = l.nodes.items in
    let xs = c.deref_mut.result.now in
    let s = settles l.version ns xs c.settle_part.new.nodes l.nodes.len c.settle_part.result
    c.deref_mut.ensures.value l.listing l.sound (omega (arith, l.nodes.ok.0))
    (omega (arith, c.settle_part.auto.nodes, ap length c.deref_mut.ensures.value))
    (c.settle_part.ensures (whole_segment l.version ns xs c.deref_mut.ensures.value l.listing l.sound)) in
    record { listing = s.listing; sound = s.sound; relaxing = l.relaxing }

pub returns-clause-layout : goal.returns-clause-layout
returns-clause-layout c =
    let l = c.args.self.now in
    let ns = l.nodes.items in
    let xs = c.deref_mut.result.now in
    let s = settles l.version ns xs c.settle_part.new.nodes l.nodes.len c.settle_part.result
    c.deref_mut.ensures.value l.listing l.sound (omega (arith, l.nodes.ok.0))
    (omega (arith, c.settle_part.auto.nodes, ap length c.deref_mut.ensures.value))
    (c.settle_part.ensures (whole_segment l.version ns xs c.deref_mut.ensures.value l.listing l.sound)) in
    ap (λ (m : Layout). described (version_of l.version) l.relaxed m)
    (ap (layout_in (version_of l.version)) s.tells)

pub returns-clause-settled : goal.returns-clause-settled
returns-clause-settled c =
    let l = c.args.self.now in
    let ns = l.nodes.items in
    let xs = c.deref_mut.result.now in
    let s = settles l.version ns xs c.settle_part.new.nodes l.nodes.len c.settle_part.result
    c.deref_mut.ensures.value l.listing l.sound (omega (arith, l.nodes.ok.0))
    (omega (arith, c.settle_part.auto.nodes, ap length c.deref_mut.ensures.value))
    (c.settle_part.ensures (whole_segment l.version ns xs c.deref_mut.ensures.value l.listing l.sound)) in
    let twice = ap settled s.tells ∙ settled_twice (tree_of ns) ∙ sym s.tells in
    ap (λ (m : Layout). described (version_of l.version) l.relaxed m)
    (ap (layout_in (version_of l.version)) twice)

pub returns-clause-noted : goal.returns-clause-noted
returns-clause-noted c =
    let l = c.args.self.now in
    let ns = l.nodes.items in
    let xs = c.deref_mut.result.now in
    (settles l.version ns xs c.settle_part.new.nodes l.nodes.len c.settle_part.result
    c.deref_mut.ensures.value l.listing l.sound (omega (arith, l.nodes.ok.0))
    (omega (arith, c.settle_part.auto.nodes, ap length c.deref_mut.ensures.value))
    (c.settle_part.ensures (whole_segment l.version ns xs c.deref_mut.ensures.value l.listing l.sound))).tells
