use Rattle.std.proofs.Common.{arith, ap, ◌∙◌}
use Rattle.frozen_model.specs.Layouts.{Layout, described}
use Rattle.layout_tree.specs.Listing.{tree_of, layout_in, version_of}
use Rattle.layout_tree.proofs.Noted.{notes, leaf_in, noted_layout}
use Rattle.layout_tree.proofs.layouts.Layouts.widen.Goals as goal

pub index_mut-requires : goal.index_mut-requires
index_mut-requires c =
    let l = c.args.self.now in
    omega (arith, l.nodes.ok.0, leaf_in l.nodes.items c.args.node c.args.width l.listing c.requires)

pub invariant_of-self : goal.invariant_of-self
invariant_of-self c =
    let l = c.args.self.now in
    let n = notes l.version l.nodes.items c.args.node c.args.width c.index_mut.result.now l.listing l.sound
    c.requires c.index_mut.ensures.value in
    record { listing = n.listing; sound = n.sound; relaxing = l.relaxing }

pub returns-clause-noted : goal.returns-clause-noted
returns-clause-noted c =
    let l = c.args.self.now in
    (notes l.version l.nodes.items c.args.node c.args.width c.index_mut.result.now l.listing l.sound
    c.requires c.index_mut.ensures.value).tells

pub returns-clause-layout : goal.returns-clause-layout
returns-clause-layout c =
    let l = c.args.self.now in
    let v = version_of l.version in
    ap (λ (m : Layout). described v l.relaxed m)
    (ap (layout_in v) (notes l.version l.nodes.items c.args.node c.args.width c.index_mut.result.now
    l.listing l.sound c.requires c.index_mut.ensures.value).tells
    ∙ noted_layout v (tree_of l.nodes.items) c.args.node c.args.width c.requires)
