use Rattle.std.proofs.Common.{arith, ap, ◌∙◌}
use Rattle.layout_tree.specs.Listing.{tree_of, sub, layout_in, version_of}
use Rattle.layout_tree.proofs.Place.{at_part}
use Rattle.layout_tree.proofs.Readings.{isset_read, optional_nodes, isset_small, bound}
use Rattle.layout_tree.proofs.layouts.Layouts.isset_bits.Goals as goal

pub index-requires : goal.index-requires
index-requires c =
    let ns = c.args.self.now.nodes in
    let s = sub (tree_of ns.items) c.args.node in
    let a = at_part ns.items s c.args.node c.args.self.now.listing c.requires.node in
    omega (arith, ns.ok.0, a.within, optional_nodes (version_of c.args.self.now.version) s c.requires.range)

pub returns : goal.returns
returns c =
    let l = c.args.self.now in
    let ns = l.nodes.items in
    let s = sub (tree_of ns) c.args.node in
    let v = version_of l.version in
    let a = at_part ns s c.args.node l.listing c.requires.node in
    let e = ap (λ x. x.bits) c.index.ensures ∙ isset_read v a c.index.result.now c.requires.range in
    record {
      width = e;
      small = bound l.version (tree_of ns) s c.args.node c.index.result.now.bits 1 l.sound c.requires.node
          (λ o. omega (arith, e, isset_small (layout_in v s) o.legal c.requires.range));
    }
