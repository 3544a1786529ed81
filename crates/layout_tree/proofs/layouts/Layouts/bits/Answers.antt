use Rattle.std.proofs.Common.{◌≡◌, arith, ap, ◌∙◌}
use Rattle.frozen_model.specs.Layouts.{stride}
use Rattle.layout_tree.specs.Listing.{tree_of, sub, layout_in, version_of}
use Rattle.layout_tree.proofs.Place.{at_part, some_nodes}
use Rattle.layout_tree.proofs.Readings.{bits_read, leaf_small, bound}
use Rattle.layout_tree.proofs.layouts.Layouts.bits.Goals as goal

pub index-requires : goal.index-requires
index-requires c =
    let ns = c.args.self.now.nodes in
    let s = sub (tree_of ns.items) c.args.node in
    let a = at_part ns.items s c.args.node c.args.self.now.listing c.requires in
    omega (arith, ns.ok.0, a.within, some_nodes s)

pub returns : goal.returns
returns c =
    let l = c.args.self.now in
    let ns = l.nodes.items in
    let s = sub (tree_of ns) c.args.node in
    let v = version_of l.version in
    let a = at_part ns s c.args.node l.listing c.requires in
    let e : c.index.result.now.bits ≡ stride (layout_in v s) = ap (λ x. x.bits) c.index.ensures
    ∙ bits_read v a c.index.result.now in
    record {
      bits = e;
      leaf = λ h. bound l.version (tree_of ns) s c.args.node c.index.result.now.bits 64 l.sound c.requires
          (λ o. omega (arith, e, leaf_small (layout_in v s) o.legal h));
    }
