use Rattle.std.proofs.Common.{arith, ap, ◌∙◌}
use Rattle.layout_tree.specs.Listing.{tree_of, sub, version_of}
use Rattle.layout_tree.proofs.Place.{at_part, some_nodes}
use Rattle.layout_tree.proofs.Readings.{item_read, holder_nodes, item_small, bound}
use Rattle.layout_tree.proofs.Numbers.{kind_of_range, byte_item, holds_items, item_is}
use Rattle.layout_tree.specs.Listing.{layout_in}
use Rattle.layout_tree.proofs.layouts.Layouts.stride.Goals as goal

pub index-requires : goal.index-requires
index-requires c =
    let ns = c.args.self.now.nodes in
    let s = sub (tree_of ns.items) c.args.node in
    let a = at_part ns.items s c.args.node c.args.self.now.listing c.requires.node in
    omega (arith, ns.ok.0, a.within, some_nodes s)

pub index-requires-in_default : goal.index-requires-in_default
index-requires-in_default c =
    let l = c.args.self.now in
    let ns = l.nodes in
    let v = version_of l.version in
    let s = sub (tree_of ns.items) c.args.node in
    let a = at_part ns.items s c.args.node l.listing c.requires.node in
    let x = c.index.result.now in
    let holder = holds_items v s x.kind (kind_of_range v ns.items s c.args.node x a c.index.ensures
    c.requires.range) c.in_default.not-Text c.in_default.not-Bytes in
    omega (arith, ns.ok.0, a.within, holder_nodes v s holder)

pub returns-in-Text-clause-stride : goal.returns-in-Text-clause-stride
returns-in-Text-clause-stride c =
    let l = c.args.self.now in
    let ns = l.nodes.items in
    let v = version_of l.version in
    let s = sub (tree_of ns) c.args.node in
    let a = at_part ns s c.args.node l.listing c.requires.node in
    let x = c.index.result.now in
    byte_item v s x.kind (kind_of_range v ns s c.args.node x a c.index.ensures c.requires.range) c.in-Text.is

pub returns-in_default : goal.returns-in_default
returns-in_default c =
    let l = c.args.self.now in
    let ns = l.nodes.items in
    let s = sub (tree_of ns) c.args.node in
    let v = version_of l.version in
    let a = at_part ns s c.args.node l.listing c.requires.node in
    let x = c.index.result.now in
    let y = c.index-in_default.result.now in
    let holder = holds_items v s x.kind (kind_of_range v ns s c.args.node x a c.index.ensures
    c.requires.range) c.in_default.not-Text c.in_default.not-Bytes in
    let e = ap (λ x. x.bits) c.index-in_default.ensures ∙ item_read v a y holder in
    record {
      stride = e ∙ item_is (layout_in v s) holder;
      small = bound l.version (tree_of ns) s c.args.node y.bits 32767 l.sound c.requires.node
          (λ o. omega (arith, e, item_small v s o.legal o.narrow holder));
    }
