use Rattle.std.proofs.Common.{arith, ap, ◌∙◌, ◌<◌, length, option_map}
use Rattle.layout_tree.specs.Reading.{plain}
use Rattle.layout_tree.specs.declared.node.NodeSpec.{NodeSpec}
use Rattle.layout_tree.specs.Listing.{tree_of, sub, version_of}
use Rattle.layout_tree.proofs.Place.{at_part, some_nodes}
use Rattle.layout_tree.proofs.Numbers.{get_listed}
use Rattle.layout_tree.proofs.Readings.{kind_read}
use Rattle.layout_tree.proofs.layouts.Layouts.kind.Goals as goal

pub index-requires : goal.index-requires
index-requires c =
    let ns = c.args.self.now.nodes in
    let s = sub (tree_of ns.items) c.args.node in
    let a = at_part ns.items s c.args.node c.args.self.now.listing c.requires in
    omega (arith, ns.ok.0, a.within, some_nodes s)

pub returns-clause-kind : goal.returns-clause-kind
returns-clause-kind c =
    let ns = c.args.self.now.nodes.items in
    let a = at_part ns (sub (tree_of ns) c.args.node) c.args.node c.args.self.now.listing c.requires in
    ap (λ x. plain x.kind) c.index.ensures
    ∙ kind_read (version_of c.args.self.now.version) a c.index.result.now

pub returns-clause-told : goal.returns-clause-told
returns-clause-told c =
    let l = c.args.self.now in
    let ns = l.nodes.items in
    let s = sub (tree_of ns) c.args.node in
    let a = at_part ns s c.args.node l.listing c.requires in
    let lt : c.args.node < length ns = omega (arith, a.within, some_nodes s) in
    ap (option_map (λ (x : NodeSpec). x.kind))
    (get_listed ns c.args.node c.index.result.now l.listing lt c.index.ensures)
