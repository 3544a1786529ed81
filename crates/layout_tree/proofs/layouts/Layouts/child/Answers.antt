use Rattle.std.proofs.Common.{arith}
use Rattle.layout_tree.specs.Listing.{version_of}
use Rattle.layout_tree.proofs.Numbers.{in_list, part_here, no_child}
use Rattle.layout_tree.proofs.layouts.Layouts.child.Goals as goal

pub index-requires : goal.index-requires
index-requires c =
    let l = c.args.self.now in
    omega (arith, l.nodes.ok.0, in_list l.nodes.items c.args.node l.listing c.requires)

pub returns-in-Flag-clause-part : goal.returns-in-Flag-clause-part
returns-in-Flag-clause-part c p =
    let l = c.args.self.now in
    no_child (version_of l.version) l.nodes.items c.args.node c.index.result.now l.listing c.index.ensures
    c.in-Flag.is p c.args.field

pub part_child-requires : goal.part_child-requires
part_child-requires c =
    let l = c.args.self.now in
    part_here l.nodes.items c.args.node c.index.result.now l.listing c.requires c.index.ensures
    c.in_default.not-Flag c.in_default.not-Size

pub returns-in_default-clause-other : goal.returns-in_default-clause-other
returns-in_default-clause-other c alone =
    let l = c.args.self.now in
    absurd (alone (part_here l.nodes.items c.args.node c.index.result.now l.listing c.requires c.index.ensures
    c.in_default.not-Flag c.in_default.not-Size))
