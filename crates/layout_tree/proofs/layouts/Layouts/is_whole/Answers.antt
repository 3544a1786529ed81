use Rattle.std.proofs.Common.{arith, ◌∙◌}
use Rattle.layout_tree.proofs.Numbers.{in_list}
use Rattle.layout_tree.proofs.Whole.{whole_listed}
use Rattle.layout_tree.proofs.layouts.Layouts.is_whole.Goals as goal

pub index-requires : goal.index-requires
index-requires c =
    let l = c.args.self.now in
    omega (arith, l.nodes.ok.0, in_list l.nodes.items c.args.node l.listing c.requires)

pub returns : goal.returns
returns c =
    let l = c.args.self.now in
    c.is_whole_kind.ensures ∙ whole_listed l.nodes.items c.args.node c.index.result.now l.listing c.requires
    c.index.ensures
