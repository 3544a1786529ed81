use Rattle.std.proofs.Common.{arith, ap, sym, ◌∙◌, Some}
use Rattle.layout_tree.proofs.Numbers.{in_list, get_listed}
use Rattle.layout_tree.proofs.layouts.Layouts.node.Goals as goal

pub index-requires : goal.index-requires
index-requires c =
    let l = c.args.self.now in
    omega (arith, l.nodes.ok.0, in_list l.nodes.items c.args.node l.listing c.requires)

pub returns : goal.returns
returns c =
    let l = c.args.self.now in
    let x = c.index.result.now in
    get_listed l.nodes.items c.args.node x l.listing
    (in_list l.nodes.items c.args.node l.listing c.requires) c.index.ensures
    ∙ ap (λ w. Some (record {
      kind = x.kind;
      field = x.field;
      parent = x.parent;
      bits = x.bits;
      wide = w;
      offset = x.offset;
      base = x.base;
    })) (sym c.wide_of.ensures)
