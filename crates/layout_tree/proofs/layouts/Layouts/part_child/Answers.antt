use Rattle.std.proofs.Common.{arith}
use Rattle.layout_tree.specs.Listing.{tree_of, sub}
use Rattle.layout_tree.proofs.Place.{some_nodes}
use Rattle.layout_tree.proofs.Children.{node_small}
use Rattle.layout_tree.proofs.layouts.Layouts.part_child.Goals as goal

pub nth_child-requires : goal.nth_child-requires
nth_child-requires c =
    let l = c.args.self.now in
    let s = sub (tree_of l.nodes.items) c.args.node in
    omega (arith, node_small l.version l.nodes.items s c.args.node l.listing l.sound c.requires, some_nodes s)

pub nth_child-requires-in-List : goal.nth_child-requires-in-List
nth_child-requires-in-List c =
    let l = c.args.self.now in
    let s = sub (tree_of l.nodes.items) c.args.node in
    omega (arith, node_small l.version l.nodes.items s c.args.node l.listing l.sound c.requires, some_nodes s)
