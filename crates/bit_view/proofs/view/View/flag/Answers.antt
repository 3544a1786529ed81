use Rattle.std.proofs.Common.{arith}
use Rattle.layout_tree.specs.Listing.{version_of, sub}
use Rattle.layout_tree.specs.Nodes.{noted_in}
use Rattle.bit_view.proofs.Shapes.{flag_told}
use Rattle.bit_view.proofs.Seen.{view_node, view_bounds}
use Rattle.bit_view.proofs.view.View.flag.Goals as goal

pub bits-requires : goal.bits-requires
bits-requires c = view_node c.args.self

pub read_bits-requires-clause-inside : goal.read_bits-requires-clause-inside
read_bits-requires-clause-inside c = omega (arith, (view_bounds c.args.self).within, c.bits.ensures.bits)

pub returns : goal.returns
returns c =
    let w = c.args.self in
    let l = w.layouts.now in
    flag_told (version_of l.version) (sub (noted_in l) w.node) w.content.now w.block w.bit c.read_bits.result
    c.bits.result c.requires c.read_bits.ensures.value c.bits.ensures.bits
