use Rattle.std.proofs.Common.{arith}
use Rattle.bit_view.specs.Views.{layout_of_view}
use Rattle.bit_view.proofs.Shapes.{optional_at}
use Rattle.bit_view.proofs.Seen.{view_node, view_bounds, optional_stride}
use Rattle.bit_view.proofs.view.View.is_set.Goals as goal

pub isset_bits-requires-clause-node : goal.isset_bits-requires-clause-node
isset_bits-requires-clause-node c = view_node c.args.self

pub read_bits-requires-clause-inside : goal.read_bits-requires-clause-inside
read_bits-requires-clause-inside c =
    let w = c.args.self in
    let m = layout_of_view w in
    let h = optional_stride m (optional_at m w.content.now w.block w.bit c.requires) in
    omega (arith, (view_bounds w).within, h, c.isset_bits.ensures.width)
