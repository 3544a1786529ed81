use Rattle.std.proofs.Common.{arith}
use Rattle.bit_view.proofs.Seen.{view_node, view_bounds, range_stride}
use Rattle.bit_view.specs.Views.{layout_of_view}
use Rattle.bit_view.proofs.view.View.count.Goals as goal

pub distance_bits-requires-clause-node : goal.distance_bits-requires-clause-node
distance_bits-requires-clause-node c = view_node c.args.self

pub overflow_add-bit : goal.overflow_add-bit
overflow_add-bit c =
    let b = view_bounds c.args.self in
    omega (arith, b.within, b.short, c.distance_bits.ensures.small)

pub count_bits-requires-clause-node : goal.count_bits-requires-clause-node
count_bits-requires-clause-node c = view_node c.args.self

pub read_bits-requires-clause-inside : goal.read_bits-requires-clause-inside
read_bits-requires-clause-inside c =
    let b = view_bounds c.args.self in
    omega (
      arith,
      b.within,
      range_stride
          (layout_of_view c.args.self) c.requires,
      c.distance_bits.ensures.width,
      c.count_bits.ensures.width,
    )
