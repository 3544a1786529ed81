use Rattle.std.proofs.Common.{arith, ap, ◌∙◌}
use Rattle.frozen_model.specs.Bits.{field}
use Rattle.bit_view.specs.Views.{layout_of_view}
use Rattle.bit_view.proofs.Seen.{view_node, view_bounds, view_room, range_stride}
use Rattle.bit_view.proofs.view.View.own_block.Goals as goal

pub distance_bits-width-requires-clause-node : goal.distance_bits-width-requires-clause-node
distance_bits-width-requires-clause-node c = view_node c.args.self

pub read_bits-requires-clause-inside : goal.read_bits-requires-clause-inside
read_bits-requires-clause-inside c =
    let b = view_bounds c.args.self in
    omega (
      arith,
      b.within,
      range_stride
          (layout_of_view c.args.self) c.requires,
      c.distance_bits-width.ensures.width,
    )

pub overflow_add-result : goal.overflow_add-result
overflow_add-result c =
    let w = c.args.self in
    let b = view_bounds w in
    let e = c.read_bits.ensures.value ∙ ap (field w.content.now w.bit) c.distance_bits-width.ensures.width in
    omega (arith, b.short, view_room w c.requires, e)
