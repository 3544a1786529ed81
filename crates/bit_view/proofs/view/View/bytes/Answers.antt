use Rattle.std.proofs.Common.{arith}
use Rattle.bit_view.proofs.Seen.{view_bounds, view_bytes}
use Rattle.bit_view.proofs.view.View.bytes.Goals as goal

pub overflow_add-end : goal.overflow_add-end
overflow_add-end c =
    let w = c.args.self in
    omega (arith, (view_bounds w).short, view_bytes w c.requires, c.own_block-start.ensures, c.count.ensures)

pub slice_bounds-result-end : goal.slice_bounds-result-end
slice_bounds-result-end c =
    omega (arith, view_bytes c.args.self c.requires, c.own_block-start.ensures, c.count.ensures)
