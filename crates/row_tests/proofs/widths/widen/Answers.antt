use Rattle.std.proofs.Common.{◌<◌, arith, refl}
use Rattle.frozen_model.specs.Trees.{nodes}
use Rattle.layout_tree.specs.Nodes.{noted_in}
use Rattle.row_tests.proofs.Widening.{takes_width}
use Rattle.row_tests.proofs.widths.widen.Goals as goal

pub widen-requires : goal.widen-requires
widen-requires c =
    let t = noted_in c.args.layouts.now in
    let h : c.args.node < nodes t = omega arith in
    takes_width t c.args.node c.args.bits c.node.result h c.node.ensures (c.if-not-takes_width.ensures refl)
