use Rattle.bit_view.specs.Views.{layout_of_view}
use Rattle.bit_view.proofs.Shapes.{len_told}
use Rattle.bit_view.proofs.view.View.len.Goals as goal

pub returns : goal.returns
returns c =
    let w = c.args.self in
    len_told (layout_of_view w) w.content.now w.block w.bit c.count.result c.requires c.count.ensures
