use Rattle.bit_view.specs.Views.{layout_of_view}
use Rattle.bit_view.proofs.Shapes.{kind_told}
use Rattle.bit_view.proofs.Seen.{view_node, view_text}
use Rattle.bit_view.proofs.view.View.kind.Goals as goal

pub kind-requires : goal.kind-requires
kind-requires c = view_node c.args.self

pub returns-clause-form : goal.returns-clause-form
returns-clause-form c =
    let w = c.args.self in
    kind_told (layout_of_view w) w.content.now w.block w.bit c.kind.result c.kind.ensures.kind (view_text w)
