use Rattle.layout_tree.specs.Nodes.{layout_of, settled_of}
use Rattle.file_check.proofs.LayoutsHeld.{layouts_held}
use Rattle.file_check.proofs.Composed.{held_packs}
use Rattle.file_check.proofs.laws.opened_composes.Goals as goal

pub returns : goal.returns
returns c =
    let o = c.args._opened.now in
    record {
      settled = layouts_held (settled_of o.layouts) (layout_of o.layouts) o.settled;
      content = held_packs (layout_of o.layouts).tree o.content.now o.held;
    }
