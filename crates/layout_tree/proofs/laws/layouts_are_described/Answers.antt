use Rattle.layout_tree.proofs.Describing.{kept_described, settled_described, kept_bases}
use Rattle.layout_tree.proofs.laws.layouts_are_described.Goals as goal

pub returns : goal.returns
returns c =
    let l = c.args._layouts.now in
    record { bits = kept_described l; noted = settled_described l; bases = kept_bases l }
