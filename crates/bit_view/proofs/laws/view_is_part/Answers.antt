use Rattle.layout_tree.specs.Listing.{version_of}
use Rattle.layout_tree.specs.Nodes.{noted_in}
use Rattle.bit_view.proofs.Places.{here_is, here_told}
use Rattle.bit_view.proofs.laws.view_is_part.Goals as goal

pub returns-clause-told : goal.returns-clause-told
returns-clause-told c u p =
    let w = c.args.view in
    let l = w.layouts.now in
    here_told (here_is (version_of l.version) (noted_in l) w.content.now w.node w.block w.bit u
    c.layouts_are_described.ensures.bits.layout p)
