use Rattle.frozen_model.specs.BitLaws.{IsBytes}
use Rattle.layout_tree.specs.Nodes.{layout_of}
use Rattle.content_check.proofs.Exact.{opens, complete, fails}
use Rattle.content_check.proofs.open.check_content.Goals as goal

pub returns : goal.returns
returns c =
    let d = layout_of c.args.layouts.now in
    let bs = c.args.content.now in
    let r = c.walk_content.result in
    let is = c.layouts_are_described.ensures.bits.layout in
    let small : IsBytes bs = λ k. (c.type_inv.content k).fits in
    let w = c.walk_content.ensures in
    record {
      content = opens d.version d.tree bs r is small w;
      every = complete d.version d.tree bs r is small w;
      fault = fails bs d.tree r w;
    }
