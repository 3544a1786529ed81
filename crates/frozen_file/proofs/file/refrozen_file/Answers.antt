use Rattle.frozen_model.specs.Trees.{kinds}
use Rattle.layout_tree.specs.Nodes.{layout_of}
use Rattle.typed_tree.specs.References.{value_of_ref}
use Rattle.frozen_file.proofs.Frozen.{few_cells, few_kinds, least_along}
use Rattle.frozen_file.proofs.file.refrozen_file.Goals as goal

pub least_file-requires-clause-few : goal.least_file-requires-clause-few
least_file-requires-clause-few c =
    let m = c.in_ok-anew in
    let l = (layout_of c.args.from.now).tree in
    let v = value_of_ref c.args.v in
    few_cells (kinds l) (layout_of m.anew.layouts).tree v m.ensures.least.holds.of_kind m.ensures.kinds
    (few_kinds l v c.requires.form c.requires.few)

pub returns : goal.returns
returns c =
    least_along (λ out. out.items) c.least_file.result _ _ (value_of_ref c.args.v)
    c.in_ok-anew.ensures.kinds c.least_file.ensures
