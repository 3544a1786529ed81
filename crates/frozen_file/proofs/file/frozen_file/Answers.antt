use Rattle.idl_parse.specs.Parsed.{definition_of}
use Rattle.idl_profile.specs.Types.{root_of}
use Rattle.type_kinds.specs.KindsOf.{kinds_of}
use Rattle.layout_tree.specs.Nodes.{layout_of}
use Rattle.typed_tree.specs.References.{value_of_ref}
use Rattle.frozen_file.proofs.Frozen.{few_cells, least_along}
use Rattle.frozen_file.proofs.file.frozen_file.Goals as goal

pub least_file-requires-clause-few : goal.least_file-requires-clause-few
least_file-requires-clause-few c =
    let m = c.in_ok-measured in
    few_cells (kinds_of (root_of (definition_of c.args.def.now))) (layout_of m.measured.layouts).tree
    (value_of_ref c.args.v) m.ensures.least.holds.of_kind m.ensures.kinds c.requires.few

pub returns : goal.returns
returns c =
    least_along (λ out. out.items) c.least_file.result _ _ (value_of_ref c.args.v)
    c.in_ok-measured.ensures.kinds c.least_file.ensures
