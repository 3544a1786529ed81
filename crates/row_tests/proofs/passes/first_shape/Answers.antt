use Rattle.std.proofs.lemmas.Result.{IfOk-weaker}
use Rattle.idl_profile.specs.Types.{root_of}
use Rattle.idl_parse.specs.Parsed.{definition_of}
use Rattle.type_kinds.specs.KindsOf.{kinds_of}
use Rattle.layout_tree.specs.Nodes.{layout_of}
use Rattle.typed_tree.specs.References.{value_of_ref}
use Rattle.measure_pass.proofs.Measuring.{from_shape}
use Rattle.row_tests.proofs.Settling.{described_sound}
use Rattle.row_tests.proofs.Passing.{first_form}
use Rattle.row_tests.proofs.passes.first_shape.Goals as goal

pub first_version-requires : goal.first_version-requires
first_version-requires c = described_sound (layout_of c.in_ok-layouts.layouts) c.layouts_are_described.ensures.bits

pub returns-clause-form : goal.returns-clause-form
returns-clause-form c =
    let l = c.in_ok-layouts.layouts in
    let v = value_of_ref c.args._v in
    let f = from_shape (layout_of l) (kinds_of (root_of (definition_of c.args.def.now))) v
    c.in_ok-layouts.ensures.layout
    c.requires.form c.requires.few in
    IfOk-weaker c.first_version.result _ _ (λ n e. first_form l (layout_of n) v f.form f.few e)
    c.first_version.ensures.layout
