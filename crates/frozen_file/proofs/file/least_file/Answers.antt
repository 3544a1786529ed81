use Rattle.std.proofs.Common.{◌∙◌, ◌<◌, ◌^◌, length}
use Rattle.std.proofs.Common.{arith, ap}
use Rattle.layout_tree.specs.Nodes.{layout_of}
use Rattle.typed_tree.specs.References.{value_of_ref}
use Rattle.file_check.proofs.Composed.{small_schema}
use Rattle.frozen_file.proofs.Frozen.{small_content, least_if_ok}
use Rattle.frozen_file.proofs.file.least_file.Goals as goal

pub file_with-requires-clause-schema : goal.file_with-requires-clause-schema
file_with-requires-clause-schema c =
    small_schema c.schemas_are_short.ensures (layout_of c.args.measured.layouts) c.deref.result.now
    c.requires.least.is_layout (c.deref.ensures.value ∙ c.in_ok-schema.ensures)

pub file_with-requires-clause-small : goal.file_with-requires-clause-small
file_with-requires-clause-small c =
    let r = c.requires in
    omega (
      arith,
      r.length,
      small_content (layout_of c.args.measured.layouts) (value_of_ref c.args.v) r.least r.few,
    )

pub returns : goal.returns
returns c =
    let r = c.requires in
    let is = c.deref.ensures.value ∙ c.in_ok-schema.ensures in
    least_if_ok (λ out. out.items) c.file_with.result (layout_of c.args.measured.layouts)
    (value_of_ref c.args.v) c.deref.result.now c.written_schema_is_schema.ensures r.least r.version r.relaxed
    r.few is
    (small_schema c.schemas_are_short.ensures (layout_of c.args.measured.layouts) c.deref.result.now
    c.requires.least.is_layout is) c.file_with.ensures
