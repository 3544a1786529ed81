use Rattle.std.proofs.Common.{◌<◌, ◌^◌, ◌∙◌, List, ℕ, length, sym, ap, subst, if◌then◌else◌}
use Rattle.frozen_model.specs.Layouts.{Version, Version1, Version2}
use Rattle.idl_profile.specs.Types.{Named, root_of}
use Rattle.idl_parse.specs.Parsed.{definition_in, DefText}
use Rattle.layout_schema.specs.SchemaText.{schema_meant}
use Rattle.layout_schema.proofs.SchemaText.{schema_text_short, schema_text_means, schema_root}
use Rattle.layout_schema.proofs.types.schema_definition.Goals as goal

pub parse-requires : goal.parse-requires
parse-requires c =
    let v : Version = if c.args.based then Version2 else Version1 in
    subst (λ (text : List ℕ). length text < 2 ^ 31) (sym c.types_text.ensures) (schema_text_short v)

pub returns-in-Ok-clause-root : goal.returns-in-Ok-clause-root
returns-in-Ok-clause-root c =
    let v : Version = if c.args.based then Version2 else Version1 in
    let d : List Named = definition_in (schema_meant v) in
    let means : DefText c.types_text.result.now d = subst (λ (text : List ℕ). DefText text d) (sym c.types_text.ensures) (schema_text_means v) in
    ap root_of (c.in-Ok.ensures.every_text d means) ∙ schema_root v
