use Rattle.std.proofs.Common.{Err, sym, subst}
use Rattle.idl_parse.specs.Refs.{type_of_ref}
use Rattle.layout_schema.specs.declared.fault.SchemaFault.{SchemaFault}
use Rattle.layout_schema.specs.Telling.{IsReadAs}
use Rattle.layout_schema.proofs.ReadSchema.{read_fault}
use Rattle.layout_schema.proofs.SchemaParts.{value_spelled_as}
use Rattle.layout_schema.proofs.reading.check_fields.Goals as goal

pub returns-in-Ok : goal.returns-in-Ok
returns-in-Ok c =
    let x = c.in-Ok.ensures.cause in
    value_spelled_as (type_of_ref c.args.ty) c.args.bytes.now x.0 x.1

pub returns-in-Err : goal.returns-in-Err
returns-in-Err c =
    let t = type_of_ref c.args.ty in
    let b = c.args.bytes.now in
    subst (λ (f : SchemaFault). IsReadAs t b (Err f)) (sym c.fault_of.ensures) (read_fault t b c.in-Err.fault c.in-Err.ensures.cause)
