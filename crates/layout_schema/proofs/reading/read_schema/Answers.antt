use Rattle.std.proofs.Common.{◌≡◌, ◌∙◌, Err, subst}
use Rattle.frozen_model.specs.Layouts.{Version1}
use Rattle.idl_profile.specs.Types.{TypeTree}
use Rattle.idl_parse.specs.Refs.{type_of_ref}
use Rattle.layout_schema.specs.Schemas.{schema_type}
use Rattle.layout_schema.specs.Standing.{spelled_as}
use Rattle.layout_schema.specs.Telling.{IsSpelled, IsReadAs}
use Rattle.layout_schema.proofs.ReadSchema.{first_faulty, layout_answer, fault_answer, only_answer}
use Rattle.layout_schema.proofs.reading.read_schema.Goals as goal

pub read_version-requires : goal.read_version-requires
read_version-requires c =
    let is : type_of_ref c.root-ty.result ≡ schema_type Version1 = c.root-ty.ensures.tree ∙ c.in_ok-types.ensures.root in
    record { typed = is; spelled = subst (λ (t : TypeTree). IsSpelled t c.args.bytes.now (spelled_as t c.args.bytes.now)) is c.in-Ok.ensures }

pub returns-in-Ok : goal.returns-in-Ok
returns-in-Ok c =
    let b = c.args.bytes.now in
    let r = c.read_version.result in
    let h = c.read_version.ensures.answer in
    record {
      layout = layout_answer b r h;
      settled = c.read_version.ensures.settled;
      fault = fault_answer b r h;
      only = only_answer b r h;
    }

pub returns : goal.returns
returns c =
    let b = c.args.bytes.now in
    let is : type_of_ref c.root-ty.result ≡ schema_type Version1 = c.root-ty.ensures.tree ∙ c.in_ok-types.ensures.root in
    let h = first_faulty b c.in-Err.fault (subst (λ (t : TypeTree). IsReadAs t b (Err c.in-Err.fault)) is c.in-Err.ensures) in
    record {
      layout = tt;
      settled = tt;
      fault = h;
      only = only_answer b (Err c.in-Err.fault) h;
    }
