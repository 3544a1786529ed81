use Rattle.std.proofs.Common.{Bool, Some, sym, ap, ◌∙◌}
use Rattle.std.specs.Prelude.{find}
use Rattle.std.specs.Str.{bytes_eq}
use Rattle.idl_profile.specs.Types.{DefField, fields_of, kind_of}
use Rattle.idl_parse.specs.Refs.{field_of_ref}
use Rattle.evolve.specs.Lenses.{type_of_lens, value_of_lens}
use Rattle.evolve.proofs.Known.{lens_form, lens_ids}
use Rattle.evolve.proofs.Members.{contains_found}
use Rattle.lens_lookup.proofs.StepForms.{typed_part, field_part}
use Rattle.lens_lookup.proofs.steps.part_in_field.Goals as goal

pub part-requires : goal.part-requires
part-requires c =
    let is_named : DefField → Bool = λ f. bytes_eq f.name c.args.name.now in
    let found = ap (λ t. find is_named (fields_of t)) (sym c.ty-ty.ensures) ∙ sym c.in-Some.ensures in
    contains_found is_named (fields_of (type_of_lens c.args.from)) (field_of_ref c.in-Some.field) found

pub returns-in-Some : goal.returns-in-Some
returns-in-Some c =
    let l = c.args.from in
    let name = c.args.name.now in
    let f = field_of_ref c.in-Some.field in
    let kind = ap kind_of (sym c.ty-ty.ensures) ∙ sym c.kind.ensures ∙ c.in-Struct.is in
    typed_part c.part.result f.type _ c.part.ensures.value c.part.ensures.typed
    ∙ sym (field_part name (type_of_lens l) (value_of_lens l) (Some f) kind (lens_form l) (lens_ids l)
    (ap (λ t. find (λ f. bytes_eq f.name name) (fields_of t)) (sym c.ty-ty.ensures) ∙ sym c.in-Some.ensures))
