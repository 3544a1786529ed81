use Rattle.std.proofs.Common.{◌∙◌, rules, ap, sym, w16, to_z, of_z, ℤ}
use Rattle.std.specs.Prelude.{FitsSigned, option_and_then, find}
use Rattle.std.specs.Ordering.{int_eq}
use Rattle.std.proofs.lemmas.Int.{to_z-of_z}
use Rattle.idl_profile.specs.Types.{DefField, fields_of, kind_of}
use Rattle.idl_parse.specs.Refs.{field_of_ref}
use Rattle.typed_tree.specs.Parts.{field_of}
use Rattle.bit_view.proofs.Offsets.{with_field}
use Rattle.evolve.specs.Parts.{held}
use Rattle.evolve.specs.Lenses.{type_of_lens, value_of_lens}
use Rattle.evolve.proofs.Members.{contains_found}
use Rattle.evolve.proofs.Known.{lens_form}
use Rattle.evolve.proofs.Fielded.{struct_type, struct_kind, found_id, none_of, typed_if}
use Rattle.evolve.proofs.lens.Lens.field.Goals as goal

pub field-requires : goal.field-requires
field-requires c =
    let l = c.args.self in
    let s = struct_type (type_of_lens l) (value_of_lens l) (lens_form l)
    (with_field (value_of_lens l) c.args.id c.requires) in
    ap kind_of c.ty.ensures ∙ struct_kind (type_of_lens l) s

pub part-requires : goal.part-requires
part-requires c =
    let fits : FitsSigned w16 c.args.id = search rules in
    let test = λ (z : ℤ) (f : DefField). int_eq f.id z in
    let found = c.in-Some.ensures
    ∙ ap (λ t. find (test (to_z w16 (of_z w16 c.args.id))) (fields_of t)) c.ty.ensures
    ∙ ap (λ z. find (test z) (fields_of (type_of_lens c.args.self))) (to_z-of_z w16 c.args.id fits) in
    contains_found (test c.args.id) (fields_of (type_of_lens c.args.self)) (field_of_ref c.in-Some.field)
    (sym found)

pub returns-in-Some-clause-value : goal.returns-in-Some-clause-value
returns-in-Some-clause-value c =
    let fits : FitsSigned w16 c.args.id = search rules in
    let l = c.args.self in
    let test = λ (z : ℤ) (f : DefField). int_eq f.id z in
    let found = c.in-Some.ensures
    ∙ ap (λ t. find (test (to_z w16 (of_z w16 c.args.id))) (fields_of t)) c.ty.ensures
    ∙ ap (λ z. find (test z) (fields_of (type_of_lens l))) (to_z-of_z w16 c.args.id fits) in
    c.part.ensures.value
    ∙ ap (λ z. option_and_then held (field_of (value_of_lens l) z))
    (found_id c.args.id (fields_of (type_of_lens l)) (field_of_ref c.in-Some.field) (sym found))

pub returns-in-Some-clause-typed : goal.returns-in-Some-clause-typed
returns-in-Some-clause-typed c =
    let fits : FitsSigned w16 c.args.id = search rules in
    let l = c.args.self in
    let test = λ (z : ℤ) (f : DefField). int_eq f.id z in
    let found = c.in-Some.ensures
    ∙ ap (λ t. find (test (to_z w16 (of_z w16 c.args.id))) (fields_of t)) c.ty.ensures
    ∙ ap (λ z. find (test z) (fields_of (type_of_lens l))) (to_z-of_z w16 c.args.id fits) in
    typed_if c.part.result (field_of_ref c.in-Some.field) (find (test c.args.id) (fields_of (type_of_lens l)))
    found
    c.part.ensures.typed

pub returns-in-None-clause-value : goal.returns-in-None-clause-value
returns-in-None-clause-value c =
    let fits : FitsSigned w16 c.args.id = search rules in
    let l = c.args.self in
    let test = λ (z : ℤ) (f : DefField). int_eq f.id z in
    let s = struct_type (type_of_lens l) (value_of_lens l) (lens_form l)
    (with_field (value_of_lens l) c.args.id c.requires) in
    let none = c.in-None.ensures
    ∙ ap (λ t. find (test (to_z w16 (of_z w16 c.args.id))) (fields_of t)) c.ty.ensures
    ∙ ap (λ z. find (test z) (fields_of (type_of_lens l))) (to_z-of_z w16 c.args.id fits) in
    ap (option_and_then held) (sym (none_of l c.args.id s fits (sym none)))
