use Rattle.std.proofs.Common.{◌∙◌, rules, ap, sym, subst, w16}
use Rattle.std.specs.Prelude.{FitsSigned, option_and_then}
use Rattle.std.proofs.lemmas.Int.{to_z-of_z}
use Rattle.idl_parse.specs.Refs.{field_of_ref}
use Rattle.bit_view.specs.Branches.{fields_in, field_tree}
use Rattle.bit_view.specs.Views.{value_of_view, layout_of_view}
use Rattle.typed_tree.specs.Fields.{id_number}
use Rattle.typed_tree.specs.Parts.{field_of}
use Rattle.typed_tree.specs.Sizes.{default_value}
use Rattle.evolve.specs.declared.lens.Lens.{Lens}
use Rattle.evolve.specs.Parts.{held}
use Rattle.evolve.specs.Projection.{proj, found_or}
use Rattle.evolve.specs.Lenses.{type_of_lens}
use Rattle.evolve.proofs.Members.{FieldOf, field_in_type}
use Rattle.evolve.proofs.Fielded.{part_accepted, part_short, part_default, part_binds, stored_value}
use Rattle.evolve.proofs.Fielded.{default_value_of}
use Rattle.evolve.proofs.lens.Lens.part.Goals as goal

pub stored-requires-clause-binds : goal.stored-requires-clause-binds
stored-requires-clause-binds c =
    let l = c.args.self in
    let f = field_of_ref c.args.field in
    let s = c.in-Stored.whole in
    let h : FieldOf (type_of_lens l) f = field_in_type (type_of_lens l) f c.requires in
    let fits : FitsSigned w16 c.id.result = search rules in
    part_binds s f c.in-Some.view (subst (λ (x : Lens). FieldOf (type_of_lens x) f) c.in-Stored.is h)
    c.in-Some.ensures.relaxed (c.in-Some.ensures.layout
    ∙ ap (λ z. field_tree (fields_in (layout_of_view s.view)) (id_number z))
    (to_z-of_z w16 c.id.result fits ∙ c.id.ensures))

pub stored-requires-clause-accepted : goal.stored-requires-clause-accepted
stored-requires-clause-accepted c =
    let t = type_of_lens c.args.self in
    let f = field_of_ref c.args.field in
    part_accepted c.args.self f (field_in_type t f c.requires)

pub stored-requires-clause-short : goal.stored-requires-clause-short
stored-requires-clause-short c =
    let t = type_of_lens c.args.self in
    let f = field_of_ref c.args.field in
    part_short c.args.self f (field_in_type t f c.requires)

pub lacked-requires-clause-accepted : goal.lacked-requires-clause-accepted
lacked-requires-clause-accepted c =
    let t = type_of_lens c.args.self in
    let f = field_of_ref c.args.field in
    part_accepted c.args.self f (field_in_type t f c.requires)

pub lacked-requires-clause-short : goal.lacked-requires-clause-short
lacked-requires-clause-short c =
    let t = type_of_lens c.args.self in
    let f = field_of_ref c.args.field in
    part_short c.args.self f (field_in_type t f c.requires)

pub lacked-requires-clause-formed : goal.lacked-requires-clause-formed
lacked-requires-clause-formed c ne =
    let t = type_of_lens c.args.self in
    let f = field_of_ref c.args.field in
    part_default c.args.self f (field_in_type t f c.requires) ne

pub lacked-requires-in-Default-clause-accepted : goal.lacked-requires-in-Default-clause-accepted
lacked-requires-in-Default-clause-accepted c =
    let t = type_of_lens c.args.self in
    let f = field_of_ref c.args.field in
    part_accepted c.args.self f (field_in_type t f c.requires)

pub lacked-requires-in-Default-clause-short : goal.lacked-requires-in-Default-clause-short
lacked-requires-in-Default-clause-short c =
    let t = type_of_lens c.args.self in
    let f = field_of_ref c.args.field in
    part_short c.args.self f (field_in_type t f c.requires)

pub lacked-requires-in-Default-clause-formed : goal.lacked-requires-in-Default-clause-formed
lacked-requires-in-Default-clause-formed c ne =
    let t = type_of_lens c.args.self in
    let f = field_of_ref c.args.field in
    part_default c.args.self f (field_in_type t f c.requires) ne

pub returns-in-Some-clause-value : goal.returns-in-Some-clause-value
returns-in-Some-clause-value c =
    let l = c.args.self in
    let f = field_of_ref c.args.field in
    let s = c.in-Stored.whole in
    let fits : FitsSigned w16 c.id.result = search rules in
    let has = stored_value l s f c.in-Stored.is (field_in_type (type_of_lens l) f c.requires) in
    let got = c.in-Some.ensures.value ∙ ap (field_of (value_of_view s.view))
    (to_z-of_z w16 c.id.result fits ∙ c.id.ensures) in
    c.stored.ensures.value
    ∙ ap (λ q. held (found_or (default_value f) f.need (λ v. proj f.type v) q)) got
    ∙ ap (option_and_then held) (sym has)

pub returns-in-None-clause-value : goal.returns-in-None-clause-value
returns-in-None-clause-value c =
    let l = c.args.self in
    let f = field_of_ref c.args.field in
    let s = c.in-Stored.whole in
    let fits : FitsSigned w16 c.id.result = search rules in
    let has = stored_value l s f c.in-Stored.is (field_in_type (type_of_lens l) f c.requires) in
    let got = c.in-None.ensures.value ∙ ap (field_of (value_of_view s.view))
    (to_z-of_z w16 c.id.result fits ∙ c.id.ensures) in
    c.lacked.ensures.value
    ∙ ap (λ q. held (found_or (default_value f) f.need (λ v. proj f.type v) q)) got
    ∙ ap (option_and_then held) (sym has)

pub returns-in-Default-clause-value : goal.returns-in-Default-clause-value
returns-in-Default-clause-value c =
    let l = c.args.self in
    let f = field_of_ref c.args.field in
    c.lacked-in-Default.ensures.value
    ∙ ap (option_and_then held) (sym (default_value_of l c.in-Default.field-0 f c.in-Default.is
    (field_in_type (type_of_lens l) f c.requires)))
