use Rattle.std.proofs.Common.{◌≡◌, Some, None, w16, to_z, of_z, subst, rules}
use Rattle.std.specs.Prelude.{ℤ, position}
use Rattle.std.specs.Ordering.{int_eq}
use Rattle.idl_profile.specs.Types.{DefField}
use Rattle.idl_parse.specs.Refs.{field_of_ref, fields_of_refs}
use Rattle.idl_parse.proofs.HalvingLaws.{found-at, found-none}
use Rattle.idl_parse.proofs.definition.FieldRefs.find.Goals as goal

pub returns-in-Some : goal.returns-in-Some
returns-in-Some c =
    let fs = fields_of_refs c.args.self in
    let same : to_z w16 (of_z w16 c.args.id) ≡ c.args.id = search rules in
    let place = subst (λ (z : ℤ). Some c.in-Some.place ≡ position (λ (f : DefField). int_eq f.id z) fs) same c.in-Some.ensures in
    found-at (λ (f : DefField). int_eq f.id c.args.id) fs c.in-Some.place (field_of_ref c.at.result) place c.at.ensures

pub returns-in-None : goal.returns-in-None
returns-in-None c =
    let fs = fields_of_refs c.args.self in
    let same : to_z w16 (of_z w16 c.args.id) ≡ c.args.id = search rules in
    let place = subst (λ (z : ℤ). None ≡ position (λ (f : DefField). int_eq f.id z) fs) same c.in-None.ensures in
    found-none (λ (f : DefField). int_eq f.id c.args.id) fs place
