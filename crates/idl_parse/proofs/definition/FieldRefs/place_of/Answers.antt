use Rattle.std.proofs.Common.{◌≡◌, w16, of_z, to_z, subst, ◌∙◌, rules}
use Rattle.std.specs.Prelude.{ℤ, position}
use Rattle.std.specs.Ordering.{int_eq}
use Rattle.idl_profile.specs.Types.{DefField}
use Rattle.idl_fields.specs.declared.draft.DraftField.{DraftField}
use Rattle.idl_parse.specs.Refs.{field_in}
use Rattle.idl_parse.proofs.HalvingLaws.{mapped}
use Rattle.idl_parse.proofs.definition.FieldRefs.place_of.Goals as goal

pub returns : goal.returns
returns c =
    let fs = c.args.self.fields.now in
    let same : to_z w16 (of_z w16 c.args.id) ≡ c.args.id = search rules in
    let place = subst (λ (z : ℤ). c.place_in.result ≡ position (λ (f : DraftField). int_eq f.id.id z) fs) same c.place_in.ensures.place in
    place ∙ mapped (λ (f : DefField). int_eq f.id c.args.id) (field_in c.args.self.def.now c.args.self.within) fs
