use Rattle.std.proofs.Common.{◌≡◌, w16, of_z, to_z, ap, subst, ◌∙◌, rules}
use Rattle.std.specs.Prelude.{ℤ, position}
use Rattle.std.specs.Ordering.{int_eq}
use Rattle.idl_profile.specs.Types.{DefField}
use Rattle.idl_parse.specs.Refs.{fields_of_refs}
use Rattle.idl_parse.proofs.definition.TypeRef.place_of.Goals as goal

pub returns : goal.returns
returns c =
    let same : to_z w16 (of_z w16 c.args.id) ≡ c.args.id = search rules in
    subst (λ (z : ℤ). c.place_of.result ≡ position (λ (f : DefField). int_eq f.id z) (fields_of_refs c.fields.result)) same c.place_of.ensures
    ∙ ap (position (λ (f : DefField). int_eq f.id c.args.id)) c.fields.ensures
