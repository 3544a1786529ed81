use Rattle.std.proofs.Common.{◌≡◌, true, sym, ap, ◌∙◌, rules}
use Rattle.std.specs.Ordering.{int_eq}
use Rattle.idl_profile.specs.Types.{DefField}
use Rattle.idl_parse.specs.Refs.{field_in}
use Rattle.idl_parse.proofs.HalvingLaws.{mapped, risen}
use Rattle.idl_parse.proofs.definition.FieldRefs.place_near.Goals as goal

pub returns-in-Some : goal.returns-in-Some
returns-in-Some c =
    let fs = c.args.self.fields.now in
    let f = c.in-Some.field.now in
    let l = c.in-Some.ensures.lookup in
    let same : int_eq f.id.id c.args.id ≡ true = search rules in
    risen c.args.id fs c.args.likely f c.args.self.in_order l.3.0 (ap (λ g. int_eq g.id.id c.args.id) (sym l.1) ∙ same)
    ∙ mapped (λ (g : DefField). int_eq g.id c.args.id) (field_in c.args.self.def.now c.args.self.within) fs
