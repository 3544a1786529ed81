use Rattle.std.proofs.lemmas.Int.{to_z-of_z}
use mir.Val.{SFits}
use Rattle.std.proofs.Common.{rules, w16, w64, sym, ap, ◌∙◌}
use Rattle.std.specs.Prelude.{pos}
use Rattle.idl_profile.specs.declared.kinds.Need.TheVariants.{Plain}
use Rattle.typed_reading.specs.Meaning.{given}
use Rattle.compact_codec.specs.Wire.{number_in}
use Rattle.layout_schema.specs.Schemas.{number}
use Rattle.layout_schema.proofs.fields.number_of_field.Goals as goal

pub returns-in-Some : goal.returns-in-Some
returns-in-Some c t u known of_key clean =
    let g : SFits w64 c.number_of.result = search rules in
    let f : SFits w16 c.args.wanted = search rules in
    let told = simp to_z-of_z at c.in-Some.ensures in
    ap (λ o. number_in (given Plain o (number (pos 0)))) (sym (told t u known of_key clean)) ∙ c.number_of.ensures ∙ sym (to_z-of_z w64 c.number_of.result g)

pub returns-in-None : goal.returns-in-None
returns-in-None c t u known of_key clean =
    let f : SFits w16 c.args.wanted = search rules in
    let told = simp to_z-of_z at c.in-None.ensures in
    ap (λ o. number_in (given Plain o (number (pos 0)))) (sym (told t u known of_key clean))
