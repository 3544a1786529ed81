use Rattle.std.proofs.lemmas.Int.{to_z-of_z}
use mir.Val.{SFits}
use Rattle.std.proofs.Common.{rules, w16, sym, ap, ◌∙◌, false}
use Rattle.idl_profile.specs.declared.kinds.Need.TheVariants.{Plain}
use Rattle.frozen_model.specs.Values.{One, Truth}
use Rattle.typed_reading.specs.Meaning.{given}
use Rattle.compact_codec.specs.Wire.{flag_in}
use Rattle.layout_schema.proofs.fields.flag_of_field.Goals as goal

pub returns-in-Some : goal.returns-in-Some
returns-in-Some c t u known of_key clean =
    let f : SFits w16 c.args.wanted = search rules in
    let told = simp to_z-of_z at c.in-Some.ensures in
    ap (λ o. flag_in (given Plain o (One (Truth false)))) (sym (told t u known of_key clean)) ∙ c.flag_of.ensures

pub returns-in-None : goal.returns-in-None
returns-in-None c t u known of_key clean =
    let f : SFits w16 c.args.wanted = search rules in
    let told = simp to_z-of_z at c.in-None.ensures in
    ap (λ o. flag_in (given Plain o (One (Truth false)))) (sym (told t u known of_key clean))
