use Rattle.std.proofs.lemmas.Int.{to_z-of_z}
use mir.Val.{SFits}
use Rattle.std.proofs.Common.{rules, w16, sym, ◌∙◌}
use Rattle.layout_schema.proofs.fields.key_of_field.Goals as goal

pub returns-in-Some : goal.returns-in-Some
returns-in-Some c t u known of_key clean =
    let f : SFits w16 c.args.wanted = search rules in
    let told = simp to_z-of_z at c.in-Some.ensures in
    let stands = told t u known clean in
    c.key_at.ensures u stands.0 of_key stands.2 ∙ sym stands.1

pub returns-in-None : goal.returns-in-None
returns-in-None c t u known of_key clean =
    let f : SFits w16 c.args.wanted = search rules in
    let told = simp to_z-of_z at c.in-None.ensures in
    sym (told t u known clean)
