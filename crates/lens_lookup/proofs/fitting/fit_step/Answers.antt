use Rattle.std.proofs.Common.{Ok, sym, ap, subst, ◌∙◌}
use Rattle.std.specs.Prelude.{find, string_bytes, IsOk}
use Rattle.std.specs.Str.{bytes_eq}
use Rattle.idl_profile.specs.Types.{fields_of}
use Rattle.idl_parse.specs.Refs.{type_of_ref}
use Rattle.path_text.specs.Fitting.{field_to, step_to}
use Rattle.path_text.specs.Views.{step_of_kind}
use Rattle.lens_lookup.proofs.FittedSteps.{field_fits, field_leads}
use Rattle.lens_lookup.proofs.fitting.fit_step.Goals as goal

pub returns-in-Some-clause-leads : goal.returns-in-Some-clause-leads
returns-in-Some-clause-leads c =
    let t = type_of_ref c.args.from in
    let n = c.args.step.now.place in
    let name = string_bytes c.in-Field.name in
    let kind = ap step_of_kind c.in-Field.is in
    let struct = field_fits n name t (subst (λ s. IsOk (step_to n s t)) kind c.requires) in
    ap (λ s. step_to n s t) kind ∙ field_leads n name t struct
    ∙ ap (λ w. field_to n (find (λ f. bytes_eq f.name w) (fields_of t))) (sym c.as_str.ensures.value)
    ∙ ap (field_to n) (sym c.in-Some.ensures) ∙ ap (λ z. Ok z) (sym c.ty.ensures)
