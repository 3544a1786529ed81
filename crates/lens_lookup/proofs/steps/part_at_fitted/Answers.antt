use Rattle.std.proofs.Common.{sym, ap, ◌∙◌}
use Rattle.idl_parse.specs.Refs.{field_of_ref}
use Rattle.evolve.specs.Lenses.{type_of_lens, value_of_lens}
use Rattle.evolve.proofs.Known.{lens_form, lens_ids}
use Rattle.lens_lookup.specs.FoundSteps.{step_found}
use Rattle.lens_lookup.proofs.StepForms.{typed_part}
use Rattle.lens_lookup.proofs.FittedSteps.{own_part}
use Rattle.lens_lookup.proofs.steps.part_at_fitted.Goals as goal

pub returns-in-Field-clause-part : goal.returns-in-Field-clause-part
returns-in-Field-clause-part g c = λ p e.
    let l = c.args.from in
    let f = field_of_ref c.in-Field.field in
    typed_part c.part.result f.type _ c.part.ensures.value c.part.ensures.typed
    ∙ sym (own_part f p (type_of_lens l) (value_of_lens l) (lens_form l) (lens_ids l)
    (ap step_found (sym c.in-Field.is) ∙ e))
