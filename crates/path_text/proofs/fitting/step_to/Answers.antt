use Rattle.std.proofs.Common.{subst, sym}
use Rattle.exact_reading.specs.Reading.{Meets}
use Rattle.idl_parse.specs.Refs.{type_of_ref}
use Rattle.path_text.specs.declared.path.StepKind.{StepKind}
use Rattle.path_text.specs.Fitting.{step_to}
use Rattle.path_text.specs.Views.{step_of_kind}
use Rattle.path_text.proofs.fitting.step_to.Goals as goal

pub returns-in-Index : goal.returns-in-Index
returns-in-Index c =
    subst (λ (k : StepKind). Meets (λ t. type_of_ref t) c.to_item.result (step_to c.args.step.now.place (step_of_kind k) (type_of_ref c.args.from))) (sym c.in-Index.is)
    (c.to_item.ensures c.in-Index.field-0)
