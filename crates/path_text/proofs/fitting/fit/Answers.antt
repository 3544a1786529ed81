use Rattle.std.proofs.Common.{◌<◌, List, length, get_or, ◌≡◌, subst}
use Rattle.std.specs.Prelude.{map}
use Rattle.idl_parse.specs.Refs.{type_of_ref}
use Rattle.path_text.specs.declared.path.Step.{Step}
use Rattle.path_text.specs.Fitting.{steps_to}
use Rattle.path_text.specs.Views.{step_of}
use Rattle.path_text.proofs.FitLaws.{step-taken}
use Rattle.path_text.proofs.fitting.fit.Goals as goal

pub loop-step-preserved : goal.loop-step-preserved
loop-step-preserved c =
    let items = c.args.path.now.steps.items in
    let i = c.loop-step.step-index in
    let s = c.step-item.result in
    step-taken items i s (type_of_ref c.loop-step.reached) (type_of_ref c.in_ok-reached.reached) (steps_to (map step_of items) (type_of_ref c.root-reached.result))
    (subst (λ (z : List Step). i < length z) c.deref-step-items.ensures.value c.loop-step-test.true)
    (subst (λ (z : List Step). s ≡ get_or z i s) c.deref-step-items.ensures.value c.step-item.is)
    c.loop-step.invariant c.in_ok-reached.ensures
