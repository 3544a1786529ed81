use Rattle.idl_parse.specs.Refs.{type_of_ref}
use Rattle.lens_lookup.proofs.FittedSteps.{FittedSoFar}
use Rattle.lens_lookup.proofs.fitting.fit_path.Given as goal

-- the steps so far are found
abbrev pub invariant-loop-step : goal.invariant-loop-step
invariant-loop-step l =
    FittedSoFar l.path.steps.items l.step-index l.steps.items (type_of_ref l.initial.reached)
    (type_of_ref l.reached)
