use Rattle.std.proofs.Common.{◌≡◌, drop}
use Rattle.std.specs.Prelude.{map}
use Rattle.idl_parse.specs.Refs.{type_of_ref}
use Rattle.path_text.specs.Fitting.{steps_to}
use Rattle.path_text.specs.Views.{step_of}
use Rattle.path_text.proofs.fitting.fit.Given as goal

-- the steps from this one on lead from here where all lead from the root
abbrev pub invariant-loop-step : goal.invariant-loop-step
invariant-loop-step l = steps_to (map step_of (drop l.step-index l.path.steps.items)) (type_of_ref l.reached) ≡ steps_to (map step_of l.path.steps.items) (type_of_ref l.initial.reached)
