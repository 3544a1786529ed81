use Rattle.std.proofs.Common.{drop}
use Rattle.path_text.specs.Views.{path_of}
use Rattle.lens_lookup.proofs.FittedSteps.{FittedReach}
use Rattle.lens_lookup.proofs.path.lookup_fitted.Given as goal

-- the fitted steps so far lead to what is reached
abbrev pub invariant-loop-step : goal.invariant-loop-step
invariant-loop-step g l =
    FittedReach (drop l.step-index l.path.steps.items) (path_of l.path.path.now).steps l.initial.reached
    l.reached l.initial.steps l.steps
