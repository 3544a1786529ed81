use Rattle.lens_lookup.proofs.Reached.{HasReached, left}
use Rattle.lens_lookup.proofs.path.lookup.Given as goal

-- the steps so far lead to what is reached
abbrev pub invariant-loop-step : goal.invariant-loop-step
invariant-loop-step g l =
    let steps = l.path.steps.items in
    HasReached (left steps l.step-index) (left steps 0) l.initial.reached l.reached l.initial.steps l.steps
