use Rattle.std.proofs.Common.{◌≡◌, ◌<◌, ◌≤◌, List, length, get_or, subst, sym, ap, refl, arith, ◌∙◌}
use Rattle.std.specs.Prelude.{IsOk}
use Rattle.path_text.specs.Fitting.{steps_to}
use Rattle.evolve.specs.Lenses.{type_of_lens}
use Rattle.lens_lookup.specs.declared.fitted.FittedStep.{FittedStep}
use Rattle.lens_lookup.specs.FittedPaths.{path_fitted}
use Rattle.lens_lookup.proofs.FittedSteps.{next_at, found_own, none_part, none_cost, fitted_step, end_at}
use Rattle.lens_lookup.proofs.path.lookup_fitted.Goals as goal

pub part_at_fitted-requires : goal.part_at_fitted-requires
part_at_fitted-requires g c =
    let fs = c.args.path.now.steps.items in
    let i = c.loop-step.step-index in
    let s = c.step-item.result in
    let here = c.loop-step.reached in
    let all = (path_fitted c.args.path.now).steps in
    let old = c.args.steps.now in
    let new = c.loop-step.steps in
    let within = subst (λ (z : List FittedStep). i < length z) c.deref-step-items.ensures.value
    c.loop-step-test.true in
    let there = subst (λ (z : List FittedStep). s ≡ get_or z i s) c.deref-step-items.ensures.value
    c.step-item.is in
    let n = next_at fs i s all c.args.from here old new within there c.loop-step.invariant in
    found_own s n.step.step (type_of_lens here) n.found

pub returns-in-None-clause-part : goal.returns-in-None-clause-part
returns-in-None-clause-part g c =
    let fs = c.args.path.now.steps.items in
    let i = c.loop-step.step-index in
    let s = c.step-item.result in
    let here = c.loop-step.reached in
    let all = (path_fitted c.args.path.now).steps in
    let old = c.args.steps.now in
    let new = c.loop-step.steps in
    let within = subst (λ (z : List FittedStep). i < length z) c.deref-step-items.ensures.value
    c.loop-step-test.true in
    let there = subst (λ (z : List FittedStep). s ≡ get_or z i s) c.deref-step-items.ensures.value
    c.step-item.is in
    let n = next_at fs i s all c.args.from here old new within there c.loop-step.invariant in
    none_part s _ all c.args.from here old new n (c.in-None.ensures.part n.step.step n.found)

pub returns-in-None-clause-cost : goal.returns-in-None-clause-cost
returns-in-None-clause-cost g c =
    let fs = c.args.path.now.steps.items in
    let i = c.loop-step.step-index in
    let s = c.step-item.result in
    let here = c.loop-step.reached in
    let all = (path_fitted c.args.path.now).steps in
    let old = c.args.steps.now in
    let new = c.loop-step.steps in
    let within = subst (λ (z : List FittedStep). i < length z) c.deref-step-items.ensures.value
    c.loop-step-test.true in
    let there = subst (λ (z : List FittedStep). s ≡ get_or z i s) c.deref-step-items.ensures.value
    c.step-item.is in
    let n = next_at fs i s all c.args.from here old new within there c.loop-step.invariant in
    none_cost s _ all c.args.from here old new c.part_at_fitted.new.steps n
    (c.in-None.ensures.part n.step.step n.found) (c.in-None.ensures.cost n.step.step n.found)

pub loop-step-preserved : goal.loop-step-preserved
loop-step-preserved g c =
    let fs = c.args.path.now.steps.items in
    let i = c.loop-step.step-index in
    let s = c.step-item.result in
    let here = c.loop-step.reached in
    let all = (path_fitted c.args.path.now).steps in
    let old = c.args.steps.now in
    let new = c.loop-step.steps in
    let within = subst (λ (z : List FittedStep). i < length z) c.deref-step-items.ensures.value
    c.loop-step-test.true in
    let there = subst (λ (z : List FittedStep). s ≡ get_or z i s) c.deref-step-items.ensures.value
    c.step-item.is in
    let n = next_at fs i s all c.args.from here old new within there c.loop-step.invariant in
    let leads = ap (λ t. steps_to all t) c.requires.root ∙ c.requires.fitted.leads in
    fitted_step s _ all c.args.from here c.in-Some.part old new c.part_at_fitted.new.steps
    (subst IsOk (sym leads) refl) n (c.in-Some.ensures.part n.step.step n.found)
    (c.in-Some.ensures.cost n.step.step n.found)

pub returns-clause-part : goal.returns-clause-part
returns-clause-part g c =
    let fs = c.args.path.now.steps.items in
    let i = c.loop-step.step-index in
    let over : length c.deref-step-items.result.now ≤ i = omega (arith, c.loop-step-test.false) in
    let past = subst (λ (z : List FittedStep). length z ≤ i) c.deref-step-items.ensures.value over in
    let reached = end_at fs i (path_fitted c.args.path.now).steps c.args.from c.loop-step.reached
    c.args.steps.now c.loop-step.steps past c.loop-step.invariant in
    reached.part

pub returns-clause-typed : goal.returns-clause-typed
returns-clause-typed g c =
    let fs = c.args.path.now.steps.items in
    let i = c.loop-step.step-index in
    let over : length c.deref-step-items.result.now ≤ i = omega (arith, c.loop-step-test.false) in
    let past = subst (λ (z : List FittedStep). length z ≤ i) c.deref-step-items.ensures.value over in
    let reached = end_at fs i (path_fitted c.args.path.now).steps c.args.from c.loop-step.reached
    c.args.steps.now c.loop-step.steps past c.loop-step.invariant in
    sym reached.leads
