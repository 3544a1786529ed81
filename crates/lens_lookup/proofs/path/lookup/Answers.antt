use Rattle.std.proofs.Common.{◌≡◌, ◌<◌, List, length, get_or, subst}
use Rattle.path_text.specs.declared.path.Step.{Step}
use Rattle.lens_lookup.proofs.Reached.{left, stepped}
use Rattle.lens_lookup.proofs.path.lookup.Goals as goal

pub loop-step-preserved : goal.loop-step-preserved
loop-step-preserved g c =
    let i = c.loop-step.step-index in
    let s = c.step-item.result in
    stepped c.args.path.now.steps.items i s (left c.args.path.now.steps.items 0) c.args.from
    c.loop-step.reached c.in-Some.part c.args.steps.now c.loop-step.steps c.part_at.new.steps
    (subst (λ (z : List Step). i < length z) c.deref-step-items.ensures.value c.loop-step-test.true)
    (subst (λ (z : List Step). s ≡ get_or z i s) c.deref-step-items.ensures.value c.step-item.is) c.requires
    c.loop-step.invariant c.in-Some.ensures.part c.in-Some.ensures.cost
