use Rattle.std.proofs.Common.{◌≡◌, ◌-◌, List, [], ◌∷◌, ◌++◌, length, Some, sym, ap, ◌∙◌, subst, arith}
use Rattle.std.specs.Prelude.{map}
use Rattle.std.proofs.lemmas.List.{map-append}
use Rattle.path_text.specs.declared.path.Step.{Step}
use Rattle.path_text.specs.Steps.{PlacedStep}
use Rattle.path_text.specs.Texts.{Begins}
use Rattle.path_text.specs.Reading.{read_step}
use Rattle.path_text.specs.Views.{step_of, step_of_kind}
use Rattle.path_text.proofs.Begins.{begins-fits}
use Rattle.path_text.proofs.Parsing.{stepped, fault-here}
use Rattle.path_text.proofs.parse.parse_path.Goals as goal

pushed : (items more : List Step) (x : Step) → more ≡ items ++ x ∷ [] → map step_of more ≡ map step_of items ++ step_of x ∷ []
pushed items more x e = ap (λ (z : List Step). map step_of z) e ∙ map-append step_of items (x ∷ [])

pub overflow_sub-place : goal.overflow_sub-place
overflow_sub-place c = begins-fits 0 (map step_of c.steps.steps.items) c.args.text.now c.steps.rest.now c.steps.invariant.begins

pub steps-smaller : goal.steps-smaller
steps-smaller c =
    let fits = begins-fits 0 (map step_of c.steps.steps.items) c.args.text.now c.steps.rest.now c.steps.invariant.begins in
    let e : read_step c.steps.rest.now ≡ Some (step_of_kind c.in-Some.kind, c.in-Some.behind.now) = sym (rw c.in-Some.is at c.in_ok-kind.ensures) in
    (stepped (map step_of c.steps.steps.items) c.args.text.now c.steps.rest.now c.in-Some.behind.now (step_of_kind c.in-Some.kind) (length c.args.text.now - length c.steps.rest.now) c.steps.invariant.begins c.steps.invariant.utf8 e (omega arith)).shorter

pub steps-preserved : goal.steps-preserved
steps-preserved c =
    let fits = begins-fits 0 (map step_of c.steps.steps.items) c.args.text.now c.steps.rest.now c.steps.invariant.begins in
    let e : read_step c.steps.rest.now ≡ Some (step_of_kind c.in-Some.kind, c.in-Some.behind.now) = sym (rw c.in-Some.is at c.in_ok-kind.ensures) in
    let k = stepped (map step_of c.steps.steps.items) c.args.text.now c.steps.rest.now c.in-Some.behind.now (step_of_kind c.in-Some.kind) (length c.args.text.now - length c.steps.rest.now) c.steps.invariant.begins c.steps.invariant.utf8 e (omega arith) in
    let m = pushed c.steps.steps.items c.push.new.self.items _ c.in_ok-push-in-Some.ensures.items in
    record { begins = subst (λ (ss : List PlacedStep). Begins 0 ss c.args.text.now c.in-Some.behind.now) (sym m) k.begins; utf8 = k.utf8 }

pub returns-in-None : goal.returns-in-None
returns-in-None c =
    let fits = begins-fits 0 (map step_of c.steps.steps.items) c.args.text.now c.steps.rest.now c.steps.invariant.begins in
    fault-here (map step_of c.steps.steps.items) c.args.text.now c.steps.rest.now (length c.args.text.now - length c.steps.rest.now) c.steps.invariant.begins (sym (rw c.in-None.is at c.in_ok-kind.ensures)) c.steps-test.true (omega arith)
