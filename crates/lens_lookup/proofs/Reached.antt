-- The steps of a path one after another.
use Rattle.std.proofs.Common.{◌≡◌, ℕ, ◌+◌, ◌<◌, ◌≤◌, List, ◌∷◌, length, get_or, drop, drop-cons, add-one}
use Rattle.std.proofs.Common.{refl, sym, ap, subst, ◌∙◌, arith, Some, Result, Ok, Err}
use Rattle.std.specs.Prelude.{map, option_and_then, IsOk}
use Rattle.std.specs.Option.{option_map_or}
use Rattle.idl_profile.specs.Types.{TypeTree}
use Rattle.path_text.specs.declared.fault.PathFault.{PathFault}
use Rattle.path_text.specs.declared.path.Step.{Step}
use Rattle.path_text.specs.Steps.{PlacedStep}
use Rattle.path_text.specs.Fitting.{step_to, and_then, steps_to}
use Rattle.path_text.specs.Views.{step_of}
use Rattle.evolve.specs.declared.lens.Lens.{Lens}
use Rattle.evolve.specs.Costs.{step_cost, lookup_cost}
use Rattle.evolve.specs.Lenses.{type_of_lens, value_of_lens}
use Rattle.evolve.specs.Parts.{step_at, at}
use Rattle.lens_lookup.specs.TypedParts.{typed_of_lens}
use Rattle.lens_lookup.proofs.StepForms.{step_type}

-- the steps from a place on
abbrev pub left : List Step → ℕ → List PlacedStep
left steps i = map step_of (drop i steps)

pub left_at : (steps : List Step) (i : ℕ) (s : Step) → i < length steps → s ≡ get_or steps i s
    → left steps i ≡ step_of s ∷ left steps (i + 1)
left_at steps i s l e =
    let cut : drop i steps ≡ s ∷ drop (i + 1) steps = drop-cons steps i s l ∙ (rw (← e, add-one) refl) in
    ap (map step_of) cut

-- what is reached so far: the steps that are left lead from there to where all lead from the beginning
pub record HasReached (ss all : List PlacedStep) (from here : Lens) (old new : ℕ) : Type 0 where
  pub leads : steps_to ss (type_of_lens here) ≡ steps_to all (type_of_lens from)
  pub part : at ss (type_of_lens here) (value_of_lens here)
      ≡ at all (type_of_lens from) (value_of_lens from)
  pub cost : new + lookup_cost ss (type_of_lens here) (value_of_lens here)
      ≤ old + lookup_cost all (type_of_lens from) (value_of_lens from)

pub two_steps : (ss : List PlacedStep) (first : Result TypeTree PathFault)
    → IsOk (and_then first (λ t. steps_to ss t)) → (t : TypeTree) × (first ≡ Ok t)
two_steps ss (Ok t) h = (t, refl)
two_steps ss (Err f) h = absurd cc

-- where a step leads, the rest leads to the same type
led : (s : PlacedStep) (ss : List PlacedStep) (here next : Lens)
    → IsOk (steps_to (s ∷ ss) (type_of_lens here))
    → Some (typed_of_lens next) ≡ step_at s.step (type_of_lens here) (value_of_lens here)
    → steps_to ss (type_of_lens next) ≡ steps_to (s ∷ ss) (type_of_lens here)
led s ss here next ok e =
    let t = type_of_lens here in
    let to = two_steps ss (step_to s.place s.step t) ok in
    let same = step_type s.place s.step t to.0 (value_of_lens here) (typed_of_lens next) to.1 (sym e) in
    ap (steps_to ss) same ∙ ap (λ r. and_then r (λ u. steps_to ss u)) (sym to.1)

-- a step to a part
pub one_step : (s : PlacedStep) (ss all : List PlacedStep) (from here next : Lens) (old new more : ℕ)
    → IsOk (steps_to all (type_of_lens from)) → HasReached (s ∷ ss) all from here old new
    → Some (typed_of_lens next) ≡ step_at s.step (type_of_lens here) (value_of_lens here)
    → more ≤ new + step_cost s.step (value_of_lens here) → HasReached ss all from next old more
one_step s ss all from here next old new more ok h p c =
    let t = type_of_lens here in let v = value_of_lens here in
    let spent =
    ap (λ q. step_cost s.step v + option_map_or (λ x. lookup_cost ss x.type x.value) q 0) p in record {
      leads = led s ss here next (subst IsOk (sym h.leads) ok) p ∙ h.leads;
      part = ap (option_and_then (λ x. at ss x.type x.value)) p ∙ h.part;
      cost = omega (arith, h.cost, c, spent);
    }

-- the same at a place of a list of steps
pub stepped : (steps : List Step) (i : ℕ) (s : Step) (all : List PlacedStep) (from here next : Lens)
    (old new more : ℕ) → i < length steps → s ≡ get_or steps i s → IsOk (steps_to all (type_of_lens from))
    → HasReached (left steps i) all from here old new
    → Some (typed_of_lens next) ≡ step_at (step_of s).step (type_of_lens here) (value_of_lens here)
    → more ≤ new + step_cost (step_of s).step (value_of_lens here)
    → HasReached (left steps (i + 1)) all from next old more
stepped steps i s all from here next old new more l e ok h p c =
    one_step (step_of s) (left steps (i + 1)) all from here next old new more ok
    (subst (λ z. HasReached z all from here old new) (left_at steps i s l e) h) p c
