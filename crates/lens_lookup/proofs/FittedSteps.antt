-- The steps of a fitted path, and where a step leads from types of a kind.
use Rattle.std.proofs.Common.{◌≡◌, ℕ, zero, suc, ◌+◌, ◌<◌, ◌≤◌, Bool, List, [], ◌∷◌, ◌++◌, length, get_or}
use Rattle.std.proofs.Common.{refl, sym, ap, subst, ◌∙◌, arith, Some, None, Ok, Err}
use Rattle.std.proofs.Common.{drop, drop-cons, add-one}
use Rattle.std.specs.Prelude.{map, find, option_and_then, IsOk}
use Rattle.std.specs.Option.{option_map_or}
use Rattle.std.specs.Str.{bytes_eq}
use Rattle.idl_profile.specs.declared.kinds.TypeKind.TheVariants as kinds
use Rattle.idl_profile.specs.Types.{TypeTree, scalar, flag, named, struct_of}
use Rattle.idl_profile.specs.Types.{DefField, fields_of, kind_of}
use Rattle.path_text.specs.declared.fault.PathFault.{PathFault}
use Rattle.path_text.specs.declared.fault.PathFault.TheVariants as f
use Rattle.path_text.specs.declared.path.Step.{Step}
use Rattle.path_text.specs.Steps.{PathStep, field_step, PlacedStep, WholePath}
use Rattle.path_text.specs.Fitting.{field_to, step_to, and_then, steps_to, fitted}
use Rattle.path_text.specs.Views.{step_of_kind}
use Rattle.root_kinds.proofs.Numbered.{HaveIds}
use Rattle.frozen_model.specs.Values.{Value}
use Rattle.evolve.specs.declared.lens.Lens.{Lens}
use Rattle.evolve.specs.Lenses.{type_of_lens, value_of_lens, HasForm}
use Rattle.evolve.specs.Costs.{step_cost, lookup_cost}
use Rattle.evolve.specs.Parts.{step_at, at}
use Rattle.evolve.proofs.Members.{contains_found}
use Rattle.lens_lookup.specs.TypedParts.{typed_of_lens}
use Rattle.lens_lookup.specs.declared.fitted.FittedStep.{FittedStep}
use Rattle.lens_lookup.specs.declared.fitted.FittedStep.TheVariants as fit
use Rattle.lens_lookup.specs.FoundSteps.{FoundStep, found_field, found_at, found_steps, step_found}
use Rattle.lens_lookup.specs.FoundSteps.{and_on, IsOwn}
use Rattle.lens_lookup.specs.FittedPaths.{IsFitting}
use Rattle.lens_lookup.proofs.Reached.{HasReached, left, left_at, two_steps, one_step}
use Rattle.lens_lookup.proofs.StepForms.{part_in, field_part, step_type}

-- ---- where a step leads

pub field_fits : (n : ℕ) (name : List ℕ) (t : TypeTree) → IsOk (step_to n (field_step name) t)
    → kind_of t ≡ kinds.Struct
field_fits n name (named (struct_of w fs)) h = refl
field_fits n name t h = absurd cc

pub field_leads : (n : ℕ) (name : List ℕ) (t : TypeTree) → kind_of t ≡ kinds.Struct
    → step_to n (field_step name) t ≡ field_to n (find (λ f. bytes_eq f.name name) (fields_of t))
field_leads n name (named (struct_of w fs)) h = refl
field_leads n name (scalar flag) h = absurd cc
field_leads n name t h = absurd cc

-- ---- the part at a fitted step

struct_found : (p : DefField → Bool) (t : TypeTree) (f : DefField) → find p (fields_of t) ≡ Some f
    → kind_of t ≡ kinds.Struct
struct_found p (named (struct_of w fs)) f e = refl
struct_found p t f e = absurd cc

pub own_part : (f : DefField) (s : PathStep) (t : TypeTree) (v : Value) → HasForm (kind_of t) v → HaveIds t
    → found_field (Some f) ≡ found_at t s → step_at s t v ≡ part_in v (Some f)
own_part f (field_step name) t v form ids e =
    let here : find (λ g. bytes_eq g.name name) (fields_of t) ≡ Some f = cc in
    field_part name t v (Some f) (struct_found (λ g. bytes_eq g.name name) t f here) form ids here
own_part f s t v form ids e = absurd cc

pub found_own : (s : FittedStep) (p : PathStep) (t : TypeTree) → step_found s ≡ found_at t p → IsOwn t s
found_own (fit.Field f) (field_step name) t e =
    contains_found (λ g. bytes_eq g.name name) (fields_of t) _ cc
found_own (fit.Field f) p t e = absurd cc
found_own (fit.At kind) p t e = tt

-- ---- a lookup

-- what is reached so far: the fitted steps that are left are those of the path that are left
pub record FittedReach (fs : List FittedStep) (all : List PlacedStep) (from here : Lens) (old new : ℕ)
    : Type 0 where
  pub ahead : List PlacedStep
  pub same : map step_found fs ≡ found_steps ahead (type_of_lens here)
  pub reached : HasReached ahead all from here old new

-- the first of the steps that are left
pub record NextStep (s : FittedStep) (fs : List FittedStep) (all : List PlacedStep) (from here : Lens)
    (old new : ℕ) : Type 0 where
  pub step : PlacedStep
  pub behind : List PlacedStep
  pub found : step_found s ≡ found_at (type_of_lens here) step.step
  pub same : map step_found fs
      ≡ and_on (step_to step.place step.step (type_of_lens here)) (λ u. found_steps behind u)
  pub reached : HasReached (step ∷ behind) all from here old new

next_of : (s : FittedStep) (fs : List FittedStep) (ahead all : List PlacedStep) (from here : Lens)
    (old new : ℕ) → map step_found (s ∷ fs) ≡ found_steps ahead (type_of_lens here) → HasReached ahead all from here old new
    → NextStep s fs all from here old new
next_of s fs [] all from here old new e h = absurd cc
next_of s fs (p ∷ ps) all from here old new e h =
    record { step = p; behind = ps; found = cc; same = cc; reached = h }

pub next_step : (s : FittedStep) (fs : List FittedStep) (all : List PlacedStep) (from here : Lens)
    (old new : ℕ) → FittedReach (s ∷ fs) all from here old new → NextStep s fs all from here old new
next_step s fs all from here old new h = next_of s fs h.ahead all from here old new h.same h.reached

-- nothing is left
end_of : (ahead all : List PlacedStep) (from here : Lens) (old new : ℕ)
    → [] ≡ found_steps ahead (type_of_lens here) → HasReached ahead all from here old new
    → HasReached [] all from here old new
end_of [] all from here old new e h = h
end_of (p ∷ ps) all from here old new e h = absurd cc

pub at_end : (all : List PlacedStep) (from here : Lens) (old new : ℕ) → FittedReach [] all from here old new
    → HasReached [] all from here old new
at_end all from here old new h = end_of h.ahead all from here old new h.same h.reached

-- a step to a part
pub fitted_step : (s : FittedStep) (fs : List FittedStep) (all : List PlacedStep) (from here next : Lens)
    (old new more : ℕ) → IsOk (steps_to all (type_of_lens from))
    → (n : NextStep s fs all from here old new)
    → Some (typed_of_lens next) ≡ step_at n.step.step (type_of_lens here) (value_of_lens here)
    → more ≤ new + step_cost n.step.step (value_of_lens here) → FittedReach fs all from next old more
fitted_step s fs all from here next old new more ok n p c =
    let t = type_of_lens here in
    let q = n.step in
    let fits = subst IsOk (sym n.reached.leads) ok in
    let to = two_steps n.behind (step_to q.place q.step t) fits in
    let v = value_of_lens here in
    let there = step_type q.place q.step t to.0 v (typed_of_lens next) to.1 (sym p) in record {
      ahead = n.behind;
      same = n.same ∙ ap (λ r. and_on r (λ u. found_steps n.behind u)) to.1
          ∙ ap (found_steps n.behind) (sym there);
      reached = one_step q n.behind all from here next old new more ok n.reached p c;
    }

-- ---- fitting

-- what is fitted so far: the steps found, and those that are left from what is reached, are all from the root
pub record FittedSoFar (steps : List Step) (i : ℕ) (found : List FittedStep) (root here : TypeTree)
    : Type 0 where
  pub so_far : map step_found found ++ found_steps (left steps i) here ≡ found_steps (left steps 0) root
  pub fits : IsOk (steps_to (left steps i) here)

pub next_fits : (steps : List Step) (i : ℕ) (s : Step) (found : List FittedStep) (root here : TypeTree)
    → i < length steps → s ≡ get_or steps i s → FittedSoFar steps i found root here
    → IsOk (step_to s.place (step_of_kind s.kind) here)
next_fits steps i s found root here l e h =
    let fits = subst (λ z. IsOk (steps_to z here)) (left_at steps i s l e) h.fits in
    let to = two_steps (left steps (i + 1)) (step_to s.place (step_of_kind s.kind) here) fits in
    subst IsOk (sym to.1) refl

map_snoc : (found : List FittedStep) (f : FittedStep) (rest : List FoundStep)
    → map step_found (found ++ (f ∷ [])) ++ rest ≡ map step_found found ++ (step_found f ∷ rest)
map_snoc [] f rest = refl
map_snoc (x ∷ xs) f rest = ap (λ z. step_found x ∷ z) (map_snoc xs f rest)

pub step_fitted : (steps : List Step) (i : ℕ) (s : Step) (found : List FittedStep) (f : FittedStep)
    (root here next : TypeTree) → i < length steps → s ≡ get_or steps i s
    → FittedSoFar steps i found root here → step_found f ≡ found_at here (step_of_kind s.kind)
    → step_to s.place (step_of_kind s.kind) here ≡ Ok next
    → FittedSoFar steps (i + 1) (found ++ (f ∷ [])) root next
step_fitted steps i s found f root here next l e h same to =
    let behind = left steps (i + 1) in
    let cut = left_at steps i s l e in
    let rest : found_steps (left steps i) here ≡ step_found f ∷ found_steps behind next =
    ap (λ z. found_steps z here) cut
    ∙ ap (λ r. found_at here (step_of_kind s.kind) ∷ and_on r (λ u. found_steps behind u)) to
    ∙ ap (λ z. z ∷ found_steps behind next) (sym same) in record {
      so_far = map_snoc found f (found_steps behind next)
          ∙ ap (λ z. map step_found found ++ z) (sym rest) ∙ h.so_far;
      fits = subst IsOk (ap (λ z. steps_to z here) cut ∙ ap (λ r. and_then r (λ u. steps_to behind u)) to)
          h.fits;
    }

none_left : (found : List FittedStep) → map step_found found ++ [] ≡ map step_found found
none_left [] = refl
none_left (x ∷ xs) = ap (λ z. step_found x ∷ z) (none_left xs)

-- no step is left
pub all_fitted : (steps : List Step) (i : ℕ) (found : List FittedStep) (root here : TypeTree)
    → left steps i ≡ [] → FittedSoFar steps i found root here
    → map step_found found ≡ found_steps (left steps 0) root
all_fitted steps i found root here e h =
    sym (none_left found) ∙ ap (λ z. map step_found found ++ found_steps z here) (sym e) ∙ h.so_far

-- why a path does not fit
pub misfit : (t : TypeTree) (p : WholePath) (e : PathFault) → fitted t p ≡ Err e → IsFitting t p (Err e)
misfit t p (f.PathSyntax n) h = h
misfit t p (f.NoField n) h = h
misfit t p (f.NotAStep n) h = h
misfit t p (f.BadKey n) h = h
misfit t p f.NoMemory h = tt

drop_all : (fs : List FittedStep) (i : ℕ) → length fs ≤ i → drop i fs ≡ []
drop_all [] zero l = refl
drop_all [] (suc i) l = refl
drop_all (f ∷ fs) zero l = absurd (omega (arith, l))
drop_all (f ∷ fs) (suc i) l = drop_all fs i (omega (arith, l))

drop_at : (fs : List FittedStep) (i : ℕ) (s : FittedStep) → i < length fs → s ≡ get_or fs i s
    → drop i fs ≡ s ∷ drop (i + 1) fs
drop_at fs i s l e = drop-cons fs i s l ∙ (rw (← e, add-one) refl)

pub next_at : (fs : List FittedStep) (i : ℕ) (s : FittedStep) (all : List PlacedStep) (from here : Lens)
    (old new : ℕ) → i < length fs → s ≡ get_or fs i s → FittedReach (drop i fs) all from here old new
    → NextStep s (drop (i + 1) fs) all from here old new
next_at fs i s all from here old new l e h =
    next_step s (drop (i + 1) fs) all from here old new
    (subst (λ z. FittedReach z all from here old new) (drop_at fs i s l e) h)

-- a step to nothing
pub none_part : (s : FittedStep) (fs : List FittedStep) (all : List PlacedStep) (from here : Lens)
    (old new : ℕ) (n : NextStep s fs all from here old new)
    → None ≡ step_at n.step.step (type_of_lens here) (value_of_lens here)
    → None ≡ at all (type_of_lens from) (value_of_lens from)
none_part s fs all from here old new n p =
    ap (option_and_then (λ x. at n.behind x.type x.value)) p ∙ n.reached.part

pub none_cost : (s : FittedStep) (fs : List FittedStep) (all : List PlacedStep) (from here : Lens)
    (old new more : ℕ) (n : NextStep s fs all from here old new)
    → None ≡ step_at n.step.step (type_of_lens here) (value_of_lens here)
    → more ≤ new + step_cost n.step.step (value_of_lens here)
    → more ≤ old + lookup_cost all (type_of_lens from) (value_of_lens from)
none_cost s fs all from here old new more n p c =
    let v = value_of_lens here in
    let cost = n.reached.cost in
    let spent =
    ap (λ q. step_cost n.step.step v + option_map_or (λ x. lookup_cost n.behind x.type x.value) q 0) p in
    omega (arith, cost, c, spent)

pub end_at : (fs : List FittedStep) (i : ℕ) (all : List PlacedStep) (from here : Lens) (old new : ℕ)
    → length fs ≤ i → FittedReach (drop i fs) all from here old new → HasReached [] all from here old new
end_at fs i all from here old new l h =
    at_end all from here old new (subst (λ z. FittedReach z all from here old new) (drop_all fs i l) h)
