-- What each step of a path is from a type: a field that its name finds, or a step of another sort.
use Rattle.std.specs.Prelude.{List, [], ◌∷◌, Option, Some, find, Result, Ok, Err}
use Rattle.std.specs.List.{Contains}
use Rattle.std.specs.Str.{bytes_eq}
use Rattle.idl_profile.specs.Types.{TypeTree, DefField, fields_of}
use Rattle.idl_parse.specs.Refs.{field_of_ref}
use Rattle.path_text.specs.declared.fault.PathFault.{PathFault}
use Rattle.path_text.specs.Steps.{PathStep, field_step, PlacedStep}
use Rattle.path_text.specs.Fitting.{step_to}
use Rattle.path_text.specs.Views.{step_of_kind}
use Rattle.lens_lookup.specs.declared.fitted.FittedStep.{FittedStep}
use Rattle.lens_lookup.specs.declared.fitted.FittedStep.TheVariants as fit

pub data FoundStep : Type 0 where
  -- to a field, where the name finds one
  found_field : Option DefField → FoundStep
  other_step : PathStep → FoundStep

-- what a step is from a type
abbrev pub found_at : TypeTree → PathStep → FoundStep
found_at t (field_step name) = found_field (find (λ f. bytes_eq f.name name) (fields_of t))
found_at t s = other_step s

abbrev pub and_on : Result TypeTree PathFault → (TypeTree → List FoundStep) → List FoundStep
and_on (Ok t) next = next t
and_on (Err e) next = []

-- what each step is, from the type to which those before it lead
abbrev pub found_steps : List PlacedStep → TypeTree → List FoundStep
found_steps [] t = []
found_steps (s ∷ ss) t = found_at t s.step ∷ and_on (step_to s.place s.step t) (λ u. found_steps ss u)

-- what a fitted step is
abbrev pub step_found : FittedStep → FoundStep
step_found (fit.Field f) = found_field (Some (field_of_ref f))
step_found (fit.At kind) = other_step (step_of_kind kind.now)

-- a fitted step to a field is to one of the type's
abbrev pub IsOwn : TypeTree → FittedStep → Type 0
IsOwn t (fit.Field f) = Contains (fields_of t) (field_of_ref f)
IsOwn t (fit.At kind) = Unit {0}
