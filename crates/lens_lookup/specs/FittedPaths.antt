-- What contracts see of a fitted path.
use Rattle.std.specs.Prelude.{◌≡◌, Result, Ok, Err, map}
use Rattle.idl_profile.specs.Types.{TypeTree}
use Rattle.idl_parse.specs.Refs.{type_of_ref}
use Rattle.path_text.specs.declared.fault.PathFault.{PathFault}
use Rattle.path_text.specs.declared.fault.PathFault.TheVariants.{NoMemory}
use Rattle.path_text.specs.Steps.{WholePath}
use Rattle.path_text.specs.Fitting.{fitted}
use Rattle.path_text.specs.Views.{path_of}
use Rattle.lens_lookup.specs.declared.fitted.FittedPath.{FittedPath}
use Rattle.lens_lookup.specs.FoundSteps.{found_steps, step_found}

-- the type that the path begins at
abbrev pub root_type : FittedPath → TypeTree
root_type p = type_of_ref p.root

-- the path that was fitted
abbrev pub path_fitted : FittedPath → WholePath
path_fitted p = path_of p.path.now

-- the type that it leads to
abbrev pub end_type : FittedPath → TypeTree
end_type p = type_of_ref p.to

-- the path leads to its end from its root, and the steps are what each step is there
pub record IsFitted (p : FittedPath) : Type 0 where
  pub leads : fitted (root_type p) (path_fitted p) ≡ Ok (end_type p)
  pub found : map step_found p.steps.items ≡ found_steps (path_fitted p).steps (root_type p)

-- why this is the answer for a path from a type: it is fitted; or this is its misfit; want of memory has
-- no cause
abbrev pub IsFitting : TypeTree → WholePath → Result FittedPath PathFault → Type 0
IsFitting t p (Ok f) = (root_type f ≡ t) × (path_fitted f ≡ p) × IsFitted f
IsFitting t p (Err NoMemory) = Unit {0}
IsFitting t p (Err fault) = fitted t p ≡ Err fault
