-- The path to the number of a user.
use Rattle.std.specs.Prelude.{◌≡◌, [], ◌∷◌, codes}
use Rattle.path_text.specs.declared.path.Step.{Step}
use Rattle.path_text.specs.declared.path.Path.{Path}
use Rattle.path_text.specs.Steps.{field_step}
use Rattle.path_text.specs.Views.{step_of_kind}

-- `.users`, a step, and `.id`
pub record IsIdPath (p : Path) : Type 0 where
  pub first : Step
  pub second : Step
  pub third : Step
  pub are : p.steps.items ≡ first ∷ second ∷ third ∷ []
  pub users : step_of_kind first.kind ≡ field_step (codes "users")
  pub id : step_of_kind third.kind ≡ field_step (codes "id")
