-- What passes over a value in version 1 begin with.
use Rattle.std.specs.Prelude.{◌≡◌, ◌≤◌}
use Rattle.frozen_model.specs.Values.{Value, Of, cells, cell_limit}
use Rattle.frozen_model.specs.Layouts.{Version1, Described}

-- a layout of version 1 that has a value's form, the value within the limit of cells
pub record IsFirstOf (d : Described) (v : Value) : Type 0 where
  pub version : d.version ≡ Version1
  pub form : Of d.tree v
  pub few : cells d.tree v ≤ cell_limit
