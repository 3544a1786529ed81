-- Values of the root of a definition.
use Rattle.std.specs.Prelude.{◌≤◌, List}
use Rattle.idl_profile.specs.Types.{Named, root_of}
use Rattle.type_kinds.specs.KindsOf.{kinds_of}
use Rattle.frozen_model.specs.Values.{Value, Of, cells, cell_limit}

-- a value of a definition's root, within the limit of cells
pub record IsRootValue (d : List Named) (v : Value) : Type 0 where
  pub form : Of (kinds_of (root_of d)) v
  pub few : cells (kinds_of (root_of d)) v ≤ cell_limit
