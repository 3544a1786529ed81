-- What is put on a builder's stack for a field.
use Rattle.std.specs.Prelude.{Option, Some, None}
use Rattle.idl_profile.specs.declared.kinds.Need.{Need}
use Rattle.idl_profile.specs.declared.kinds.Need.TheVariants.{Optional}
use Rattle.frozen_model.specs.Values.{Value, Absent, Present}

-- what a field of this need is where it has this, or nothing
abbrev pub field_from : Need → Option Value → Value
field_from need None = Absent
field_from Optional (Some v) = Present v
field_from need (Some v) = v
