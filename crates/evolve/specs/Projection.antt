-- What a value is under another definition.
use Rattle.std.specs.Prelude.{ℕ, List, [], ◌∷◌, nat_abs, Option, Some, None}
use Rattle.idl_profile.specs.declared.kinds.Need.{Need}
use Rattle.idl_profile.specs.declared.kinds.Need.TheVariants.{Optional}
use Rattle.idl_profile.specs.Types.{TypeTree, list_of, map_of, named, Named, struct_of, Fields, no_fields}
use Rattle.idl_profile.specs.Types.{field}
use Rattle.frozen_model.specs.Values.{Value, Items, Present, Record, Values, NoValue, And}
use Rattle.type_kinds.specs.Defaults.{ids_of_fields, default_field}
use Rattle.typed_tree.specs.Parts.{find_field}

-- each value projected
abbrev pub each : (Value → Value) → Values → Values
each project NoValue = NoValue
each project (And v vs) = And (project v) (each project vs)

-- a pair with its second projected; its key stays
abbrev pub with_second : (Value → Value) → Value → Value
with_second project (Record ids (And k (And v NoValue))) =
    Record (1 ∷ 2 ∷ []) (And k (And (project v) NoValue))
with_second project v = v

-- what a field has: its default where it was not found; else what was found projected, an absent optional as
-- it is
abbrev pub found_or : Value → Need → (Value → Value) → Option Value → Value
found_or default need project None = default
found_or default Optional project (Some (Present v)) = Present (project v)
found_or default Optional project (Some v) = v
found_or default need project (Some v) = project v

-- The value as one of the type: each field of a struct has what the value has under its id, projected, or its
-- default. Items, the values of maps and what is present are projected in turn; keys and scalars stay, so a
-- number is the same number in a wider kind.
abbrev mutual
  pub proj : TypeTree → Value → Value
  proj (list_of x) (Items h vs) = Items h (each (λ v. proj x v) vs)
  proj (map_of x y) (Items h vs) = Items h (each (with_second (λ v. proj y v)) vs)
  proj (named n) v = proj_named n v
  proj t v = v

  pub proj_named : Named → Value → Value
  proj_named (struct_of w fs) (Record ids vs) = Record (ids_of_fields fs) (proj_fields fs ids vs)
  proj_named n v = v

  pub proj_fields : Fields → List ℕ → Values → Values
  proj_fields no_fields ids vs = NoValue
  proj_fields (field i w n t d fs) ids vs =
      And (found_or (default_field n t d) n (λ v. proj t v) (find_field ids vs (nat_abs i)))
      (proj_fields fs ids vs)
