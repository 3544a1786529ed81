-- What a field has that nobody gave.
use Rattle.std.specs.Prelude.{ℕ, List, [], ◌∷◌, false, pos, nat_abs}
use Rattle.idl_profile.specs.declared.kinds.Need.{Need}
use Rattle.idl_profile.specs.declared.kinds.Need.TheVariants.{Plain, Required, Optional}
use Rattle.idl_profile.specs.Types.{TypeTree, scalar, text, bytes, list_of, set_of, map_of, named, Named, enum_of, struct_of, Fields, no_fields, field, Scalar, flag, i8, i16, i32, i64, Default, without, flag_default, int_default, text_default, empty_default}
use Rattle.frozen_model.specs.Trees.{AList, ASet, AMap}
use Rattle.frozen_model.specs.Values.{Value, Values, Truth, Number, One, Bytes, Items, Absent, Record, NoValue, And}

-- false or zero
abbrev pub default_of_base : Scalar → Value
default_of_base flag = One (Truth false)
default_of_base i8 = One (Number (pos 0))
default_of_base i16 = One (Number (pos 0))
default_of_base i32 = One (Number (pos 0))
default_of_base i64 = One (Number (pos 0))

-- a written default as a value, where none is what the type has of itself; [] and {} are that too
abbrev pub written : Default → Value → Value
written without none = none
written (flag_default b) none = One (Truth b)
written (int_default z) none = One (Number z)
written (text_default bs) none = Bytes bs
written empty_default none = none

-- what a field of this need has with this written default: an optional one is absent, whatever is written
abbrev pub by_need : Need → Default → Value → Value
by_need Optional d none = Absent
by_need Plain d none = written d none
by_need Required d none = written d none

-- the ids of the fields of a struct
abbrev pub ids_of_fields : Fields → List ℕ
ids_of_fields no_fields = []
ids_of_fields (field i w n t d fs) = nat_abs i ∷ ids_of_fields fs

-- The default of a type: false, zero, empty, or the struct of the defaults of its fields, also of required ones.
abbrev mutual
  pub default_of : TypeTree → Value
  default_of (scalar s) = default_of_base s
  default_of text = Bytes []
  default_of bytes = Bytes []
  default_of (list_of x) = Items AList NoValue
  default_of (set_of x) = Items ASet NoValue
  default_of (map_of x y) = Items AMap NoValue
  default_of (named n) = default_of_named n

  pub default_of_named : Named → Value
  default_of_named (enum_of w ms) = One (Number (pos 0))
  default_of_named (struct_of w fs) = Record (ids_of_fields fs) (defaults_of fs)

  pub defaults_of : Fields → Values
  defaults_of no_fields = NoValue
  defaults_of (field i w n t d fs) = And (by_need n d (default_of t)) (defaults_of fs)

-- the default of a field of this need and type, with this written default
abbrev pub default_field : Need → TypeTree → Default → Value
default_field n t d = by_need n d (default_of t)
