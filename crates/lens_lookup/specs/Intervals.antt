-- The items of a set, or the pairs of a map, whose keys lie in an interval.
use Rattle.std.specs.Prelude.{Bool, true, false, if◌then◌else◌}
use Rattle.idl_profile.specs.declared.kinds.TypeKind.{TypeKind}
use Rattle.idl_profile.specs.declared.kinds.TypeKind.TheVariants as kinds
use Rattle.idl_profile.specs.Types.{TypeTree, set_of, map_of, kind_of}
use Rattle.frozen_model.specs.Values.{Value, Values, NoValue, And, key_less, key_of}
use Rattle.path_text.specs.Steps.{PathKey}
use Rattle.path_text.specs.Fitting.{is_key_of}
use Rattle.lens_lookup.specs.Sought.{sought, value_of_key}

-- sets and maps have keys
abbrev pub HasKeys : TypeKind → Type 0
HasKeys kinds.Set = Unit {0}
HasKeys kinds.Map = Unit {0}
HasKeys kind = ⊥

-- whether a key literal is one of the keys of a set or a map of this type, by its form and its range
abbrev pub is_key_in : TypeTree → PathKey → Bool
is_key_in (set_of x) key = is_key_of (kind_of x) key
is_key_in (map_of x y) key = is_key_of (kind_of x) key
is_key_in t key = false

-- whether a key is below a key literal
abbrev pub is_below : PathKey → Value → Bool
is_below literal key = key_less key (value_of_key (sought literal))

-- whether a key is at least the one, and below the other
abbrev pub is_between : PathKey → PathKey → Value → Bool
is_between low high key = if is_below low key then false else is_below high key

-- those of the values whose keys are, in the same order
abbrev pub items_between : PathKey → PathKey → Values → Values
items_between low high NoValue = NoValue
items_between low high (And v vs) =
    if is_between low high (key_of v) then And v (items_between low high vs) else items_between low high vs
