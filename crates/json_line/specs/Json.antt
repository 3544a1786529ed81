-- The JSON of a value of a type.
use Rattle.std.specs.Prelude.{ℕ, pos, negsuc, List, [], ◌∷◌, ◌++◌, Option, Some, None}
use Rattle.hex.specs.Hex.{encode_lower}
use Rattle.serde_json.specs.Data.{Data, null, boolean, number, unsigned, negative, string, array, object}
use Rattle.serde_json.specs.Data.{Items, no_items, item, Members, no_members, member}
use Rattle.serde_json.specs.Written.{compact_text}
use Rattle.idl_profile.specs.declared.kinds.Need.{Need}
use Rattle.idl_profile.specs.declared.kinds.Need.TheVariants.{Plain, Required, Optional}
use Rattle.idl_profile.specs.Types.{TypeTree, scalar, text, bytes, list_of, set_of, map_of, named}
use Rattle.idl_profile.specs.Types.{Named, enum_of, struct_of, Fields, field}
use Rattle.frozen_model.specs.Values.{Value, Truth, Number, One, Present, Values, NoValue, And, nth}
use Rattle.typed_tree.specs.Parts.{bytes_in, items_of, fields_of}

-- a flag is a boolean, and a number a whole number
abbrev pub leaf : Value → Data
leaf (One (Truth b)) = boolean b
leaf (One (Number (pos n))) = number (unsigned n)
leaf (One (Number (negsuc n))) = number (negative (negsuc n))
leaf _ = null

abbrev pub each : (Value → Data) → Values → Items
each f NoValue = no_items
each f (And v vs) = item (f v) (each f vs)

-- a pair is the array of its key and its value
abbrev pub both : (Value → Data) → (Value → Data) → Value → Data
both f g v = array (item (f (nth (fields_of v) 0)) (item (g (nth (fields_of v) 1)) no_items))

-- the field in front of the others; an optional that is not present is left out
abbrev pub with_field : Need → List ℕ → (Value → Data) → Value → Members → Members
with_field Plain name f v ms = member name (f v) ms
with_field Required name f v ms = member name (f v) ms
with_field Optional name f (Present v) ms = member name (f v) ms
with_field Optional name f _ ms = ms

-- the same of what the field has, where it has something
abbrev pub with_held : List ℕ → (Value → Data) → Option Value → Members → Members
with_held name f None ms = ms
with_held name f (Some v) ms = member name (f v) ms

-- The value as JSON. Bytes are the text of their lower hexadecimal digits, a list, a set or a map is the
-- array of its items, and a struct the object of its fields by rising id, each under its name.
abbrev mutual
  pub as_json : TypeTree → Value → Data
  as_json (scalar s) v = leaf v
  as_json text v = string (bytes_in v)
  as_json bytes v = string (encode_lower (bytes_in v))
  as_json (list_of x) v = array (each (as_json x) (items_of v))
  as_json (set_of x) v = array (each (as_json x) (items_of v))
  as_json (map_of x y) v = array (each (both (as_json x) (as_json y)) (items_of v))
  as_json (named n) v = as_json_named n v

  pub as_json_named : Named → Value → Data
  as_json_named (enum_of w ms) v = leaf v
  as_json_named (struct_of w fs) v = object (members fs (fields_of v))

  pub members : Fields → Values → Members
  members (field id name n t d fs) (And v vs) = with_field n name (as_json t) v (members fs vs)
  members _ _ = no_members

-- its text, with no space
abbrev pub json : TypeTree → Value → List ℕ
json t v = compact_text (as_json t v)

-- a line of it
abbrev pub line : TypeTree → Value → List ℕ
line t v = json t v ++ 10 ∷ []

-- values as lines, one after the other
abbrev pub each_line : (Value → Data) → Values → List ℕ
each_line f NoValue = []
each_line f (And v vs) = compact_text (f v) ++ (10 ∷ each_line f vs)

-- the items of a list or a set, or the pairs of a map, as lines; a value of another type has none
abbrev pub lines : TypeTree → Value → List ℕ
lines (list_of x) v = each_line (as_json x) (items_of v)
lines (set_of x) v = each_line (as_json x) (items_of v)
lines (map_of x y) v = each_line (both (as_json x) (as_json y)) (items_of v)
lines t v = []
