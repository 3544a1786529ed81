-- The wire tree of a value of a type.
use Rattle.std.specs.Prelude.{ℕ, ℤ, pos, Bool, false}
use Rattle.idl_profile.specs.declared.kinds.Need.{Need}
use Rattle.idl_profile.specs.declared.kinds.Need.TheVariants.{Plain, Required, Optional}
use Rattle.idl_profile.specs.Types as types
use Rattle.idl_profile.specs.Types.{TypeTree, scalar, text, bytes, list_of, set_of, map_of, named}
use Rattle.idl_profile.specs.Types.{Named, enum_of, struct_of, Scalar}
use Rattle.frozen_model.specs.Values.{Value, Truth, Number, One, Present, Values, NoValue, And, nth}
use Rattle.compact_wire.specs.Node.{Node, flag, i8, i16, i32, i64, binary, list, set, map, structure}
use Rattle.compact_wire.specs.Node.{Nodes, no_nodes, node, Pairs, no_pairs, pair, Fields, no_fields, field}
use Rattle.typed_tree.specs.Parts.{bytes_in, items_of, fields_of}
use Rattle.typed_reading.specs.Codes.{code}

-- what a flag and a number hold; no other value holds any
abbrev pub flag_in : Value → Bool
flag_in (One (Truth b)) = b
flag_in _ = false

abbrev pub number_in : Value → ℤ
number_in (One (Number z)) = z
number_in _ = pos 0

abbrev pub wire_of_base : Scalar → Value → Node
wire_of_base types.flag v = flag (flag_in v)
wire_of_base types.i8 v = i8 (number_in v)
wire_of_base types.i16 v = i16 (number_in v)
wire_of_base types.i32 v = i32 (number_in v)
wire_of_base types.i64 v = i64 (number_in v)

abbrev pub each : (Value → Node) → Values → Nodes
each f NoValue = no_nodes
each f (And v vs) = node (f v) (each f vs)

-- of each pair its key and its value
abbrev pub each_pair : (Value → Node) → (Value → Node) → Values → Pairs
each_pair f g NoValue = no_pairs
each_pair f g (And v vs) = pair (f (nth (fields_of v) 0)) (g (nth (fields_of v) 1)) (each_pair f g vs)

-- pairs with the codes of their keys and values; an empty map has none
abbrev pub map_with : ℕ → ℕ → Pairs → Node
map_with a b no_pairs = map 0 0 no_pairs
map_with a b (pair x y xs) = map a b (pair x y xs)

-- the field in front of the others; an optional that is not present is left out
abbrev pub with_field : Need → ℤ → (Value → Node) → Value → Fields → Fields
with_field Plain id f v xs = field id (f v) xs
with_field Required id f v xs = field id (f v) xs
with_field Optional id f (Present v) xs = field id (f v) xs
with_field Optional id f _ xs = xs

abbrev mutual
  pub wire : TypeTree → Value → Node
  wire (scalar s) v = wire_of_base s v
  wire text v = binary (bytes_in v)
  wire bytes v = binary (bytes_in v)
  wire (list_of x) v = list (code x) (each (wire x) (items_of v))
  wire (set_of x) v = set (code x) (each (wire x) (items_of v))
  wire (map_of x y) v = map_with (code x) (code y) (each_pair (wire x) (wire y) (items_of v))
  wire (named n) v = wire_of_named n v

  pub wire_of_named : Named → Value → Node
  wire_of_named (enum_of w ms) v = i32 (number_in v)
  wire_of_named (struct_of w fs) v = structure (wire_of_fields fs (fields_of v))

  -- the values of these fields, each under its id
  pub wire_of_fields : types.Fields → Values → Fields
  wire_of_fields (types.field id w n t d fs) (And v vs) = with_field n id (wire t) v (wire_of_fields fs vs)
  wire_of_fields _ _ = no_fields
