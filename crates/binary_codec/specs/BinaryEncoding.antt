-- The spelling of a value of a type in Binary Protocol.
use Rattle.std.specs.Prelude.{ℕ, ℤ, Bool, true, false, List, [], ◌∷◌, ◌++◌, length}
use Rattle.std.specs.Int.{Width, w16, w32, w64, cast_unsigned}
use Rattle.byteorder.specs.Endian.{big_bytes}
use Rattle.compact_wire.specs.Canon.{byte_of}
use Rattle.idl_profile.specs.declared.kinds.TypeKind.{TypeKind}
use Rattle.idl_profile.specs.declared.kinds.TypeKind.TheVariants as kinds
use Rattle.idl_profile.specs.declared.kinds.Need.{Need}
use Rattle.idl_profile.specs.declared.kinds.Need.TheVariants.{Plain, Required, Optional}
use Rattle.idl_profile.specs.Types as types
use Rattle.idl_profile.specs.Types.{TypeTree, scalar, text, bytes, list_of, set_of, map_of, named, kind_of}
use Rattle.idl_profile.specs.Types.{Named, enum_of, struct_of, Scalar}
use Rattle.frozen_model.specs.Values.{Value, Present, Values, NoValue, And, count, nth}
use Rattle.typed_tree.specs.Parts.{bytes_in, items_of, fields_of}
use Rattle.compact_codec.specs.Wire.{flag_in, number_in}

-- the code of a type's values; an enum is an i32
abbrev pub code_in_binary : TypeKind → ℕ
code_in_binary kinds.Flag = 2
code_in_binary kinds.I8 = 3
code_in_binary kinds.I16 = 6
code_in_binary kinds.I32 = 8
code_in_binary kinds.Enum = 8
code_in_binary kinds.I64 = 10
code_in_binary kinds.Text = 11
code_in_binary kinds.Bytes = 11
code_in_binary kinds.Struct = 12
code_in_binary kinds.Map = 13
code_in_binary kinds.Set = 14
code_in_binary kinds.List = 15

abbrev pub type_code : TypeTree → ℕ
type_code t = code_in_binary (kind_of t)

abbrev pub flag_byte : Bool → ℕ
flag_byte true = 1
flag_byte false = 0

-- a number in so many bytes of two's complement, the highest first
abbrev pub signed_bytes : Width → ℕ → ℤ → List ℕ
signed_bytes w n z = big_bytes n (cast_unsigned w z)

-- a length and the bytes
abbrev pub sized_bytes : List ℕ → List ℕ
sized_bytes b = big_bytes 4 (length b) ++ b

abbrev pub base_in_binary : Scalar → Value → List ℕ
base_in_binary types.flag v = flag_byte (flag_in v) ∷ []
base_in_binary types.i8 v = byte_of (number_in v) ∷ []
base_in_binary types.i16 v = signed_bytes w16 2 (number_in v)
base_in_binary types.i32 v = signed_bytes w32 4 (number_in v)
base_in_binary types.i64 v = signed_bytes w64 8 (number_in v)

abbrev pub in_turn : (Value → List ℕ) → Values → List ℕ
in_turn f NoValue = []
in_turn f (And v vs) = f v ++ in_turn f vs

-- of each pair its key and its value
abbrev pub pairs_in_turn : (Value → List ℕ) → (Value → List ℕ) → Values → List ℕ
pairs_in_turn f g NoValue = []
pairs_in_turn f g (And v vs) = f (nth (fields_of v) 0) ++ (g (nth (fields_of v) 1) ++ pairs_in_turn f g vs)

-- a list or a set: the code of its items, their number, and the items
abbrev pub row_in_binary : TypeTree → (Value → List ℕ) → Values → List ℕ
row_in_binary x f vs = type_code x ∷ (big_bytes 4 (count vs) ++ in_turn f vs)

-- a map, also an empty one: the codes of its keys and values, the number of its pairs, and the pairs
abbrev pub map_in_binary : TypeTree → TypeTree → (Value → List ℕ) → (Value → List ℕ) → Values → List ℕ
map_in_binary x y f g vs = type_code x ∷ type_code y ∷ (big_bytes 4 (count vs) ++ pairs_in_turn f g vs)

-- a field that is given: the code of its type, its id, and the value
abbrev pub given_in_binary : TypeTree → ℤ → (Value → List ℕ) → Value → List ℕ
given_in_binary t id f v = type_code t ∷ (signed_bytes w16 2 id ++ f v)

-- a field; an optional that is not present is left out
abbrev pub field_in_binary : Need → TypeTree → ℤ → (Value → List ℕ) → Value → List ℕ
field_in_binary Plain t id f v = given_in_binary t id f v
field_in_binary Required t id f v = given_in_binary t id f v
field_in_binary Optional t id f (Present v) = given_in_binary t id f v
field_in_binary Optional t id f _ = []

abbrev mutual
  pub binary : TypeTree → Value → List ℕ
  binary (scalar s) v = base_in_binary s v
  binary text v = sized_bytes (bytes_in v)
  binary bytes v = sized_bytes (bytes_in v)
  binary (list_of x) v = row_in_binary x (binary x) (items_of v)
  binary (set_of x) v = row_in_binary x (binary x) (items_of v)
  binary (map_of x y) v = map_in_binary x y (binary x) (binary y) (items_of v)
  binary (named n) v = named_in_binary n v

  pub named_in_binary : Named → Value → List ℕ
  named_in_binary (enum_of w ms) v = signed_bytes w32 4 (number_in v)
  named_in_binary (struct_of w fs) v = fields_in_binary fs (fields_of v)

  -- the values of these fields, each under its id, and the byte 0 that ends them
  pub fields_in_binary : types.Fields → Values → List ℕ
  fields_in_binary (types.field id w n t d fs) (And v vs) = field_in_binary n t id (binary t) v ++ fields_in_binary fs vs
  fields_in_binary _ _ = 0 ∷ []
