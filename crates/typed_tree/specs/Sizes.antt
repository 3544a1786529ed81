-- Sizes of types and of their defaults, as numbers of 64 bits.
use Rattle.std.specs.Prelude.{ℕ, ◌+◌, min, length}
use Rattle.idl_profile.specs.declared.kinds.Need.{Need}
use Rattle.idl_profile.specs.declared.kinds.Need.TheVariants.{Plain, Required, Optional}
use Rattle.idl_profile.specs.Types.{TypeTree, DefField}
use Rattle.frozen_model.specs.Trees as tree
use Rattle.frozen_model.specs.Trees.{KindTree, AList, ASet, AMap}
use Rattle.frozen_model.specs.Values.{Value, Values, One, Bytes, Items, Absent, Present, Record, NoValue, And, cells}
use Rattle.type_kinds.specs.KindsOf.{kinds_of}
use Rattle.type_kinds.specs.Defaults.{default_field}
use Rattle.typed_tree.specs.declared.room.Room.{Room}
use Rattle.typed_tree.specs.Rooms.{room_of}

-- 2 ^ 64 - 1 where the number is larger
abbrev pub capped : ℕ → ℕ
capped n = min n 18446744073709551615

-- the kinds of a field of this need and type
abbrev pub field_kinds : Need → TypeTree → KindTree
field_kinds Optional t = tree.Optional tt (kinds_of t)
field_kinds Plain t = kinds_of t
field_kinds Required t = kinds_of t

-- ---- what a value takes in a pool

-- the nodes of a value: one for each part, and none for a pair of a map beside its key and value
abbrev mutual
  pub nodes_of : Value → ℕ
  nodes_of (One a) = 1
  nodes_of (Bytes bs) = 1
  nodes_of (Items AList vs) = 1 + nodes_of_all vs
  nodes_of (Items ASet vs) = 1 + nodes_of_all vs
  nodes_of (Items AMap vs) = 1 + nodes_of_pairs vs
  nodes_of Absent = 1
  nodes_of (Present v) = 1 + nodes_of v
  nodes_of (Record ids vs) = 1 + nodes_of_all vs

  pub nodes_of_all : Values → ℕ
  nodes_of_all NoValue = 0
  nodes_of_all (And v vs) = nodes_of v + nodes_of_all vs

  -- of the parts of a pair
  pub nodes_of_parts : Value → ℕ
  nodes_of_parts (Record ids vs) = nodes_of_all vs
  nodes_of_parts _ = 0

  pub nodes_of_pairs : Values → ℕ
  nodes_of_pairs NoValue = 0
  nodes_of_pairs (And v vs) = nodes_of_parts v + nodes_of_pairs vs

-- the bytes of all texts and binaries in a value
abbrev mutual
  pub bytes_of : Value → ℕ
  bytes_of (One a) = 0
  bytes_of (Bytes bs) = length bs
  bytes_of (Items h vs) = bytes_of_all vs
  bytes_of Absent = 0
  bytes_of (Present v) = bytes_of v
  bytes_of (Record ids vs) = bytes_of_all vs

  pub bytes_of_all : Values → ℕ
  bytes_of_all NoValue = 0
  bytes_of_all (And v vs) = bytes_of v + bytes_of_all vs

-- the room that a value uses
abbrev pub used_by : Value → Room
used_by v = room_of (nodes_of v) (bytes_of v)

-- the same in numbers of 64 bits
abbrev pub capped_room : Room → Room
capped_room r = room_of (capped r.nodes) (capped r.bytes)

-- what a field has that nobody gave
abbrev pub default_value : DefField → Value
default_value f = default_field f.need f.type f.default

-- the cells of that
abbrev pub cells_of_default : DefField → ℕ
cells_of_default f = cells (field_kinds f.need f.type) (default_value f)
