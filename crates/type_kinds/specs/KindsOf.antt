-- The kinds of a type of a definition.
use Rattle.std.specs.Prelude.{nat_abs}
use Rattle.idl_profile.specs.declared.kinds.Need.TheVariants.{Plain, Required, Optional}
use Rattle.idl_profile.specs.Types.{TypeTree, scalar, text, bytes, list_of, set_of, map_of, named, Named, enum_of, struct_of, Fields, no_fields, field, Scalar, flag, i8, i16, i32, i64}
use Rattle.frozen_model.specs.Trees as tree
use Rattle.frozen_model.specs.Trees.{LeafKind, Flag, Integer, I8, I16, I32, I64, Text, Binary, AList, ASet, AMap, Leaf, ByteRange, ItemRange, Struct, NoField, Field, KindTree, KindTrees}

-- the kind of a bool or a whole number
abbrev pub leaf_kind : Scalar → LeafKind
leaf_kind flag = Flag
leaf_kind i8 = Integer I8
leaf_kind i16 = Integer I16
leaf_kind i32 = Integer I32
leaf_kind i64 = Integer I64

-- The kind tree of a type: names are left out, an enum is an i32, the item of a map is the pair of fields 1 and 2, and
-- an optional field is an optional over its type.
abbrev mutual
  pub kinds_of : TypeTree → KindTree
  kinds_of (scalar s) = Leaf (leaf_kind s) tt
  kinds_of text = ByteRange Text tt tt
  kinds_of bytes = ByteRange Binary tt tt
  kinds_of (list_of x) = ItemRange AList tt tt (kinds_of x)
  kinds_of (set_of x) = ItemRange ASet tt tt (kinds_of x)
  kinds_of (map_of x y) = ItemRange AMap tt tt (Struct (Field 1 (kinds_of x) (Field 2 (kinds_of y) NoField)))
  kinds_of (named n) = kinds_of_named n

  pub kinds_of_named : Named → KindTree
  kinds_of_named (enum_of w ms) = Leaf (Integer I32) tt
  kinds_of_named (struct_of w fs) = Struct (kinds_of_fields fs)

  pub kinds_of_fields : Fields → KindTrees
  kinds_of_fields no_fields = NoField
  kinds_of_fields (field i w Optional t d fs) = Field (nat_abs i) (tree.Optional tt (kinds_of t)) (kinds_of_fields fs)
  kinds_of_fields (field i w Plain t d fs) = Field (nat_abs i) (kinds_of t) (kinds_of_fields fs)
  kinds_of_fields (field i w Required t d fs) = Field (nat_abs i) (kinds_of t) (kinds_of_fields fs)
