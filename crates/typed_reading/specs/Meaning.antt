-- The value of a wire tree that is read as a type.
use Rattle.std.specs.Prelude.{◌≡◌, ℤ, List, [], ◌∷◌, cond, Option, Some, None}
use Rattle.std.specs.Prelude as prelude
use Rattle.std.specs.Ordering.{int_eq}
use Rattle.frozen_model.specs.Trees.{AList, ASet, AMap}
use Rattle.frozen_model.specs.Values.{Value, Truth, Number, One, Bytes, Items, Absent, Present}
use Rattle.compact_wire.specs.Node.{Node, flag, i8, i16, i32, i64, double, binary, list, set, map, structure}
use Rattle.compact_wire.specs.Node.{Nodes, no_nodes, node, Pairs, no_pairs, pair, Fields, no_fields, field}
use Rattle.idl_profile.specs.Types.{TypeTree, DefField, fields_of}
use Rattle.idl_profile.specs.declared.kinds.Need.{Need}
use Rattle.idl_profile.specs.declared.kinds.Need.TheVariants as need
use Rattle.idl_parse.specs.Refs.{element_of, key_of, value_of}
use Rattle.key_order.specs.InOrder.{row, in_order}
use Rattle.typed_tree.specs.Spots.{pair as pair_of}
use Rattle.typed_tree.specs.Sizes.{default_value}
use Rattle.typed_tree.specs.Filled.{struct_with}
use Rattle.typed_reading.specs.Faults.{faults, type_in}

-- ---- the fields of a struct

-- what a field of that need has: the value that stands there, and else the default
abbrev pub given : Need → Option Value → Value → Value
given need.Plain None d = d
given need.Plain (Some v) d = v
given need.Required None d = d
given need.Required (Some v) d = v
given need.Optional None d = d
given need.Optional (Some v) d = Present v

-- the first of the values under an id
abbrev pub under : ℤ → List (ℤ × Value) → Option Value
under id [] = None
under id (r ∷ rs) = cond (int_eq r.0 id) (Some r.1) (under id rs)

abbrev pub field_value : List (ℤ × Value) → DefField → Value
field_value rs f = given f.need (under f.id rs) (default_value f)

-- the value of a field, where it is known, in front of the others
abbrev pub reading : ℤ → Option TypeTree → (TypeTree → Value) → List (ℤ × Value) → List (ℤ × Value)
reading id None value_as rs = rs
reading id (Some t) value_as rs = (id, value_as t) ∷ rs

-- ---- values

abbrev mutual
  pub meaning : Node → TypeTree → Value
  meaning (flag b) t = One (Truth b)
  meaning (i8 z) t = One (Number z)
  meaning (i16 z) t = One (Number z)
  meaning (i32 z) t = One (Number z)
  meaning (i64 z) t = One (Number z)
  meaning (double b) t = Absent
  meaning (binary b) t = Bytes b
  meaning (list c xs) t = Items AList (row (meanings xs (element_of t)))
  meaning (set c xs) t = Items ASet (row (in_order (meanings xs (element_of t))))
  meaning (map a b xs) t = Items AMap (row (in_order (meanings_of_pairs xs (key_of t) (value_of t))))
  meaning (structure xs) t = struct_with (fields_of t) (prelude.map (field_value (readings xs (fields_of t))) (fields_of t))

  pub meanings : Nodes → TypeTree → List Value
  meanings no_nodes t = []
  meanings (node x xs) t = meaning x t ∷ meanings xs t

  pub meanings_of_pairs : Pairs → TypeTree → TypeTree → List Value
  meanings_of_pairs no_pairs k v = []
  meanings_of_pairs (pair x y xs) k v = pair_of (meaning x k) (meaning y v) ∷ meanings_of_pairs xs k v

  -- the values of the known fields, by their ids
  pub readings : Fields → List DefField → List (ℤ × Value)
  readings no_fields fs = []
  readings (field id x xs) fs = reading id (type_in fs id) (meaning x) (readings xs fs)

-- no node has a fault, and this is the value of the tree
pub record Typed (t : TypeTree) (w : Node) (v : Value) : Type 0 where
  pub clean : faults w t 0 ≡ []
  pub is : meaning w t ≡ v
