-- The layouts of a schema, each by its number and the bytes that spell it.
use Rattle.std.specs.Prelude.{◌≡◌, ℤ, List, map}
use Rattle.std.specs.List.{AllByRecursion}
use Rattle.frozen_model.specs.Trees.{AMap}
use Rattle.frozen_model.specs.Values.{Value, One, Number, Items}
use Rattle.frozen_model.specs.Layouts.{Version}
use Rattle.compact_wire.specs.Node.{Node}
use Rattle.idl_profile.specs.Types.{TypeTree}
use Rattle.key_order.specs.InOrder.{row}
use Rattle.typed_tree.specs.Spots.{pair}
use Rattle.typed_reading.specs.Answers.{IsValue}
use Rattle.layout_schema.specs.declared.table.LayoutBytes.{LayoutBytes}
use Rattle.layout_schema.specs.Schemas.{layout_type}
use Rattle.layout_schema.specs.Standing.{spelled_as}

-- a layout under its number, as a value of the type
abbrev pub layout_value : TypeTree → LayoutBytes → Value
layout_value t x = pair (One (Number x.number)) (spelled_as t x.bytes.now)

abbrev pub number_of : LayoutBytes → ℤ
number_of x = x.number

-- its bytes spell a value of the type
abbrev pub IsWhole : TypeTree → LayoutBytes → Type 0
IsWhole t x = (w : Node) × IsValue t x.bytes.now w

-- the layouts are the map's, by rising numbers
pub record AreOf (v : Version) (m : Value) (xs : List LayoutBytes) : Type 0 where
  pub are : m ≡ Items AMap (row (map (layout_value (layout_type v)) xs))
  pub whole : AllByRecursion (IsWhole (layout_type v)) xs
