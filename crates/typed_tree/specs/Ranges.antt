-- The cells of values of types, part by part and by ranges.
use Rattle.std.specs.Prelude.{◌≡◌, ◌+◌}
use Rattle.idl_profile.specs.Types.{TypeTree}
use Rattle.frozen_model.specs.Trees.{KindTree, Struct, Field, NoField}
use Rattle.frozen_model.specs.Values.{Value, Of, cells, inline_cells, range_cells}
use Rattle.type_kinds.specs.KindsOf.{kinds_of}

-- the kinds of the pairs of a map, by those of its keys and of its values
abbrev pub pair_kinds : KindTree → KindTree → KindTree
pair_kinds key value = Struct (Field 1 key (Field 2 value NoField))

-- the cells of a value of a type are the inline ones of the type and, over its ranges, the count times the unit
abbrev pub CellsByRanges : Type 0
CellsByRanges = (t : TypeTree) (v : Value) → Of (kinds_of t) v
    → cells (kinds_of t) v ≡ inline_cells (kinds_of t) + range_cells (kinds_of t) v
