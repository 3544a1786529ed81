-- The tree that a `Wire` stands for.
use Rattle.std.specs.Prelude.{ℤ, List, [], ◌∷◌, map as map_list}
use Rattle.compact_wire.specs.Node.{Node, flag, i8, i16, i32, i64, double, binary, list, set, map, structure}
use Rattle.compact_wire.specs.Node.{Nodes, no_nodes, node, Pairs, no_pairs, pair, Fields, no_fields, field}
use Rattle.compact_wire.specs.declared.wire.Wire.{Wire, fold-Wire}
use Rattle.compact_wire.specs.declared.wire.Wire.TheOpen.{Wire-F}

abbrev pub nodes_of : List Node → Nodes
nodes_of [] = no_nodes
nodes_of (n ∷ ns) = node n (nodes_of ns)

abbrev pub pairs_of : List (Node × Node) → Pairs
pairs_of [] = no_pairs
pairs_of (p ∷ ps) = pair p.0 p.1 (pairs_of ps)

abbrev pub fields_of : List (ℤ × Node) → Fields
fields_of [] = no_fields
fields_of (f ∷ fs) = field f.0 f.1 (fields_of fs)

-- one level, with each value inside already seen as its tree
abbrev pub view_step : Wire-F Node → Node
view_step (Wire-F.Flag b) = flag b
view_step (Wire-F.I8 n) = i8 n
view_step (Wire-F.I16 n) = i16 n
view_step (Wire-F.I32 n) = i32 n
view_step (Wire-F.I64 n) = i64 n
view_step (Wire-F.Double b) = double b
view_step (Wire-F.Binary b) = binary b.items
view_step (Wire-F.List c ns) = list c (nodes_of ns)
view_step (Wire-F.Set c ns) = set c (nodes_of ns)
view_step (Wire-F.Map k v ps) = map k v (pairs_of ps)
view_step (Wire-F.Struct fs) = structure (fields_of fs)

abbrev pub view : Wire → Node
view = fold-Wire Node view_step

abbrev pub nodes_view : List Wire → Nodes
nodes_view ws = nodes_of (map_list view ws)

abbrev pub fields_view : List (ℤ × Wire) → Fields
fields_view fs = fields_of (map_list (λ f. (f.0, view f.1)) fs)

abbrev pub pairs_view : List (Wire × Wire) → Pairs
pairs_view ps = pairs_of (map_list (λ p. (view p.0, view p.1)) ps)
