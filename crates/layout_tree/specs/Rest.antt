-- Nodes that have their noted widths.
use Rattle.std.specs.Prelude.{List, [], ◌∷◌, Bool, true, nat_eq, ◌&&◌}
use Rattle.layout_tree.specs.declared.node.NodeSpec.{NodeSpec}
use Rattle.layout_tree.specs.declared.node.Kind.{Kind}
use Rattle.layout_tree.specs.declared.node.Kind.TheVariants as kinds

abbrev pub IsLeafKind : Kind → Bool → Bool
IsLeafKind kinds.Flag b = b
IsLeafKind kinds.I8 b = b
IsLeafKind kinds.I16 b = b
IsLeafKind kinds.I32 b = b
IsLeafKind kinds.I64 b = b
IsLeafKind kinds.Size b = b
IsLeafKind _ b = true

-- a leaf's bits are its noted width
abbrev pub rests_in : NodeSpec → Bool
rests_in s = IsLeafKind s.kind (nat_eq s.bits s.wide)

abbrev pub all_rest : List NodeSpec → Bool
all_rest [] = true
all_rest (s ∷ ss) = rests_in s && all_rest ss
