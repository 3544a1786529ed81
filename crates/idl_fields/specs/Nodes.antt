-- What the types in one list stand for. The parts of a type stand before it, so one pass from the front gives each its meaning.
use Rattle.std.specs.Prelude.{ℕ, suc, Bool, true, nat_lt, ◌&&◌, List, [], ◌∷◌, ◌++◌, slice_index_or}
use Rattle.idl_fields.specs.declared.draft.TypeNode.{TypeNode}
use Rattle.idl_fields.specs.declared.draft.TypeNode.TheVariants as n
use Rattle.idl_profile.specs.declared.kinds.BaseType.TheVariants.{Flag}
use Rattle.idl_profile.specs.Meaning as m

-- the type at a place; beyond the last stands a bool
abbrev pub type_at : List m.Ty → ℕ → m.Ty
type_at ts i = slice_index_or ts i (m.scalar Flag)

-- what a node means, where the types before it mean these
abbrev pub node_type : List m.Ty → TypeNode → m.Ty
node_type ts (n.Base b) = m.scalar b
node_type ts (n.Enum k) = m.enum k
node_type ts (n.Struct k) = m.struct k
node_type ts (n.List x) = m.list (type_at ts x)
node_type ts (n.Set x) = m.set (type_at ts x)
node_type ts (n.Map x y) = m.map (type_at ts x) (type_at ts y)

-- what all mean, where the first mean these
abbrev pub known : List m.Ty → List TypeNode → List m.Ty
known ts [] = ts
known ts (x ∷ xs) = known (ts ++ node_type ts x ∷ []) xs

-- the places of its parts are below this one
abbrev pub parts_below : ℕ → TypeNode → Bool
parts_below i (n.Base b) = true
parts_below i (n.Enum k) = true
parts_below i (n.Struct k) = true
parts_below i (n.List x) = nat_lt x i
parts_below i (n.Set x) = nat_lt x i
parts_below i (n.Map x y) = nat_lt x i && nat_lt y i

-- the parts of each stand before it; the first stands at this place
abbrev pub are_placed : ℕ → List TypeNode → Bool
are_placed i [] = true
are_placed i (x ∷ xs) = parts_below i x && are_placed (suc i) xs

-- the enum or struct that a node names is among the first so many
abbrev pub named_below : ℕ → TypeNode → Bool
named_below k (n.Enum i) = nat_lt i k
named_below k (n.Struct i) = nat_lt i k
named_below k _ = true

-- among so many types and so many enums and structs, all that the node names is there
abbrev pub node_stands : ℕ → ℕ → TypeNode → Bool
node_stands types named x = parts_below types x && named_below named x
