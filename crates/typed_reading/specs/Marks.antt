-- Marks of the fields that stood, by their places in the type, and kinds of keys.
use Rattle.std.specs.Prelude.{◌≡◌, ℕ, suc, ◌<◌, ◌≤◌, List, [], ◌∷◌, length, Bool, true, false, ℤ, Option, Some, None}
use Rattle.std.specs.Prelude.{slice_index_or, slice_get, position}
use Rattle.frozen_model.specs.Values.{Value}
use Rattle.compact_wire.specs.declared.kind.Kind.{Kind}
use Rattle.compact_wire.specs.declared.kind.Kind.TheVariants as k
use Rattle.compact_wire.specs.Node.{Node, list, set, map, structure}
use Rattle.idl_profile.specs.Types.{DefField, TypeTree}
use Rattle.type_kinds.specs.Accepted.{IsAccepted}
use Rattle.type_kinds.specs.Laws.{Any}
use Rattle.typed_reading.specs.declared.fault.NodeFault.{NodeFault}
use Rattle.typed_reading.specs.declared.fault.NodeFault.TheVariants.{MissingRequired}
use Rattle.typed_reading.specs.Codes.{code, code_of_node}
use Rattle.typed_reading.specs.Faults.{has_id, is_among}

-- the place of the first field of an id
abbrev pub place_in : List DefField → ℤ → Option ℕ
place_in fs id = position (has_id id) fs

-- a field is marked where its id stood
abbrev pub Marked : List DefField → List Bool → List ℤ → Type 0
Marked fs marks ids =
    (id : ℤ) (i : ℕ) → place_in fs id ≡ Some i
    → (i < length marks) × (slice_index_or marks i false ≡ is_among id ids)

-- each field stands at the place of its id
abbrev pub ArePlaced : List DefField → Type 0
ArePlaced fs = (i : ℕ) (f : DefField) → slice_get fs i ≡ Some f → place_in fs f.id ≡ Some i

-- the type of each field is accepted
abbrev pub AreTyped : List DefField → Type 0
AreTyped fs = (i : ℕ) (f : DefField) → slice_get fs i ≡ Some f → IsAccepted Any f.type

-- the ids of so many fields from the first on are among these
abbrev pub HaveStood : List DefField → List ℤ → ℕ → Type 0
HaveStood fs ids n = (i : ℕ) (f : DefField) → i < n → slice_get fs i ≡ Some f → is_among f.id ids ≡ true

-- one missing field, or none
abbrev pub listed : Option ℤ → List NodeFault
listed None = []
listed (Some id) = MissingRequired id ∷ []

-- the places of keys rise, from lo on and below hi
abbrev pub Climbs : ℕ → ℕ → List (ℕ × Value) → Type 0
Climbs lo hi [] = lo ≤ hi
Climbs lo hi (k ∷ ks) = (lo ≤ k.0) × Climbs (suc k.0) hi ks

-- kinds of keys
abbrev pub IsKeyKind : Kind → Type 0
IsKeyKind k.Double = ⊥
IsKeyKind k.List = ⊥
IsKeyKind k.Set = ⊥
IsKeyKind k.Map = ⊥
IsKeyKind k.Struct = ⊥
IsKeyKind _ = Unit {0}

-- a node that is no container
abbrev pub IsLeaf : Node → Type 0
IsLeaf (list c xs) = ⊥
IsLeaf (set c xs) = ⊥
IsLeaf (map a b xs) = ⊥
IsLeaf (structure xs) = ⊥
IsLeaf _ = Unit {0}

-- a node that is no container, of the code of a type
pub record IsLeafAs (t : TypeTree) (w : Node) : Type 0 where
  pub leaf : IsLeaf w
  pub same : code_of_node w ≡ code t
