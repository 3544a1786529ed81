-- What trees and references to their parts stand for.
use Rattle.std.specs.Prelude.{◌≡◌, ℕ, slice_index_or}
use Rattle.frozen_model.specs.Values.{Value, Absent}
use Rattle.typed_tree.specs.declared.pool.Pool.{Pool}
use Rattle.typed_tree.specs.declared.spot.Spot.{Spot}
use Rattle.typed_tree.specs.declared.spot.Spot.TheVariants as s
use Rattle.typed_tree.specs.declared.tree.Tree.{Tree}
use Rattle.typed_tree.specs.declared.tree.TreeRef.{TreeRef}
use Rattle.typed_tree.specs.declared.tree.TreeKind.{TreeKind}
use Rattle.typed_tree.specs.declared.tree.TreeKind.TheVariants as k
use Rattle.typed_tree.specs.Pools.{values_of}
use Rattle.typed_tree.specs.Parts.{IsFlag, IsInt, IsText, IsBytes, IsList, IsSet, IsMap, IsRecord, IsPresent}

abbrev pub value_at : Pool → ℕ → Value
value_at p n = slice_index_or (values_of p) n Absent

-- the value that a reference stands for
abbrev pub value_of_ref : TreeRef → Value
value_of_ref r = value_at r.pool.now r.node

-- the value that a tree is
abbrev pub value_of_tree : Tree → Value
value_of_tree t = value_at t.pool t.top

-- as what a node was made
abbrev pub spot_kind : Spot → TreeKind
spot_kind (s.Flag b) = k.Flag
spot_kind (s.Int z) = k.Int
spot_kind (s.Text at) = k.Text
spot_kind (s.Bytes at) = k.Bytes
spot_kind (s.List r) = k.List
spot_kind (s.Set r) = k.Set
spot_kind (s.Map r) = k.Map
spot_kind (s.Struct r) = k.Struct
spot_kind s.Absent = k.Absent
spot_kind (s.Present n) = k.Present

abbrev pub kind_at : Pool → ℕ → TreeKind
kind_at p n = spot_kind (slice_index_or p.nodes.items n s.Absent)

-- as what a value was made
abbrev pub kind_of_ref : TreeRef → TreeKind
kind_of_ref r = kind_at r.pool.now r.node

-- as what a tree was made
abbrev pub kind_of_tree : Tree → TreeKind
kind_of_tree t = kind_at t.pool t.top

-- a value that was made as one of this kind is of this form
abbrev pub HasForm : TreeKind → Value → Type 0
HasForm k.Flag v = IsFlag v
HasForm k.Int v = IsInt v
HasForm k.Text v = IsText v
HasForm k.Bytes v = IsBytes v
HasForm k.List v = IsList v
HasForm k.Set v = IsSet v
HasForm k.Map v = IsMap v
HasForm k.Struct v = IsRecord v
HasForm k.Absent v = v ≡ Absent
HasForm k.Present v = IsPresent v
