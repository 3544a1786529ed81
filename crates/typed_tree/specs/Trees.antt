-- The trees that a builder has made, and what a call does to them.
use Rattle.std.specs.Prelude.{◌≡◌, ℕ, ◌-◌, List, [], ◌∷◌, ◌++◌, length, take, drop, map, slice_index_or}
use Rattle.frozen_model.specs.Trees.{AList, ASet, AMap}
use Rattle.frozen_model.specs.Values.{Value, Absent, Items}
use Rattle.key_order.specs.InOrder.{row}
use Rattle.typed_tree.specs.declared.builder.Builder.{Builder}
use Rattle.typed_tree.specs.declared.pool.Pool.{Pool}
use Rattle.typed_tree.specs.declared.joined.Joined.{Joined}
use Rattle.typed_tree.specs.declared.joined.Joined.TheVariants as j
use Rattle.typed_tree.specs.declared.room.Room.{Room}
use Rattle.typed_tree.specs.declared.spot.Run.{Run}
use Rattle.typed_tree.specs.declared.spot.Spot.{Spot}
use Rattle.typed_tree.specs.declared.spot.Spot.TheVariants as s
use Rattle.typed_tree.specs.declared.tree.TreeKind.{TreeKind}
use Rattle.typed_tree.specs.declared.tree.TreeKind.TheVariants as k
use Rattle.typed_tree.specs.Parts.{pairs}
use Rattle.typed_tree.specs.Pools.{values_of}
use Rattle.typed_tree.specs.References.{kind_at}
use Rattle.typed_tree.specs.Rooms.{without}

abbrev pub trees_in : List Value → List ℕ → List Value
trees_in vs numbers = map (λ n. slice_index_or vs n Absent) numbers

abbrev pub kinds_in : Pool → List ℕ → List TreeKind
kinds_in p numbers = map (kind_at p) numbers

-- the trees, the last that was made at the end
abbrev pub trees : Builder → List Value
trees b = trees_in (values_of b.pool) b.stack.items

-- as what each of them was made
abbrev pub kinds : Builder → List TreeKind
kinds b = kinds_in b.pool b.stack.items

-- the room that is left
abbrev pub room : Builder → Room
room b = b.room

-- the last so many, and those before them
abbrev pub last : {A : Type 0} → ℕ → List A → List A
last n xs = drop (length xs - n) xs

abbrev pub but_last : {A : Type 0} → ℕ → List A → List A
but_last n xs = take (length xs - n) xs

-- one tree more: this value, made as one of this kind, which uses so much room
pub record Pushes (old new : Builder) (v : Value) (k : TreeKind) (used : Room) : Type 0 where
  pub trees : trees new ≡ trees old ++ v ∷ []
  pub kinds : kinds new ≡ kinds old ++ k ∷ []
  pub room : room new ≡ without (room old) used

-- the last n trees have become this one
pub record Joins (old new : Builder) (n : ℕ) (v : Value) (k : TreeKind) (used : Room) : Type 0 where
  pub trees : trees new ≡ but_last n (trees old) ++ v ∷ []
  pub kinds : kinds new ≡ but_last n (kinds old) ++ k ∷ []
  pub room : room new ≡ without (room old) used

-- the builder is as it was
pub record IsAsBefore (old new : Builder) : Type 0 where
  pub trees : trees new ≡ trees old
  pub kinds : kinds new ≡ kinds old
  pub room : room new ≡ room old

-- trees that stand in order as a list, a set or a map
abbrev pub joined : Joined → List Value → Value
joined j.List ts = Items AList (row ts)
joined j.Set ts = Items ASet (row ts)
joined j.Map ts = Items AMap (row (pairs ts))

-- the node of such trees, whose links stand at a run
abbrev pub joined_spot : Joined → Run → Spot
joined_spot j.List r = s.List r
joined_spot j.Set r = s.Set r
joined_spot j.Map r = s.Map r

abbrev pub joined_kind : Joined → TreeKind
joined_kind j.List = k.List
joined_kind j.Set = k.Set
joined_kind j.Map = k.Map
