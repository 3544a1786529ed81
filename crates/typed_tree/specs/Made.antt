-- As what the parts of a tree were made: of nodes and kind trees. A value does not say whether its bytes are a text.
use Rattle.std.specs.Prelude.{◌≡◌, ◌⊎◌, ◌<◌, ◌+◌, ◌*◌, ◌-◌, ℕ, zero, suc, List, [], ◌∷◌, length, map, slice_index_or, slice_get, Some, nat_eq, if◌then◌else◌}
use Rattle.std.specs.List.{AllByRecursion}
use Rattle.idl_profile.specs.Types.{DefField}
use Rattle.frozen_model.specs.Trees.{LeafKind, Flag, Integer, ByteKind, Text, Binary, Holder, AList, ASet, AMap}
use Rattle.frozen_model.specs.Trees.{KindTree, KindTrees, Leaf, ByteRange, ItemRange, Optional, Struct, NoField, Field, ids_of}
use Rattle.typed_tree.specs.declared.builder.Builder.{Builder}
use Rattle.typed_tree.specs.declared.joined.Joined.{Joined}
use Rattle.typed_tree.specs.declared.joined.Joined.TheVariants as j
use Rattle.typed_tree.specs.declared.spot.Spot.{Spot}
use Rattle.typed_tree.specs.declared.spot.Spot.TheVariants as s
use Rattle.typed_tree.specs.declared.tree.Tree.{Tree}
use Rattle.typed_tree.specs.declared.tree.TreeRef.{TreeRef}
use Rattle.typed_tree.specs.declared.tree.TreeKind.{TreeKind}
use Rattle.typed_tree.specs.declared.tree.TreeKind.TheVariants as k
use Rattle.typed_tree.specs.Spots.{Store, linked}
use Rattle.typed_tree.specs.Pools.{store_of}
use Rattle.typed_tree.specs.References.{spot_kind}
use Rattle.typed_tree.specs.Sizes.{field_kinds}
use Rattle.typed_tree.specs.Trees.{trees}

-- ---- what a node has

abbrev pub spot_at : List Spot → ℕ → Spot
spot_at xs n = slice_index_or xs n s.Absent

-- the numbers of its parts: of a map its keys and values by turns, of a struct its fields by rising id
abbrev pub parts_of : Store → Spot → List ℕ
parts_of st (s.List r) = map (λ l. l.node) (linked st r)
parts_of st (s.Set r) = map (λ l. l.node) (linked st r)
parts_of st (s.Map r) = map (λ l. l.node) (linked st r)
parts_of st (s.Struct r) = map (λ l. l.node) (linked st r)
parts_of st (s.Present n) = n ∷ []
parts_of st (s.Flag b) = []
parts_of st (s.Int z) = []
parts_of st (s.Text at) = []
parts_of st (s.Bytes at) = []
parts_of st s.Absent = []

-- the ids of a struct's fields
abbrev pub ids_in : Store → Spot → List ℕ
ids_in st (s.Struct r) = map (λ l. l.id) (linked st r)
ids_in st _ = []

-- ---- as what a part of these kinds is made

abbrev pub leaf_made : LeafKind → TreeKind
leaf_made Flag = k.Flag
leaf_made (Integer w) = k.Int

abbrev pub bytes_made : ByteKind → TreeKind
bytes_made Text = k.Text
bytes_made Binary = k.Bytes

abbrev pub holder_made : Holder → TreeKind
holder_made AList = k.List
holder_made ASet = k.Set
holder_made AMap = k.Map

abbrev pub holder_of : Joined → Holder
holder_of j.List = AList
holder_of j.Set = ASet
holder_of j.Map = AMap

-- keys and values by turns stand to each other so
abbrev pub ByTurns : (ℕ → ℕ → Type 0) → List ℕ → Type 0
ByTurns R (key ∷ value ∷ ns) = R key value × ByTurns R ns
ByTurns R _ = Unit {0}

-- the items of a list or a set, and the keys and values of a map
abbrev pub HoldsMade : Holder → (ℕ → Type 0) → (ℕ → ℕ → Type 0) → List ℕ → Type 0
HoldsMade AList P R ns = AllByRecursion P ns
HoldsMade ASet P R ns = AllByRecursion P ns
HoldsMade AMap P R ns = ByTurns R ns

abbrev mutual
  -- the node was made as one of these kinds, and so were all its parts: a text as a text, bytes as bytes
  pub MadeAs : Store → List Spot → KindTree → Spot → Type 0
  MadeAs st xs (Leaf kind a) x = spot_kind x ≡ leaf_made kind
  MadeAs st xs (ByteRange t d c) x = spot_kind x ≡ bytes_made t
  MadeAs st xs (ItemRange h d c l) x =
      (spot_kind x ≡ holder_made h)
      × HoldsMade h (λ n. MadeAs st xs l (spot_at xs n)) (λ m n. PairMade st xs l m n) (parts_of st x)
  MadeAs st xs (Optional w l) x =
      ((spot_kind x ≡ k.Absent) ⊎ (spot_kind x ≡ k.Present))
      × AllByRecursion (λ n. MadeAs st xs l (spot_at xs n)) (parts_of st x)
  MadeAs st xs (Struct ls) x = (spot_kind x ≡ k.Struct) × (ids_in st x ≡ ids_of ls) × AllMade st xs ls (parts_of st x)

  -- a key and a value, of the kinds of a pair
  pub PairMade : Store → List Spot → KindTree → ℕ → ℕ → Type 0
  PairMade st xs (Struct ls) m n = AllMade st xs ls (m ∷ n ∷ [])
  PairMade st xs _ m n = ⊥

  -- the fields of a struct, each as one of its own kinds
  pub AllMade : Store → List Spot → KindTrees → List ℕ → Type 0
  AllMade st xs (Field i l ls) (n ∷ ns) = MadeAs st xs l (spot_at xs n) × AllMade st xs ls ns
  AllMade st xs NoField [] = Unit {0}
  AllMade st xs _ _ = ⊥

abbrev pub MadeAt : Store → List Spot → KindTree → ℕ → Type 0
MadeAt st xs t n = MadeAs st xs t (spot_at xs n)

-- ---- of references, trees and builders

-- what a reference stands for was made as one of these kinds, with all its parts
abbrev pub RefIsMade : KindTree → TreeRef → Type 0
RefIsMade t r = MadeAt (store_of r.pool.now) r.pool.now.nodes.items t r.node

abbrev pub TreeIsMade : KindTree → Tree → Type 0
TreeIsMade t v = MadeAt (store_of v.pool) v.pool.nodes.items t v.top

-- the tree at a place of a builder, counted from 0 for the first that was made
abbrev pub IsMade : Builder → ℕ → KindTree → Type 0
IsMade b i t = MadeAt (store_of b.pool) b.pool.nodes.items t (slice_index_or b.stack.items i 0)

-- so many trees from a place on
abbrev pub AreMade : Builder → ℕ → ℕ → KindTree → Type 0
AreMade b from n t = (i : ℕ) → i < n → IsMade b (from + i) t

-- so many keys and values by turns
abbrev pub AreMadeByTurns : Builder → ℕ → ℕ → KindTree → KindTree → Type 0
AreMadeByTurns b from n key value =
    (i : ℕ) → i < n → IsMade b (from + 2 * i) key × IsMade b (from + 2 * i + 1) value

-- the kinds of the field with an id; where there is none, those of an empty struct
abbrev pub kind_under : KindTrees → ℕ → KindTree
kind_under NoField id = Struct NoField
kind_under (Field i l ls) id = if nat_eq i id then l else kind_under ls id

-- the kinds of the field at a place, in the order of ids; behind the last, those of an empty struct
abbrev pub kind_at : KindTrees → ℕ → KindTree
kind_at NoField place = Struct NoField
kind_at (Field i l ls) zero = l
kind_at (Field i l ls) (suc place) = kind_at ls place

-- so many trees from a place on, each as the field with the id at its place
abbrev pub AreMadeUnder : Builder → ℕ → List ℕ → KindTrees → Type 0
AreMadeUnder b from ids ls = (i : ℕ) → i < length ids → IsMade b (from + i) (kind_under ls (slice_index_or ids i 0))

-- so many trees from a place on, each as the field of a definition at its place
abbrev pub FieldsAreMade : Builder → ℕ → List DefField → ℕ → Type 0
FieldsAreMade b from fs n =
    (i : ℕ) (f : DefField) → i < n → slice_get fs i ≡ Some f → IsMade b (from + i) (field_kinds f.need f.type)

-- the items of a list, a set or a map of these kinds, by the numbers of their nodes
abbrev pub ItemsAreMade : Joined → Builder → KindTree → List ℕ → Type 0
ItemsAreMade to b l ns =
    let st = store_of b.pool in
    let xs = b.pool.nodes.items in
    HoldsMade (holder_of to) (MadeAt st xs l) (PairMade st xs l) ns

-- A tree of these kinds stands on top in place of the last n; those below are made as they were.
pub record Makes (old new : Builder) (n : ℕ) (t : KindTree) : Type 0 where
  pub many : length (trees new) ≡ length (trees old) - n + 1
  pub kept : (i : ℕ) (l : KindTree) → i < length (trees old) - n → IsMade old i l → IsMade new i l
  pub made : IsMade new (length (trees old) - n) t
