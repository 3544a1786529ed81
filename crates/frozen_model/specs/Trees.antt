-- Kind trees: what kind each part of a value has. A layout is such a tree with a width at each leaf.
use Rattle.std.specs.Prelude.{◌≡◌, ℕ, suc, ◌+◌, ◌≤◌, ◌<◌, max, List, [], ◌∷◌}

-- the kinds of whole numbers; an enum is I32
pub data Whole : Type 0 where
  I8 : Whole
  I16 : Whole
  I32 : Whole
  I64 : Whole

-- the kinds that are one leaf
pub data LeafKind : Type 0 where
  Flag : LeafKind
  Integer : Whole → LeafKind

-- the kinds that are bytes: a text is UTF-8
pub data ByteKind : Type 0 where
  Text : ByteKind
  Binary : ByteKind

-- the kinds that hold items
pub data Holder : Type 0 where
  AList : Holder
  ASet : Holder
  AMap : Holder

mutual
  -- A tree with an A at each scalar, and a B at each distance, count and flag of an optional: a scalar; a text or bytes
  -- with its distance and count; a list, set or map with its distance, its count and its item, which for a map is the
  -- pair of fields 1 and 2; an optional with its flag and its value; a struct.
  pub data Tree (A B : Type 0) : Type 0 where
    Leaf : LeafKind → A → Tree A B
    ByteRange : ByteKind → B → B → Tree A B
    ItemRange : Holder → B → B → Tree A B → Tree A B
    Optional : B → Tree A B → Tree A B
    Struct : Trees A B → Tree A B

  -- the fields of a struct, each with its id
  pub data Trees (A B : Type 0) : Type 0 where
    NoField : Trees A B
    Field : ℕ → Tree A B → Trees A B → Trees A B

-- a tree of kinds alone
abbrev pub KindTree : Type 0
KindTree = Tree (Unit {0}) (Unit {0})

-- the kind trees of the fields of a struct
abbrev pub KindTrees : Type 0
KindTrees = Trees (Unit {0}) (Unit {0})

-- the kinds of a tree
abbrev mutual
  pub kinds : {A B : Type 0} → Tree A B → KindTree
  kinds (Leaf k a) = Leaf k tt
  kinds (ByteRange t d c) = ByteRange t tt tt
  kinds (ItemRange h d c l) = ItemRange h tt tt (kinds l)
  kinds (Optional w l) = Optional tt (kinds l)
  kinds (Struct ls) = Struct (kinds_all ls)

  pub kinds_all : {A B : Type 0} → Trees A B → KindTrees
  kinds_all NoField = NoField
  kinds_all (Field i l ls) = Field i (kinds l) (kinds_all ls)

-- the ids of the fields, in their order
abbrev pub ids_of : {A B : Type 0} → Trees A B → List ℕ
ids_of NoField = []
ids_of (Field i l ls) = i ∷ ids_of ls

-- Two trees of one kind tree whose leaves stand to each other so: by R at each scalar, by S at each distance, by T at
-- each count and each flag of an optional.
mutual
  pub data Leafwise {A B C D : Type 0} (R : LeafKind → A → C → Type 0) (S T : B → D → Type 0) : Tree A B → Tree C D
      → Type 0 where
    leaf : {k : LeafKind} {a : A} {c : C} → R k a c → Leafwise R S T (Leaf k a) (Leaf k c)
    byte_range : {t : ByteKind} {d c : B} {d' c' : D} → S d d' → T c c'
        → Leafwise R S T (ByteRange t d c) (ByteRange t d' c')
    item_range : {h : Holder} {d c : B} {d' c' : D} {l : Tree A B} {m : Tree C D} → S d d' → T c c' → Leafwise R S T l m
        → Leafwise R S T (ItemRange h d c l) (ItemRange h d' c' m)
    optional : {w : B} {w' : D} {l : Tree A B} {m : Tree C D} → T w w' → Leafwise R S T l m
        → Leafwise R S T (Optional w l) (Optional w' m)
    struct : {ls : Trees A B} {ms : Trees C D} → AllLeafwise R S T ls ms → Leafwise R S T (Struct ls) (Struct ms)

  -- the same of the fields of a struct
  pub data AllLeafwise {A B C D : Type 0} (R : LeafKind → A → C → Type 0) (S T : B → D → Type 0) : Trees A B
      → Trees C D → Type 0 where
    no_field : AllLeafwise R S T NoField NoField
    field : {i : ℕ} {l : Tree A B} {m : Tree C D} {ls : Trees A B} {ms : Trees C D} → Leafwise R S T l m
        → AllLeafwise R S T ls ms
        → AllLeafwise R S T (Field i l ls) (Field i m ms)

-- two trees of one kind tree
abbrev pub Alike : {A B C D : Type 0} → Tree A B → Tree C D → Type 0
Alike {A} {B} {C} {D} l m = Leafwise (λ (k : LeafKind) (a : A) (c : C). Unit {0}) (λ (b : B) (d : D). Unit {0})
    (λ (b : B) (d : D). Unit {0}) l m

-- ---- which kind trees there are

-- keys are of this kind
abbrev pub IsKey : {A B : Type 0} → Tree A B → Type 0
IsKey (Leaf k a) = Unit {0}
IsKey (ByteRange t d c) = Unit {0}
IsKey _ = ⊥

-- a key, or a struct that begins with one
abbrev pub IsKeyed : {A B : Type 0} → Tree A B → Type 0
IsKeyed (Leaf k a) = Unit {0}
IsKeyed (ByteRange t d c) = Unit {0}
IsKeyed (ItemRange h d c l) = ⊥
IsKeyed (Optional a l) = ⊥
IsKeyed (Struct NoField) = ⊥
IsKeyed (Struct (Field i l ls)) = IsKey l

-- what an item needs for its holder's order: a set's is a key, a map's begins with one
abbrev pub Keyed : {A B : Type 0} → Holder → Tree A B → Type 0
Keyed AList l = Unit {0}
Keyed ASet l = IsKeyed l
Keyed AMap l = IsKeyed l

-- each set and map of the tree has keys
abbrev mutual
  pub HasKeys : {A B : Type 0} → Tree A B → Type 0
  HasKeys (Leaf k a) = Unit {0}
  HasKeys (ByteRange t d c) = Unit {0}
  HasKeys (ItemRange h d c l) = Keyed h l × HasKeys l
  HasKeys (Optional w l) = HasKeys l
  HasKeys (Struct ls) = AllHaveKeys ls

  pub AllHaveKeys : {A B : Type 0} → Trees A B → Type 0
  AllHaveKeys NoField = Unit {0}
  AllHaveKeys (Field i l ls) = HasKeys l × AllHaveKeys ls

-- an optional is a field of a struct, and stands nowhere else
abbrev pub IsPlain : {A B : Type 0} → Tree A B → Type 0
IsPlain (Optional w l) = ⊥
IsPlain _ = Unit {0}

-- an item is plain, a set's is a key, and a map's is the pair of field 1, a key, and field 2
abbrev pub IsItem : {A B : Type 0} → Holder → Tree A B → Type 0
IsItem AList l = IsPlain l
IsItem ASet l = IsKey l
IsItem AMap (Struct (Field i k (Field j v NoField))) = (i ≡ 1) × IsKey k × (j ≡ 2) × IsPlain v
IsItem AMap _ = ⊥

-- ids rise from above the one before to 32767 at most
abbrev pub Rising : ℕ → List ℕ → Type 0
Rising before [] = Unit {0}
Rising before (i ∷ is) = (before < i) × (i ≤ 32767) × Rising i is

-- each part stands where its kind may stand
abbrev mutual
  pub IsFormed : {A B : Type 0} → Tree A B → Type 0
  IsFormed (Leaf k a) = Unit {0}
  IsFormed (ByteRange t d c) = Unit {0}
  IsFormed (ItemRange h d c l) = IsItem h l × IsFormed l
  IsFormed (Optional w l) = IsPlain l × IsFormed l
  IsFormed (Struct ls) = Rising 0 (ids_of ls) × AllFormed ls

  pub AllFormed : {A B : Type 0} → Trees A B → Type 0
  AllFormed NoField = Unit {0}
  AllFormed (Field i l ls) = IsFormed l × AllFormed ls

-- the number of nodes: each leaf, distance and count is one
abbrev mutual
  pub nodes : {A B : Type 0} → Tree A B → ℕ
  nodes (Leaf k a) = 1
  nodes (ByteRange t d c) = 3
  nodes (ItemRange h d c l) = 3 + nodes l
  nodes (Optional w l) = 2 + nodes l
  nodes (Struct ls) = 1 + nodes_all ls

  pub nodes_all : {A B : Type 0} → Trees A B → ℕ
  nodes_all NoField = 0
  nodes_all (Field i l ls) = nodes l + nodes_all ls

-- The tree s is the part at node n of a tree whose own node is i, where nodes are counted in preorder: Part t i s n.
mutual
  pub data Part {A B : Type 0} : Tree A B → ℕ → Tree A B → ℕ → Type 0 where
    itself : {t : Tree A B} {i : ℕ} → Part t i t i
    in_item : {h : Holder} {d c : B} {l s : Tree A B} {i n : ℕ} → Part l (suc (suc (suc i))) s n
        → Part (ItemRange h d c l) i s n
    in_optional : {w : B} {l s : Tree A B} {i n : ℕ} → Part l (suc (suc i)) s n → Part (Optional w l) i s n
    in_struct : {ls : Trees A B} {s : Tree A B} {i n : ℕ} → PartAll ls (suc i) s n → Part (Struct ls) i s n

  -- the same of the fields of a struct, the first of which has the node i
  pub data PartAll {A B : Type 0} : Trees A B → ℕ → Tree A B → ℕ → Type 0 where
    in_first : {id : ℕ} {l : Tree A B} {ls : Trees A B} {s : Tree A B} {i n : ℕ} → Part l i s n
        → PartAll (Field id l ls) i s n
    in_later : {id : ℕ} {l : Tree A B} {ls : Trees A B} {s : Tree A B} {i n : ℕ} → PartAll ls (i + nodes l) s n
        → PartAll (Field id l ls) i s n

-- the number of ranges: texts, bytes, lists, sets and maps
abbrev mutual
  pub ranges : {A B : Type 0} → Tree A B → ℕ
  ranges (Leaf k a) = 0
  ranges (ByteRange t d c) = 1
  ranges (ItemRange h d c l) = 1 + ranges l
  ranges (Optional w l) = ranges l
  ranges (Struct ls) = ranges_all ls

  pub ranges_all : {A B : Type 0} → Trees A B → ℕ
  ranges_all NoField = 0
  ranges_all (Field i l ls) = ranges l + ranges_all ls

-- the greatest level of a node, where the root is at level 1: an item, a field and the two of a pair are one level
-- below their list, set, map or struct, and what an optional has is at its own level
abbrev mutual
  pub levels : {A B : Type 0} → Tree A B → ℕ
  levels (Leaf k a) = 1
  levels (ByteRange t d c) = 1
  levels (ItemRange AList d c l) = 1 + levels l
  levels (ItemRange ASet d c l) = 1 + levels l
  levels (ItemRange AMap d c l) = levels l
  levels (Optional w l) = levels l
  levels (Struct ls) = 1 + levels_all ls

  pub levels_all : {A B : Type 0} → Trees A B → ℕ
  levels_all NoField = 0
  levels_all (Field i l ls) = max (levels l) (levels_all ls)

-- the root of a kind tree is a struct
abbrev pub IsStruct : {A B : Type 0} → Tree A B → Type 0
IsStruct (Struct ls) = Unit {0}
IsStruct _ = ⊥

-- the bits of a kind beside its sign
abbrev pub value_bits : Whole → ℕ
value_bits I8 = 7
value_bits I16 = 15
value_bits I32 = 31
value_bits I64 = 63

-- the greatest width of a scalar
abbrev pub greatest : LeafKind → ℕ
greatest Flag = 1
greatest (Integer k) = suc (value_bits k)

-- the inline bits where each leaf has its greatest width, which for a distance and for a count is 32
abbrev mutual
  pub greatest_bits : {A B : Type 0} → Tree A B → ℕ
  greatest_bits (Leaf k a) = greatest k
  greatest_bits (ByteRange t d c) = 64
  greatest_bits (ItemRange h d c l) = 64
  greatest_bits (Optional w l) = 1 + greatest_bits l
  greatest_bits (Struct ls) = greatest_bits_all ls

  pub greatest_bits_all : {A B : Type 0} → Trees A B → ℕ
  greatest_bits_all NoField = 0
  greatest_bits_all (Field i l ls) = greatest_bits l + greatest_bits_all ls

-- at no node do the greatest inline bits pass 32767
abbrev mutual
  pub IsNarrow : {A B : Type 0} → Tree A B → Type 0
  IsNarrow (Leaf k a) = Unit {0}
  IsNarrow (ByteRange t d c) = Unit {0}
  IsNarrow (ItemRange h d c l) = IsNarrow l
  IsNarrow (Optional w l) = (1 + greatest_bits l ≤ 32767) × IsNarrow l
  IsNarrow (Struct ls) = (greatest_bits_all ls ≤ 32767) × AllNarrow ls

  pub AllNarrow : {A B : Type 0} → Trees A B → Type 0
  AllNarrow NoField = Unit {0}
  AllNarrow (Field i l ls) = IsNarrow l × AllNarrow ls

-- a kind tree within the limits
pub record IsKindTree {A B : Type 0} (l : Tree A B) : Type 0 where
  pub formed : IsFormed l
  pub few : nodes l ≤ 4096
  pub shallow : levels l ≤ 32
  pub narrow : IsNarrow l
