-- The nodes of a layout in preorder, and the layout that nodes list.
use Rattle.std.specs.Prelude.{◌≡◌, ℕ, zero, suc, ◌+◌, ◌-◌, List, [], ◌∷◌, ◌++◌, ℤ, pos, nat_lt, ◌==◌}
use Rattle.std.specs.Prelude.{if◌then◌else◌, unsigned_abs}
use Rattle.frozen_model.specs.Trees.{I8, I16, I32, I64, LeafKind, Flag, Integer, ByteKind, Text, Binary}
use Rattle.frozen_model.specs.Trees.{Holder, AList, ASet, AMap, Tree, Trees, Leaf, ByteRange, ItemRange}
use Rattle.frozen_model.specs.Trees.{Optional, Struct, NoField, Field, nodes, nodes_all, kinds, IsStruct}
use Rattle.frozen_model.specs.Trees.{IsKindTree}
use Rattle.frozen_model.specs.Layouts.{Version, Version1, Version2, Coded, Unsigned, TwosComplement, FromBase}
use Rattle.frozen_model.specs.Layouts.{Layout, Layouts, OfVersion, Legal}
use Rattle.layout_tree.specs.declared.node.NodeSpec.{NodeSpec}
use Rattle.layout_tree.specs.declared.node.FormVersion.{FormVersion}
use Rattle.layout_tree.specs.declared.node.FormVersion.TheVariants.{First, Second}
use Rattle.layout_tree.specs.declared.node.Kind.{Kind}
use Rattle.layout_tree.specs.declared.node.Kind.TheVariants as k

-- the bits of a distance, a count or a isset, and the width that is noted for it
pub record Width : Type 0 where
  pub bits : ℕ
  pub wide : ℕ

-- the base of a scalar, its bits, and the width that is noted for it
pub record LeafWidths : Type 0 where
  pub base : ℤ
  pub bits : ℕ
  pub wide : ℕ

-- a layout with the widths that are noted
abbrev pub Noted : Type 0
Noted = Tree LeafWidths Width

abbrev pub AllNoted : Type 0
AllNoted = Trees LeafWidths Width

-- how a version stores a scalar
abbrev pub coded : Version → LeafKind → ℤ → ℕ → Coded
coded v Flag b w = Unsigned w
coded Version1 (Integer k) b w = TwosComplement w
coded Version2 (Integer k) b w = FromBase b w

-- the layout of the bits
abbrev mutual
  pub layout_in : Version → Noted → Layout
  layout_in v (Leaf k c) = Leaf k (coded v k c.base c.bits)
  layout_in v (ByteRange t d c) = ByteRange t d.bits c.bits
  layout_in v (ItemRange h d c l) = ItemRange h d.bits c.bits (layout_in v l)
  layout_in v (Optional w l) = Optional w.bits (layout_in v l)
  layout_in v (Struct ls) = Struct (layouts_in v ls)

  pub layouts_in : Version → AllNoted → Layouts
  layouts_in v NoField = NoField
  layouts_in v (Field i l ls) = Field i (layout_in v l) (layouts_in v ls)

abbrev pub settled_width : Width → Width
settled_width w = record { bits = w.wide; wide = w.wide }

abbrev pub settled_leaf : LeafWidths → LeafWidths
settled_leaf c = record { base = c.base; bits = c.wide; wide = c.wide }

-- each leaf with the width that is noted for it
abbrev mutual
  pub settled : Noted → Noted
  settled (Leaf k c) = Leaf k (settled_leaf c)
  settled (ByteRange t d c) = ByteRange t (settled_width d) (settled_width c)
  settled (ItemRange h d c l) = ItemRange h (settled_width d) (settled_width c) (settled l)
  settled (Optional w l) = Optional (settled_width w) (settled l)
  settled (Struct ls) = Struct (settled_all ls)

  pub settled_all : AllNoted → AllNoted
  settled_all NoField = NoField
  settled_all (Field i l ls) = Field i (settled l) (settled_all ls)

-- the inline bits
abbrev mutual
  pub inline : Noted → ℕ
  inline (Leaf k c) = c.bits
  inline (ByteRange t d c) = d.bits + c.bits
  inline (ItemRange h d c l) = d.bits + c.bits
  inline (Optional w l) = w.bits + inline l
  inline (Struct ls) = inline_all ls

  pub inline_all : AllNoted → ℕ
  inline_all NoField = 0
  inline_all (Field i l ls) = inline l + inline_all ls

abbrev pub kind_of : LeafKind → Kind
kind_of Flag = k.Flag
kind_of (Integer I8) = k.I8
kind_of (Integer I16) = k.I16
kind_of (Integer I32) = k.I32
kind_of (Integer I64) = k.I64

abbrev pub kind_of_bytes : ByteKind → Kind
kind_of_bytes Text = k.Text
kind_of_bytes Binary = k.Bytes

abbrev pub kind_of_holder : Holder → Kind
kind_of_holder AList = k.List
kind_of_holder ASet = k.Set
kind_of_holder AMap = k.Map

-- the kind of a struct that is an item
abbrev pub item_struct : Holder → Kind
item_struct AList = k.Struct
item_struct ASet = k.Struct
item_struct AMap = k.Pair

abbrev pub spec : Kind → ℕ → ℕ → ℕ → ℕ → ℕ → ℤ → NodeSpec
spec k f p b w o z = record { kind = k; field = pos f; parent = p; bits = b; wide = w; offset = o; base = z }

abbrev pub size : ℕ → ℕ → Width → ℕ → NodeSpec
size f p w o = spec k.Size f p w.bits w.wide o (pos 0)

-- The nodes of a tree, as they are kept: the first of them has this number, parent, field and offset, and is
-- of the kind sk where it is a struct. A node with nodes below it has the number after them in the place of a
-- noted width.
abbrev mutual
  pub nodes_of : Noted → Kind → ℕ → ℕ → ℕ → ℕ → List NodeSpec
  nodes_of (Leaf k c) sk i p f o = spec (kind_of k) f p c.bits c.wide o c.base ∷ []
  nodes_of (ByteRange t d c) sk i p f o =
      spec (kind_of_bytes t) f p (d.bits + c.bits) (suc (suc (suc i))) o (pos 0) ∷ size 1 i d 0
      ∷ size 2 i c d.bits ∷ []
  nodes_of (ItemRange h d c l) sk i p f o =
      spec (kind_of_holder h) f p (d.bits + c.bits) (suc (suc (suc i)) + nodes l) o (pos 0) ∷ size 1 i d 0
      ∷ size 2 i c d.bits ∷ nodes_of l (item_struct h) (suc (suc (suc i))) i 3 0
  nodes_of (Optional w l) sk i p f o =
      spec k.Optional f p (w.bits + inline l) (suc (suc i) + nodes l) o (pos 0)
      ∷ spec k.Flag 1 i w.bits w.wide 0 (pos 0) ∷ nodes_of l k.Struct (suc (suc i)) i 2 w.bits
  nodes_of (Struct ls) sk i p f o = spec sk f p (inline_all ls) (suc i + nodes_all ls) o (pos 0)
      ∷ nodes_of_all ls (suc i) i 0

  pub nodes_of_all : AllNoted → ℕ → ℕ → ℕ → List NodeSpec
  nodes_of_all NoField i p o = []
  nodes_of_all (Field id l ls) i p o = nodes_of l k.Struct i p id o
      ++ nodes_of_all ls (i + nodes l) p (o + inline l)

-- ---- the tree that nodes list, read from the end

-- a node that was read: a distance or a count is a width alone
pub data Read : Type 0 where
  Size : Width → Read
  Known : Noted → Read

-- what was read, with its parent's number and its field
pub record Entry : Type 0 where
  pub parent : ℕ
  pub field : ℕ
  pub read : Read

-- the entries in front that have this parent
abbrev pub kids : ℕ → List Entry → List Entry
kids i [] = []
kids i (e ∷ es) = if e.parent == i then e ∷ kids i es else []

abbrev pub past_kids : ℕ → List Entry → List Entry
past_kids i [] = []
past_kids i (e ∷ es) = if e.parent == i then past_kids i es else e ∷ es

abbrev pub no_width : Width
no_width = record { bits = 0; wide = 0 }

abbrev pub leaf_of : NodeSpec → LeafWidths
leaf_of s = record { base = s.base; bits = s.bits; wide = s.wide }

abbrev pub tree_of_read : Read → Noted
tree_of_read (Known t) = t
tree_of_read (Size w) = Struct NoField

abbrev pub width_of_read : Read → Width
width_of_read (Size w) = w
width_of_read (Known (Leaf k c)) = record { bits = c.bits; wide = c.wide }
width_of_read (Known t) = no_width

abbrev pub fields_of : List Entry → AllNoted
fields_of [] = NoField
fields_of (e ∷ es) = Field e.field (tree_of_read e.read) (fields_of es)

-- a distance, a count and what follows them
abbrev pub on_two : List Entry → (Width → Width → List Entry → Read) → Read
on_two (d ∷ c ∷ es) f = f (width_of_read d.read) (width_of_read c.read) es
on_two _ f = Size no_width

abbrev pub on_item : List Entry → (Noted → Read) → Read
on_item (e ∷ es) f = f (tree_of_read e.read)
on_item [] f = Size no_width

-- a node, above its children
abbrev pub built : Kind → LeafWidths → List Entry → Read
built k.Flag c es = Known (Leaf Flag c)
built k.I8 c es = Known (Leaf (Integer I8) c)
built k.I16 c es = Known (Leaf (Integer I16) c)
built k.I32 c es = Known (Leaf (Integer I32) c)
built k.I64 c es = Known (Leaf (Integer I64) c)
built k.Size c es = Size (record { bits = c.bits; wide = c.wide })
built k.Text c es = on_two es (λ d n rest. Known (ByteRange Text d n))
built k.Bytes c es = on_two es (λ d n rest. Known (ByteRange Binary d n))
built k.List c es = on_two es (λ d n rest. on_item rest (λ l. Known (ItemRange AList d n l)))
built k.Set c es = on_two es (λ d n rest. on_item rest (λ l. Known (ItemRange ASet d n l)))
built k.Map c es = on_two es (λ d n rest. on_item rest (λ l. Known (ItemRange AMap d n l)))
built k.Pair c es = Known (Struct (fields_of es))
built k.Struct c es = Known (Struct (fields_of es))
built k.Optional c [] = Size no_width
built k.Optional c (e ∷ es) = on_item es (λ l. Known (Optional (width_of_read e.read) l))

-- what the nodes from the number i on list
abbrev pub entries : ℕ → List NodeSpec → List Entry
entries i [] = []
entries i (s ∷ ss) =
    let es = entries (suc i) ss in
    record {
      parent = s.parent;
      field = unsigned_abs s.field;
      read = built s.kind (leaf_of s) (kids i es);
    } ∷ past_kids i es

abbrev pub first_tree : List Entry → Noted
first_tree [] = Struct NoField
first_tree (e ∷ es) = tree_of_read e.read

-- the tree that the nodes list
unfoldable pub tree_of : List NodeSpec → Noted
tree_of ns = first_tree (entries 0 ns)

-- all nodes of a tree
abbrev pub all_nodes : Noted → List NodeSpec
all_nodes t = nodes_of t k.Struct 0 0 0 0

-- the nodes list a tree, with every sum, offset and number
abbrev pub IsListing : List NodeSpec → Type 0
IsListing ns = ns ≡ all_nodes (tree_of ns)

-- ---- parts by their number

-- the part of a tree whose node is the k-th after its own
unfoldable mutual
  pub sub : {A B : Type 0} → Tree A B → ℕ → Tree A B
  sub t zero = t
  sub (ItemRange h d c l) (suc (suc (suc k))) = sub l k
  sub (Optional w l) (suc (suc k)) = sub l k
  sub (Struct ls) (suc k) = sub_all ls k
  sub t k = t

  pub sub_all : {A B : Type 0} → Trees A B → ℕ → Tree A B
  sub_all NoField k = Struct NoField
  sub_all (Field id l ls) k = if nat_lt k (nodes l) then sub l k else sub_all ls (k - nodes l)

-- ---- which trees a `Layouts` may list

-- the number of a version
abbrev pub version_number : Version → ℤ
version_number Version1 = pos 1
version_number Version2 = pos 2

abbrev pub version_of : FormVersion → Version
version_of First = Version1
version_of Second = Version2

-- what stands in the place of a scalar's base: 0 where it has none, at a flag and in version 1
abbrev pub BaseStands : Version → LeafKind → ℤ → Type 0
BaseStands v Flag b = b ≡ pos 0
BaseStands Version1 (Integer k) b = b ≡ pos 0
BaseStands Version2 (Integer k) b = Unit {0}

-- 0 stands in the place of the base of each leaf that has none
abbrev mutual
  pub BasesStand : Version → Noted → Type 0
  BasesStand v (Leaf k c) = BaseStands v k c.base
  BasesStand v (ByteRange t d c) = Unit {0}
  BasesStand v (ItemRange h d c l) = BasesStand v l
  BasesStand v (Optional w l) = BasesStand v l
  BasesStand v (Struct ls) = AllBasesStand v ls

  pub AllBasesStand : Version → AllNoted → Type 0
  AllBasesStand v NoField = Unit {0}
  AllBasesStand v (Field i l ls) = BasesStand v l × AllBasesStand v ls

-- the root is a struct; the kinds are a kind tree; the bits make a layout of the version; no leaf has too
-- great a width noted, and none a base that its version has not
pub record IsNotedLayout (e : FormVersion) (t : Noted) : Type 0 where
  pub root : IsStruct (kinds t)
  pub kind_tree : IsKindTree (kinds t)
  pub coded : OfVersion (version_of e) (layout_in (version_of e) t)
  pub legal : Legal (layout_in (version_of e) t)
  pub noted : Legal (layout_in (version_of e) (settled t))
  pub based : BasesStand (version_of e) t
