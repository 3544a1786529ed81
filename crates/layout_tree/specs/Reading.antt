-- What can be read at a node.
use Rattle.std.specs.Prelude.{ℕ, suc, ◌+◌, ℤ, pos, Option, Some, None, Bool, true, false, ◌&&◌, if◌then◌else◌}
use Rattle.std.specs.Ordering.{int_eq}
use Rattle.frozen_model.specs.Trees.{Leaf, ByteRange, ItemRange, Optional, Struct, Tree, Trees, NoField}
use Rattle.frozen_model.specs.Trees.{Field, nodes}
use Rattle.frozen_model.specs.Layouts.{Layout, stride, Coded, Unsigned, TwosComplement, FromBase}
use Rattle.layout_tree.specs.declared.node.Kind.{Kind}
use Rattle.layout_tree.specs.declared.node.Kind.TheVariants as kinds
use Rattle.layout_tree.specs.Listing.{kind_of, kind_of_bytes, kind_of_holder}

-- a pair is a struct
abbrev pub plain : Kind → Kind
plain kinds.Flag = kinds.Flag
plain kinds.I8 = kinds.I8
plain kinds.I16 = kinds.I16
plain kinds.I32 = kinds.I32
plain kinds.I64 = kinds.I64
plain kinds.Text = kinds.Text
plain kinds.Bytes = kinds.Bytes
plain kinds.List = kinds.List
plain kinds.Set = kinds.Set
plain kinds.Map = kinds.Map
plain kinds.Pair = kinds.Struct
plain kinds.Struct = kinds.Struct
plain kinds.Optional = kinds.Optional
plain kinds.Size = kinds.Size

-- the kind of a layout's first node, a pair as a struct
abbrev pub kind_at : {A B : Type 0} → Tree A B → Kind
kind_at (Leaf k c) = kind_of k
kind_at (ByteRange t d c) = kind_of_bytes t
kind_at (ItemRange h d c l) = kind_of_holder h
kind_at (Optional w l) = kinds.Optional
kind_at (Struct ls) = kinds.Struct

abbrev pub IsRange : {A B : Type 0} → Tree A B → Type 0
IsRange (ByteRange t d c) = Unit {0}
IsRange (ItemRange h d c l) = Unit {0}
IsRange _ = ⊥

abbrev pub IsHolder : {A B : Type 0} → Tree A B → Type 0
IsHolder (ItemRange h d c l) = Unit {0}
IsHolder _ = ⊥

abbrev pub IsOptional : {A B : Type 0} → Tree A B → Type 0
IsOptional (Optional w l) = Unit {0}
IsOptional _ = ⊥

abbrev pub IsLeaf : {A B : Type 0} → Tree A B → Type 0
IsLeaf (Leaf k c) = Unit {0}
IsLeaf _ = ⊥

-- the widths of a range's distance and count, and of an optional's flag
abbrev pub distance_width : {A : Type 0} → Tree A ℕ → ℕ
distance_width (ByteRange t d c) = d
distance_width (ItemRange h d c l) = d
distance_width _ = 0

abbrev pub count_width : {A : Type 0} → Tree A ℕ → ℕ
count_width (ByteRange t d c) = c
count_width (ItemRange h d c l) = c
count_width _ = 0

abbrev pub isset_width : {A : Type 0} → Tree A ℕ → ℕ
isset_width (Optional w l) = w
isset_width _ = 0

-- the item of a list, set or map
abbrev pub item_of : Layout → Layout
item_of (ItemRange h d c l) = l
item_of l = l

-- the inline bits of an item of a range, which for a text and for bytes is a byte
abbrev pub item_stride : Layout → ℕ
item_stride (ByteRange t d c) = 8
item_stride (ItemRange h d c l) = stride l
item_stride _ = 0

-- the base of a leaf that has one
abbrev pub base_of : Coded → ℤ
base_of (Unsigned w) = pos 0
base_of (TwosComplement w) = pos 0
base_of (FromBase b w) = b

-- the base of a leaf, 0 where it has none, and 0 of any other layout
abbrev pub base_at : Layout → ℤ
base_at (Leaf k c) = base_of c
base_at _ = pos 0

-- the number of a field's node, where the first field's is i
abbrev pub field_node : {A B : Type 0} → Trees A B → ℕ → ℤ → Option ℕ
field_node NoField i id = None
field_node (Field f l ls) i id = if int_eq (pos f) id then Some i else field_node ls (i + nodes l) id

-- the same where two or three children follow the node, with the fields 1, 2 and 3
abbrev pub nth_child_of : ℕ → ℤ → ℤ → Option ℕ
nth_child_of i most id = if int_eq id (pos 1) then Some (i + 1) else
    (if int_eq id (pos 2) then Some (i + 2) else
    (if int_eq id (pos 3) && int_eq most (pos 3) then Some (i + 3) else None))

-- the number of a node's child by its field
abbrev pub child_of : {A B : Type 0} → Tree A B → ℕ → ℤ → Option ℕ
child_of (Leaf k c) i id = None
child_of (ByteRange t d c) i id = if int_eq id (pos 1) then Some (i + 1) else
    (if int_eq id (pos 2) then Some (i + 2) else None)
child_of (ItemRange h d c l) i id = if int_eq id (pos 1) then Some (i + 1) else
    (if int_eq id (pos 2) then Some (i + 2) else (if int_eq id (pos 3) then Some (i + 3) else None))
child_of (Optional w l) i id = if int_eq id (pos 1) then Some (i + 1) else
    (if int_eq id (pos 2) then Some (i + 2) else None)
child_of (Struct ls) i id = field_node ls (suc i) id

abbrev pub IsStruct : {A B : Type 0} → Tree A B → Type 0
IsStruct (Struct ls) = Unit {0}
IsStruct _ = ⊥

-- whether it is a kind of whole numbers
abbrev pub whole_kind : Kind → Bool
whole_kind kinds.I8 = true
whole_kind kinds.I16 = true
whole_kind kinds.I32 = true
whole_kind kinds.I64 = true
whole_kind _ = false
