-- The types of a schema, and the schema of a layout as a value of them.
use Rattle.std.specs.Prelude.{ℕ, suc, ℤ, pos, neg_ℤ, Bool, false, ◌==◌, if◌then◌else◌, List, [], ◌∷◌, codes}
use Rattle.idl_profile.specs.declared.kinds.Need.TheVariants.{Plain}
use Rattle.idl_profile.specs.Types.{TypeTree, scalar, flag, i16, i32, i64, text, map_of, named, struct_of, Fields, no_fields, field}
use Rattle.idl_profile.specs.Types.{without, flag_default, int_default}
use Rattle.frozen_model.specs.Trees.{AMap}
use Rattle.frozen_model.specs.Values.{Value, Truth, Number, One, Bytes, Items, Record, Values, NoValue, And}
use Rattle.frozen_model.specs.Layouts.{Version, Version1, Version2, Layout, Described}
use Rattle.typed_tree.specs.Spots.{pair}
use Rattle.layout_tree.specs.declared.node.NodeSpec.{NodeSpec}
use Rattle.layout_tree.specs.declared.node.Kind.{Kind}
use Rattle.layout_tree.specs.declared.node.Kind.TheVariants as kinds
use Rattle.layout_tree.specs.Listing.{version_number}
use Rattle.layout_tree.specs.Given.{shown_nodes, noted_from}
use Rattle.layout_tree.specs.Reading.{whole_kind}

-- ---- the types

-- struct Field {1: i16 layoutId; 2: i16 offset = 0}
abbrev pub field_type : TypeTree
field_type =
    named (struct_of (codes "Field")
    (field (pos 1) (codes "layoutId") Plain (scalar i16) without
    (field (pos 2) (codes "offset") Plain (scalar i16) (int_default (pos 0)) no_fields)))

-- version 2 has the base
abbrev pub base_type : Version → Fields
base_type Version1 = no_fields
base_type Version2 = field (pos 5) (codes "base") Plain (scalar i64) (int_default (pos 0)) no_fields

-- struct Layout {1: i32 size = 0; 2: i16 bits = 0; 3: map<i16, Field> fields; 4: string typeName}
-- and in version 2 also 5: i64 base = 0
abbrev pub layout_type : Version → TypeTree
layout_type v =
    named (struct_of (codes "Layout")
    (field (pos 1) (codes "size") Plain (scalar i32) (int_default (pos 0))
    (field (pos 2) (codes "bits") Plain (scalar i16) (int_default (pos 0))
    (field (pos 3) (codes "fields") Plain (map_of (scalar i16) field_type) without
    (field (pos 4) (codes "typeName") Plain text without (base_type v))))))

-- struct Schema {4: i32 fileVersion = 0; 1: bool relaxTypeChecks = 0; 2: map<i16, Layout> layouts; 3: i16 rootLayout = 0}
abbrev pub schema_type : Version → TypeTree
schema_type v =
    named (struct_of (codes "Schema")
    (field (pos 1) (codes "relaxTypeChecks") Plain (scalar flag) (flag_default false)
    (field (pos 2) (codes "layouts") Plain (map_of (scalar i16) (layout_type v)) without
    (field (pos 3) (codes "rootLayout") Plain (scalar i16) (int_default (pos 0))
    (field (pos 4) (codes "fileVersion") Plain (scalar i32) (int_default (pos 0)) no_fields)))))

-- ---- the schema of a layout

-- the type name of a kind
abbrev pub type_name : Kind → List ℕ
type_name kinds.Flag = codes "bool"
type_name kinds.I8 = codes "i8"
type_name kinds.I16 = codes "i16"
type_name kinds.I32 = codes "i32"
type_name kinds.I64 = codes "i64"
type_name kinds.Text = codes "string"
type_name kinds.Bytes = codes "binary"
type_name kinds.List = codes "list"
type_name kinds.Set = codes "set"
type_name kinds.Map = codes "map"
type_name kinds.Pair = codes "pair"
type_name kinds.Struct = codes "struct"
type_name kinds.Optional = codes "optional"
type_name kinds.Size = codes "size"

abbrev pub number : ℤ → Value
number z = One (Number z)

-- a Field: the number of a child, and minus its bit offset in the parent
abbrev pub child_value : ℕ → NodeSpec → Value
child_value n s = Record (1 ∷ 2 ∷ []) (And (number (pos n)) (And (number (neg_ℤ (pos s.offset))) NoValue))

-- of these nodes, which have the numbers from n on, the children of the node p, each under its field
abbrev pub children_of : ℕ → ℕ → List NodeSpec → Values
children_of p n [] = NoValue
children_of p n (s ∷ ss) =
    if s.parent == p then And (pair (number s.field) (child_value n s)) (children_of p (suc n) ss)
    else children_of p (suc n) ss

-- the base of a leaf of whole numbers, 0 at another node
abbrev pub base_in : NodeSpec → ℤ
base_in s = if whole_kind s.kind then s.base else pos 0

-- a Layout: size 0, the node's bits, its children, its type name, and in version 2 its base
abbrev pub layout_of_node : Version → NodeSpec → Values → Value
layout_of_node Version1 s children =
    Record (1 ∷ 2 ∷ 3 ∷ 4 ∷ [])
    (And (number (pos 0)) (And (number (pos s.bits)) (And (Items AMap children) (And (Bytes (type_name s.kind)) NoValue))))
layout_of_node Version2 s children =
    Record (1 ∷ 2 ∷ 3 ∷ 4 ∷ 5 ∷ [])
    (And (number (pos 0)) (And (number (pos s.bits)) (And (Items AMap children) (And (Bytes (type_name s.kind))
    (And (number (base_in s)) NoValue)))))

-- the layouts of these nodes, which have the numbers from n on, each under its number
abbrev pub layouts_of : Version → ℕ → List NodeSpec → Values
layouts_of v n [] = NoValue
layouts_of v n (s ∷ ss) =
    And (pair (number (pos n)) (layout_of_node v s (children_of n (suc n) ss))) (layouts_of v (suc n) ss)

-- the Schema with this relaxTypeChecks: a Layout for each node under its number, rootLayout 0, and the version
abbrev pub schema_with : Bool → Version → Layout → Value
schema_with relaxes v l =
    Record (1 ∷ 2 ∷ 3 ∷ 4 ∷ [])
    (And (One (Truth relaxes)) (And (Items AMap (layouts_of v 0 (shown_nodes (noted_from l))))
    (And (number (pos 0)) (And (number (version_number v)) NoValue))))

-- the schema of a layout
abbrev pub schema_of : Described → Value
schema_of d = schema_with d.relaxed d.version d.tree
