-- Shapes: layouts with all widths and bases 0, and the kinds of the fields of a definition's struct.
use Rattle.std.specs.Prelude.{◌⊎◌, ◌≡◌, ℕ, ◌+◌, ◌≤◌, pos, nat_abs, List, [], ◌∷◌, ◌++◌, length, true}
use Rattle.idl_profile.specs.declared.kinds.Need.{Need}
use Rattle.idl_profile.specs.declared.kinds.Need.TheVariants as need
use Rattle.idl_profile.specs.Types.{DefField, TypeTree, kind_of}
use Rattle.idl_profile.specs.declared.kinds.TypeKind.TheVariants as types
use Rattle.idl_parse.specs.Refs.{element_of}
use Rattle.frozen_model.specs.Trees.{Holder, Leaf, ByteRange, ItemRange, Optional, Struct, NoField, Field}
use Rattle.frozen_model.specs.Trees.{KindTree, KindTrees, nodes, IsFormed}
use Rattle.frozen_model.specs.Layouts.{Version2, Described, described}
use Rattle.type_kinds.specs.KindsOf.{kinds_of}
use Rattle.layout_tree.specs.declared.node.NodeSpec.{NodeSpec}
use Rattle.layout_tree.specs.declared.node.Kind.{Kind}
use Rattle.layout_tree.specs.declared.node.Kind.TheVariants as kinds
use Rattle.layout_tree.specs.Listing.{Noted, AllNoted, layout_in, nodes_of, spec, kind_of_holder, item_struct}
use Rattle.layout_tree.specs.Given.{resting}

-- a kind tree with all widths and bases 0
abbrev mutual
  pub blank : KindTree → Noted
  blank (Leaf k a) = Leaf k (record { base = pos 0; bits = 0; wide = 0 })
  blank (ByteRange t d c) = ByteRange t (resting 0) (resting 0)
  blank (ItemRange h d c l) = ItemRange h (resting 0) (resting 0) (blank l)
  blank (Optional w l) = Optional (resting 0) (blank l)
  blank (Struct ls) = Struct (all_blank ls)

  pub all_blank : KindTrees → AllNoted
  all_blank NoField = NoField
  all_blank (Field i l ls) = Field i (blank l) (all_blank ls)

-- the relaxed layout of version 2 of a kind tree, with all widths and bases 0
abbrev pub shape_of : KindTree → Described
shape_of k = described Version2 true (layout_in Version2 (blank k))

-- a kind, or an optional over it
abbrev pub kinds_by_need : Need → KindTree → KindTree
kinds_by_need need.Optional k = Optional tt k
kinds_by_need need.Plain k = k
kinds_by_need need.Required k = k

abbrev pub field_kinds : DefField → KindTree
field_kinds f = kinds_by_need f.need (kinds_of f.type)

abbrev pub kinds_of_list : List DefField → KindTrees
kinds_of_list [] = NoField
kinds_of_list (f ∷ fs) = Field (nat_abs f.id) (field_kinds f) (kinds_of_list fs)

-- there is room for the nodes of a kind tree, and its parts stand where they may
pub record CanAdd (old : List NodeSpec) (k : KindTree) : Type 0 where
  pub formed : IsFormed k
  pub room : length old + nodes k ≤ 4096

-- the nodes of a kind tree are added, the first of them with this parent and field
abbrev pub Adds : List NodeSpec → List NodeSpec → KindTree → ℕ → ℕ → Type 0
Adds old new k p f = new ≡ old ++ nodes_of (blank k) kinds.Struct (length old) p f 0

-- the node of a range with this number, and those of its distance and count
abbrev pub range_nodes : Kind → ℕ → ℕ → ℕ → List NodeSpec
range_nodes k f p i = spec k f p 0 (i + 3) 0 (pos 0) ∷ spec kinds.Size 1 i 0 0 0 (pos 0)
    ∷ spec kinds.Size 2 i 0 0 0 (pos 0) ∷ []

-- a list or a set, with its kind
pub record RowIs (k : Kind) (t : TypeTree) : Type 0 where
  pub holder : Holder
  pub named : k ≡ kind_of_holder holder
  pub plain : item_struct holder ≡ kinds.Struct
  pub kinds : kinds_of t ≡ ItemRange holder tt tt (kinds_of (element_of t))
  pub type : (kind_of t ≡ types.List) ⊎ (kind_of t ≡ types.Set)

-- a node with another number in the place of the noted width
abbrev pub marked : NodeSpec → ℕ → NodeSpec
marked x w = record {
  kind = x.kind;
  field = x.field;
  parent = x.parent;
  bits = x.bits;
  wide = w;
  offset = x.offset;
  base = x.base;
}

-- the number after the nodes below a node stays, and the noted width of a leaf goes
abbrev pub cleared_wide : Kind → ℕ → ℕ
cleared_wide kinds.Flag w = 0
cleared_wide kinds.I8 w = 0
cleared_wide kinds.I16 w = 0
cleared_wide kinds.I32 w = 0
cleared_wide kinds.I64 w = 0
cleared_wide kinds.Size w = 0
cleared_wide _ w = w

-- a node with no bits, at offset 0 and from base 0
abbrev pub cleared : NodeSpec → NodeSpec
cleared x = record {
  kind = x.kind;
  field = x.field;
  parent = x.parent;
  bits = 0;
  wide = cleared_wide x.kind x.wide;
  offset = 0;
  base = pos 0;
}
