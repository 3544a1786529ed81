-- Layouts as lists of nodes that are given and shown: each node with a width where the kept list has the
-- number after its nodes.
use Rattle.std.specs.Prelude.{◌≡◌, ℕ, List, map, Bool, ℤ}
use Rattle.frozen_model.specs.Trees.{Leaf, ByteRange, ItemRange, Optional, Struct, NoField, Field}
use Rattle.frozen_model.specs.Layouts.{Layout, Layouts, Described, IsDescribed, width}
use Rattle.layout_tree.specs.declared.node.NodeSpec.{NodeSpec}
use Rattle.layout_tree.specs.declared.node.Kind.{Kind}
use Rattle.layout_tree.specs.declared.node.Kind.TheVariants as kinds
use Rattle.layout_tree.specs.Listing.{Width, Noted, AllNoted, all_nodes, version_number}
use Rattle.layout_tree.specs.Reading.{base_of}

-- the width that is noted for a leaf, of these bits and kept number; where there are nodes below it is the
-- bits
abbrev pub shown_wide : Kind → ℕ → ℕ → ℕ
shown_wide kinds.Flag b w = w
shown_wide kinds.I8 b w = w
shown_wide kinds.I16 b w = w
shown_wide kinds.I32 b w = w
shown_wide kinds.I64 b w = w
shown_wide kinds.Size b w = w
shown_wide _ b w = b

abbrev pub shown : NodeSpec → NodeSpec
shown s = record {
  kind = s.kind;
  field = s.field;
  parent = s.parent;
  bits = s.bits;
  wide = shown_wide s.kind s.bits s.wide;
  offset = s.offset;
  base = s.base;
}

-- the nodes of a tree as they are shown
abbrev pub shown_nodes : Noted → List NodeSpec
shown_nodes t = map shown (all_nodes t)

-- a width that is noted as it is
abbrev pub resting : ℕ → Width
resting w = record { bits = w; wide = w }

-- a layout with each leaf's width noted as it is
abbrev mutual
  pub noted_from : Layout → Noted
  noted_from (Leaf k c) = Leaf k (record { base = base_of c; bits = width c; wide = width c })
  noted_from (ByteRange t d c) = ByteRange t (resting d) (resting c)
  noted_from (ItemRange h d c l) = ItemRange h (resting d) (resting c) (noted_from l)
  noted_from (Optional w l) = Optional (resting w) (noted_from l)
  noted_from (Struct ls) = Struct (all_noted_from ls)

  pub all_noted_from : Layouts → AllNoted
  all_noted_from NoField = NoField
  all_noted_from (Field i l ls) = Field i (noted_from l) (all_noted_from ls)

-- the nodes are those of a layout within the limits, each leaf's width noted as it is
pub record IsListOf (d : Described) (ns : List NodeSpec) (version : ℤ) (relaxed : Bool) : Type 0 where
  pub described : IsDescribed d
  pub numbered : version ≡ version_number d.version
  pub relaxes : relaxed ≡ d.relaxed
  pub nodes : ns ≡ shown_nodes (noted_from d.tree)

-- the same of some layout
pub record ListsLayout (ns : List NodeSpec) (version : ℤ) (relaxed : Bool) : Type 0 where
  pub layout : Described
  pub is : IsListOf layout ns version relaxed
