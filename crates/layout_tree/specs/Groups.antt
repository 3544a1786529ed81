-- Kinds by how many nodes stand below them.
use Rattle.std.specs.Prelude.{ℕ}
use Rattle.frozen_model.specs.Trees.{Leaf, ByteRange, ItemRange, Optional, Struct}
use Rattle.layout_tree.specs.declared.node.Kind.{Kind}
use Rattle.layout_tree.specs.declared.node.Kind.TheVariants as kinds
use Rattle.layout_tree.specs.Listing.{Noted}

-- leaves, ranges of bytes, ranges of items, optionals, structs, and distances and counts
abbrev pub group : Kind → ℕ
group kinds.Flag = 0
group kinds.I8 = 0
group kinds.I16 = 0
group kinds.I32 = 0
group kinds.I64 = 0
group kinds.Text = 1
group kinds.Bytes = 1
group kinds.List = 2
group kinds.Set = 2
group kinds.Map = 2
group kinds.Optional = 3
group kinds.Struct = 4
group kinds.Pair = 4
group kinds.Size = 5

abbrev pub tree_group : Noted → ℕ
tree_group (Leaf k c) = 0
tree_group (ByteRange t d c) = 1
tree_group (ItemRange h d c l) = 2
tree_group (Optional w l) = 3
tree_group (Struct ls) = 4
