-- Lists of nodes in which the nodes from a place on are still as they are given.
use Rattle.std.specs.Prelude.{◌≡◌, ℕ, suc, ◌+◌, ◌≤◌, ◌<◌, List, [], ◌∷◌, ◌++◌, length, map, Bool, true, false}
use Rattle.frozen_model.specs.Trees.{nodes, nodes_all}
use Rattle.layout_tree.specs.declared.node.NodeSpec.{NodeSpec}
use Rattle.layout_tree.specs.declared.node.Kind.{Kind}
use Rattle.layout_tree.specs.declared.node.Kind.TheVariants as kinds
use Rattle.layout_tree.specs.Listing.{Noted, AllNoted, nodes_of, nodes_of_all}
use Rattle.layout_tree.specs.Segments.{IsStructKind, rest_nodes}
use Rattle.layout_tree.specs.Given.{shown}
use Rattle.layout_tree.specs.Groups.{group, tree_group}

-- the kinds of leaves, distances, counts and issets
abbrev pub is_leaf_kind : Kind → Bool
is_leaf_kind kinds.Flag = true
is_leaf_kind kinds.I8 = true
is_leaf_kind kinds.I16 = true
is_leaf_kind kinds.I32 = true
is_leaf_kind kinds.I64 = true
is_leaf_kind kinds.Size = true
is_leaf_kind _ = false

-- nothing follows, or a child of a node before i
abbrev pub Behind : ℕ → List NodeSpec → Type 0
Behind i [] = Unit {0}
Behind i (x ∷ xs) = x.parent < i

-- the nodes of a tree stand in a list from a place on, as they are given
pub record Unmarked (ns : List NodeSpec) (at : ℕ) : Type 0 where
  pub tree : Noted
  pub kind : Kind
  pub struct : IsStructKind kind
  pub number : ℕ
  pub parent : ℕ
  pub field : ℕ
  pub offset : ℕ
  pub pre : List NodeSpec
  pub post : List NodeSpec
  pub is : number ≡ at
  pub long : length pre ≡ at
  pub whole : ns ≡ pre ++ (map shown (nodes_of tree kind number parent field offset) ++ post)
  pub behind : Behind number post
  pub few : length ns ≤ 4096

-- the same list with the nodes as they are kept, and the number after them
abbrev pub Marked : {ns : List NodeSpec} {at : ℕ} → Unmarked ns at → List NodeSpec → ℕ → Type 0
Marked {ns} {at} g ms end = (ms ≡ g.pre
    ++ (nodes_of g.tree g.kind g.number g.parent g.field g.offset ++ g.post)) × (end ≡ at + nodes g.tree)

-- the nodes below a node stand in a list after it, as they are given
pub record UnmarkedBelow (ns : List NodeSpec) (at : ℕ) : Type 0 where
  pub tree : Noted
  pub number : ℕ
  pub head : NodeSpec
  pub pre : List NodeSpec
  pub post : List NodeSpec
  pub alike : group head.kind ≡ tree_group tree
  pub some : is_leaf_kind head.kind ≡ false
  pub is : number ≡ at
  pub long : length pre ≡ at
  pub whole : ns ≡ pre ++ (head ∷ (map shown (rest_nodes tree number) ++ post))
  pub behind : Behind number post
  pub few : length ns ≤ 4096

abbrev pub BelowMarked : {ns : List NodeSpec} {at : ℕ} → UnmarkedBelow ns at → List NodeSpec → ℕ → Type 0
BelowMarked {ns} {at} g ms end = (ms ≡ g.pre ++ (g.head ∷ (rest_nodes g.tree g.number ++ g.post)))
    × (end ≡ at + nodes g.tree)

-- the nodes of the fields of a struct stand in a list after it, as they are given
pub record UnmarkedFields (ns : List NodeSpec) (at : ℕ) : Type 0 where
  pub fields : AllNoted
  pub number : ℕ
  pub pre : List NodeSpec
  pub post : List NodeSpec
  pub is : number ≡ at
  pub long : length pre ≡ suc at
  pub whole : ns ≡ pre ++ (map shown (nodes_of_all fields (suc number) number 0) ++ post)
  pub behind : Behind number post
  pub few : length ns ≤ 4096

abbrev pub FieldsMarked : {ns : List NodeSpec} {at : ℕ} → UnmarkedFields ns at → List NodeSpec → ℕ → Type 0
FieldsMarked {ns} {at} g ms end = (ms ≡ g.pre ++ (nodes_of_all g.fields (suc g.number) g.number 0 ++ g.post))
    × (end ≡ suc at + nodes_all g.fields)
