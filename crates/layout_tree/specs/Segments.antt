-- Parts of a list of nodes.
use Rattle.std.specs.Prelude.{◌≡◌, ℕ, suc, ◌+◌, ◌^◌, ◌<◌, ◌≤◌, List, [], ◌∷◌, ◌++◌, length, pos, get_or}
use Rattle.frozen_model.specs.Trees.{Leaf, ByteRange, ItemRange, Optional, Struct, NoField, Field, nodes}
use Rattle.frozen_model.specs.Trees.{nodes_all}
use Rattle.layout_tree.specs.declared.node.NodeSpec.{NodeSpec}
use Rattle.layout_tree.specs.declared.node.Kind.{Kind}
use Rattle.layout_tree.specs.declared.node.Kind.TheVariants as kinds
use Rattle.layout_tree.specs.Listing.{Noted, AllNoted, inline, inline_all, settled, settled_all, kind_of}
use Rattle.layout_tree.specs.Listing.{kind_of_bytes, kind_of_holder, item_struct, spec, size, nodes_of}
use Rattle.layout_tree.specs.Listing.{nodes_of_all}

-- the kinds that a struct has
abbrev pub IsStructKind : Kind → Type 0
IsStructKind kinds.Struct = Unit {0}
IsStructKind kinds.Pair = Unit {0}
IsStructKind _ = ⊥

-- the first node of a tree, and the nodes after it
abbrev pub head_node : Noted → Kind → ℕ → ℕ → ℕ → ℕ → NodeSpec
head_node (Leaf k c) sk i p f o = spec (kind_of k) f p c.bits c.wide o c.base
head_node (ByteRange t d c) sk i p f o = spec (kind_of_bytes t) f p (d.bits + c.bits) (suc (suc (suc i))) o
    (pos 0)
head_node (ItemRange h d c l) sk i p f o = spec (kind_of_holder h) f p (d.bits + c.bits)
    (suc (suc (suc i)) + nodes l) o (pos 0)
head_node (Optional w l) sk i p f o = spec kinds.Optional f p (w.bits + inline l) (suc (suc i) + nodes l) o
    (pos 0)
head_node (Struct ls) sk i p f o = spec sk f p (inline_all ls) (suc i + nodes_all ls) o (pos 0)

abbrev pub rest_nodes : Noted → ℕ → List NodeSpec
rest_nodes (Leaf k c) i = []
rest_nodes (ByteRange t d c) i = size 1 i d 0 ∷ size 2 i c d.bits ∷ []
rest_nodes (ItemRange h d c l) i = size 1 i d 0 ∷ size 2 i c d.bits
    ∷ nodes_of l (item_struct h) (suc (suc (suc i))) i 3 0
rest_nodes (Optional w l) i = spec kinds.Flag 1 i w.bits w.wide 0 (pos 0)
    ∷ nodes_of l kinds.Struct (suc (suc i)) i 2 w.bits
rest_nodes (Struct ls) i = nodes_of_all ls (suc i) i 0

-- all noted widths together
abbrev mutual
  pub total : Noted → ℕ
  total (Leaf k c) = c.wide
  total (ByteRange t d c) = d.wide + c.wide
  total (ItemRange h d c l) = d.wide + c.wide + total l
  total (Optional w l) = w.wide + total l
  total (Struct ls) = total_all ls

  pub total_all : AllNoted → ℕ
  total_all NoField = 0
  total_all (Field i l ls) = total l + total_all ls

-- the node is the first of a tree, whatever its sums and offset are
abbrev pub IsHead : Noted → NodeSpec → ℕ → Type 0
IsHead (Leaf k c) x i = (x.kind ≡ kind_of k) × (x.wide ≡ c.wide)
IsHead (ByteRange t d c) x i = x.kind ≡ kind_of_bytes t
IsHead (ItemRange h d c l) x i = x.kind ≡ kind_of_holder h
IsHead (Optional w l) x i = x.kind ≡ kinds.Optional
IsHead (Struct ls) x i = IsStructKind x.kind × (x.wide ≡ suc i + nodes_all ls)

-- the nodes of a tree stand in a list from a place on
pub record Segment (ns : List NodeSpec) (at : ℕ) : Type 0 where
  pub tree : Noted
  pub kind : Kind
  pub struct : IsStructKind kind
  pub number : ℕ
  pub parent : ℕ
  pub field : ℕ
  pub offset : ℕ
  pub pre : List NodeSpec
  pub post : List NodeSpec
  pub is : number ≡ at
  pub long : length pre ≡ at
  pub whole : ns ≡ pre ++ (nodes_of tree kind number parent field offset ++ post)
  pub light : total tree < 2 ^ 32

-- the same list with the tree settled at an offset
abbrev pub PartSettled : {ns : List NodeSpec} {at : ℕ} → Segment ns at → ℕ → List NodeSpec → ℕ → Type 0
PartSettled g o ms bits = (ms ≡ g.pre
    ++ (nodes_of (settled g.tree) g.kind g.number g.parent g.field o ++ g.post))
    × (bits ≡ inline (settled g.tree))

-- the nodes below a node stand in a list after it
pub record Below (ns : List NodeSpec) (at : ℕ) : Type 0 where
  pub tree : Noted
  pub number : ℕ
  pub head : NodeSpec
  pub pre : List NodeSpec
  pub post : List NodeSpec
  pub first : IsHead tree head number
  pub is : number ≡ at
  pub long : length pre ≡ at
  pub whole : ns ≡ pre ++ (head ∷ (rest_nodes tree number ++ post))
  pub light : total tree < 2 ^ 32

abbrev pub BelowSettled : {ns : List NodeSpec} {at : ℕ} → Below ns at → List NodeSpec → ℕ → Type 0
BelowSettled g ms bits = (ms ≡ g.pre ++ (g.head ∷ (rest_nodes (settled g.tree) g.number ++ g.post)))
    × (bits ≡ inline (settled g.tree))

-- the nodes of fields stand in a list from a place on
pub record Fields (ns : List NodeSpec) (at : ℕ) (end : ℕ) (sum : ℕ) : Type 0 where
  pub fields : AllNoted
  pub number : ℕ
  pub parent : ℕ
  pub offset : ℕ
  pub pre : List NodeSpec
  pub post : List NodeSpec
  pub is : number ≡ at
  pub long : length pre ≡ at
  pub ends : end ≡ at + nodes_all fields
  pub whole : ns ≡ pre ++ (nodes_of_all fields number parent offset ++ post)
  pub light : sum + total_all fields < 2 ^ 32

abbrev pub AllSettled : {ns : List NodeSpec} {at end sum : ℕ} → Fields ns at end sum → ℕ → List NodeSpec → ℕ
    → Type 0
AllSettled g o ms bits = (ms ≡ g.pre ++ (nodes_of_all (settled_all g.fields) g.number g.parent o ++ g.post))
    × (bits ≡ o + inline_all (settled_all g.fields))

abbrev pub Between : ℕ → ℕ → ℕ → Type 0
Between low high n = (low ≤ n) × (n < high)

-- the node below is a child of a node, or stands below that child, so that the parents of the nodes after the
-- child are not before it
pub record Inside (ns : List NodeSpec) (node below : ℕ) : Type 0 where
  pub child : ℕ
  pub over : child ≤ below
  pub after : node < child
  pub long : below < length ns
  pub own : (d : NodeSpec) → (get_or ns child d).parent ≡ node
  pub inner : (k : ℕ) → child < k → k ≤ below → (d : NodeSpec) → Between child k (get_or ns k d).parent
