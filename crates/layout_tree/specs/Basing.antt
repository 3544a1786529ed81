-- A layout with another base at a leaf.
use Rattle.std.specs.Prelude.{ℕ, zero, suc, ℤ, ◌-◌, ◌<◌, ◌≤◌, ◌⊎◌, Bool, true, false, nat_lt, if◌then◌else◌}
use Rattle.frozen_model.specs.Trees.{Integer, Leaf, ItemRange, Optional, Struct, NoField, Field, nodes}
use Rattle.frozen_model.specs.Trees.{value_bits}
use Rattle.frozen_model.specs.Values.{InBits}
use Rattle.layout_tree.specs.Listing.{Noted, AllNoted}

-- the tree with the base b at its k-th node, where that is a leaf of whole numbers
abbrev mutual
  pub based_at : Noted → ℕ → ℤ → Noted
  based_at (Leaf (Integer j) c) zero b = Leaf (Integer j) (record { base = b; bits = c.bits; wide = c.wide })
  based_at (ItemRange h d c l) (suc (suc (suc k))) b = ItemRange h d c (based_at l k b)
  based_at (Optional x l) (suc (suc k)) b = Optional x (based_at l k b)
  based_at (Struct ls) (suc k) b = Struct (all_based_at ls k b)
  based_at t k b = t

  pub all_based_at : AllNoted → ℕ → ℤ → AllNoted
  all_based_at NoField k b = NoField
  all_based_at (Field id l ls) k b = if nat_lt k (nodes l) then Field id (based_at l k b) ls else Field id l
      (all_based_at ls (k - nodes l) b)

-- the k-th node of a tree is a leaf of whole numbers of a kind that b is in the range of
abbrev mutual
  pub BaseAt : Noted → ℕ → ℤ → Type 0
  BaseAt (Leaf (Integer j) c) zero b = InBits (value_bits j) b
  BaseAt (ItemRange h d c l) (suc (suc (suc k))) b = BaseAt l k b
  BaseAt (Optional x l) (suc (suc k)) b = BaseAt l k b
  BaseAt (Struct ls) (suc k) b = BaseAmong ls k b
  BaseAt t k b = ⊥

  pub BaseAmong : AllNoted → ℕ → ℤ → Type 0
  BaseAmong NoField k b = ⊥
  BaseAmong (Field id l ls) k b = ((k < nodes l) × BaseAt l k b)
      ⊎ ((nodes l ≤ k) × BaseAmong ls (k - nodes l) b)

-- whether the k-th node of a tree is a leaf of whole numbers
abbrev mutual
  pub whole_at : Noted → ℕ → Bool
  whole_at (Leaf (Integer j) c) zero = true
  whole_at (ItemRange h d c l) (suc (suc (suc k))) = whole_at l k
  whole_at (Optional x l) (suc (suc k)) = whole_at l k
  whole_at (Struct ls) (suc k) = whole_among ls k
  whole_at t k = false

  pub whole_among : AllNoted → ℕ → Bool
  whole_among NoField k = false
  whole_among (Field id l ls) k = if nat_lt k (nodes l) then whole_at l k else whole_among ls (k - nodes l)
