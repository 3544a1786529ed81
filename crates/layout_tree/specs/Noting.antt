-- A layout with another width noted at a leaf.
use Rattle.std.specs.Prelude.{ℕ, zero, suc, ◌-◌, ◌<◌, ◌≤◌, ◌⊎◌, nat_lt, if◌then◌else◌}
use Rattle.frozen_model.specs.Trees.{Leaf, ByteRange, ItemRange, Optional, Struct, NoField, Field, nodes}
use Rattle.frozen_model.specs.Trees.{greatest}
use Rattle.layout_tree.specs.Listing.{Width, Noted, AllNoted}

abbrev pub noting : Width → ℕ → Width
noting d w = record { bits = d.bits; wide = w }

-- the tree with w noted at its k-th node, where that is a leaf
abbrev mutual
  pub noted_at : Noted → ℕ → ℕ → Noted
  noted_at (Leaf k c) zero w = Leaf k (record { base = c.base; bits = c.bits; wide = w })
  noted_at (ByteRange t d c) (suc zero) w = ByteRange t (noting d w) c
  noted_at (ByteRange t d c) (suc (suc zero)) w = ByteRange t d (noting c w)
  noted_at (ItemRange h d c l) (suc zero) w = ItemRange h (noting d w) c l
  noted_at (ItemRange h d c l) (suc (suc zero)) w = ItemRange h d (noting c w) l
  noted_at (ItemRange h d c l) (suc (suc (suc k))) w = ItemRange h d c (noted_at l k w)
  noted_at (Optional x l) (suc zero) w = Optional (noting x w) l
  noted_at (Optional x l) (suc (suc k)) w = Optional x (noted_at l k w)
  noted_at (Struct ls) (suc k) w = Struct (all_noted_at ls k w)
  noted_at t k w = t

  pub all_noted_at : AllNoted → ℕ → ℕ → AllNoted
  all_noted_at NoField k w = NoField
  all_noted_at (Field id l ls) k w = if nat_lt k (nodes l) then Field id (noted_at l k w) ls else Field id l
      (all_noted_at ls (k - nodes l) w)

-- the k-th node of a tree is a leaf, and w is at most its greatest width
abbrev mutual
  pub LeafAt : Noted → ℕ → ℕ → Type 0
  LeafAt (Leaf k c) zero w = w ≤ greatest k
  LeafAt (ByteRange t d c) (suc zero) w = w ≤ 32
  LeafAt (ByteRange t d c) (suc (suc zero)) w = w ≤ 32
  LeafAt (ItemRange h d c l) (suc zero) w = w ≤ 32
  LeafAt (ItemRange h d c l) (suc (suc zero)) w = w ≤ 32
  LeafAt (ItemRange h d c l) (suc (suc (suc k))) w = LeafAt l k w
  LeafAt (Optional x l) (suc zero) w = w ≤ 1
  LeafAt (Optional x l) (suc (suc k)) w = LeafAt l k w
  LeafAt (Struct ls) (suc k) w = LeafAmong ls k w
  LeafAt t k w = ⊥

  pub LeafAmong : AllNoted → ℕ → ℕ → Type 0
  LeafAmong NoField k w = ⊥
  LeafAmong (Field id l ls) k w = ((k < nodes l) × LeafAt l k w)
      ⊎ ((nodes l ≤ k) × LeafAmong ls (k - nodes l) w)

-- the width that is noted at the k-th node of a tree, where that is a leaf
abbrev mutual
  pub wide_at : Noted → ℕ → ℕ
  wide_at (Leaf k c) zero = c.wide
  wide_at (ByteRange t d c) (suc zero) = d.wide
  wide_at (ByteRange t d c) (suc (suc zero)) = c.wide
  wide_at (ItemRange h d c l) (suc zero) = d.wide
  wide_at (ItemRange h d c l) (suc (suc zero)) = c.wide
  wide_at (ItemRange h d c l) (suc (suc (suc k))) = wide_at l k
  wide_at (Optional x l) (suc zero) = x.wide
  wide_at (Optional x l) (suc (suc k)) = wide_at l k
  wide_at (Struct ls) (suc k) = wide_among ls k
  wide_at t k = 0

  pub wide_among : AllNoted → ℕ → ℕ
  wide_among NoField k = 0
  wide_among (Field id l ls) k = if nat_lt k (nodes l) then wide_at l k else wide_among ls (k - nodes l)
