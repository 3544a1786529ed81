-- Cells, and the bounds that they set.
use Rattle.std.proofs.Common.{◌≡◌, ℕ, zero, suc, ◌+◌, ◌*◌, ◌≤◌, ◌<◌, length, arith, refl}
use Rattle.std.proofs.Math.Nat.{mul-le-mul_left}
use Rattle.frozen_model.specs.Trees.{LeafKind, Flag, Integer, Whole, I8, I16, I32, I64, Tree, Trees, Leaf, ByteRange, ItemRange, Optional, Struct, NoField, Field, greatest, leaf, byte_range, item_range, optional, struct, no_field, field}
use Rattle.frozen_model.specs.Values.{Value, Values, count, Of, one, bytes, items, absent, present, record_of, OfEach, none, more, OfAll, no_part, part, cells, cells_each, cells_all, inline_cells, inline_cells_all, range_cells, range_cells_each, range_cells_all}
use Rattle.frozen_model.specs.Layouts.{Layout, Layouts, Legal, AllLegal, stride, strides}
use Rattle.frozen_model.specs.Packing.{extent, extents, extent_all, bytes_for, distance}
use Rattle.frozen_model.specs.Holding.{Puts, AllPuts, puts, puts_each, puts_all, no_puts, no_puts_all, both, both_all}
use Rattle.frozen_laws.specs.Laws.{EachDistance, EachDistanceAmong}
use Rattle.frozen_laws.proofs.Leaves.{all_join, all_map}
use Rattle.frozen_laws.proofs.Puts.{Beside, AllBeside, puts_beside, puts_each_beside}

mutual
  pub cells_are : {A B : Type 0} {l : Tree A B} {v : Value} → Of l v → cells l v ≡ inline_cells l + range_cells l v
  cells_are (one o) = refl
  cells_are (bytes o p u) = refl
  cells_are (items o ri hs) = omega (arith, cells_each_are hs)
  cells_are (absent {l = l}) = omega arith
  cells_are (present h) = omega (arith, cells_are h)
  cells_are (record_of e hs) = cells_all_are hs

  pub cells_each_are : {A B : Type 0} {l : Tree A B} {vs : Values} → OfEach l vs → cells_each l vs ≡ count vs * suc (inline_cells l) + range_cells_each l vs
  cells_each_are none = omega arith
  cells_each_are (more h hs) = omega (arith, cells_are h, cells_each_are hs)

  pub cells_all_are : {A B : Type 0} {ls : Trees A B} {vs : Values} → OfAll ls vs → cells_all ls vs ≡ inline_cells_all ls + range_cells_all ls vs
  cells_all_are no_part = refl
  cells_all_are (part h hs) = omega (arith, cells_are h, cells_all_are hs)

-- ---- bounds

whole_le : (k : Whole) → greatest (Integer k) ≤ 64
whole_le I8 = omega arith
whole_le I16 = omega arith
whole_le I32 = omega arith
whole_le I64 = omega arith

greatest_le : (k : LeafKind) → greatest k ≤ 64
greatest_le Flag = omega arith
greatest_le (Integer k) = whole_le k

mutual
  pub stride_inline : (l : Layout) → Legal l → stride l ≤ 64 * inline_cells l
  stride_inline (Leaf k c) h = omega (arith, greatest_le k)
  stride_inline (ByteRange t d c) h = omega arith
  stride_inline (ItemRange g d c l) h = omega arith
  stride_inline (Optional w l) h = omega (arith, stride_inline l h.1)
  stride_inline (Struct ls) h = strides_inline ls h

  pub strides_inline : (ls : Layouts) → AllLegal ls → strides ls ≤ 64 * inline_cells_all ls
  strides_inline NoField h = omega arith
  strides_inline (Field i l ls) h = omega (arith, stride_inline l h.0, strides_inline ls h.1)

-- a block of n items, of so many bits and cells each
block_le : (n s i : ℕ) → s ≤ 64 * i → bytes_for (n * s) ≤ 8 * (n * suc i)
block_le zero s i h = omega arith
block_le (suc n) s i h = omega (arith, mul-le-mul_left (suc n) h)

mutual
  pub extent_cells : {l : Layout} {v : Value} → Of l v → Legal l → extent l v ≤ 8 * range_cells l v
  extent_cells (one o) h = omega arith
  extent_cells (bytes o p u) h = omega arith
  extent_cells (items {l = l} {vs = vs} o ri hs) h = omega (arith, block_le (count vs) (stride l) (inline_cells l) (stride_inline l h.2), extents_cells hs h.2)
  extent_cells absent h = omega arith
  extent_cells (present x) h = extent_cells x h.1
  extent_cells (record_of e hs) h = extent_all_cells hs h

  pub extents_cells : {l : Layout} {vs : Values} → OfEach l vs → Legal l → extents l vs ≤ 8 * range_cells_each l vs
  extents_cells none h = omega arith
  extents_cells (more x xs) h = omega (arith, extent_cells x h, extents_cells xs h)

  pub extent_all_cells : {ls : Layouts} {vs : Values} → OfAll ls vs → AllLegal ls → extent_all ls vs ≤ 8 * range_cells_all ls vs
  extent_all_cells no_part h = omega arith
  extent_all_cells (part x xs) h = omega (arith, extent_cells x h.0, extent_all_cells xs h.1)

-- the root block and what follows it
pub whole_cells : (l : Layout) (v : Value) → Of l v → Legal l → bytes_for (stride l) + extent l v ≤ 8 * cells l v
whole_cells l v o h = omega (arith, stride_inline l h, extent_cells o h, cells_are o)

-- ---- distances

mutual
  no_distance : (P : ℕ → Type 0) (l : Layout) → EachDistance P (no_puts l)
  no_distance P (Leaf k c) = tt
  no_distance P (ByteRange t d c) = tt
  no_distance P (ItemRange h d c l) = (tt, no_distance P l)
  no_distance P (Optional w l) = no_distance P l
  no_distance P (Struct ls) = no_distance_among P ls

  no_distance_among : (P : ℕ → Type 0) (ls : Layouts) → EachDistanceAmong P (no_puts_all ls)
  no_distance_among P NoField = tt
  no_distance_among P (Field i l ls) = (no_distance P l, no_distance_among P ls)

mutual
  distances_join : (P : ℕ → Type 0) {l : Layout} {p q : Puts} → Beside l p → Beside l q → EachDistance P p → EachDistance P q → EachDistance P (both p q)
  distances_join P (leaf x) (leaf y) h k = tt
  distances_join P (byte_range {d' = ds} x y) (byte_range {d' = es} z w) h k = all_join P ds es h k
  distances_join P (item_range {d' = ds} x y a) (item_range {d' = es} z w b) h k = (all_join P ds es h.0 k.0, distances_join P a b h.1 k.1)
  distances_join P (optional x a) (optional y b) h k = distances_join P a b h k
  distances_join P (struct a) (struct b) h k = distances_join_among P a b h k

  distances_join_among : (P : ℕ → Type 0) {l : Layouts} {p q : AllPuts} → AllBeside l p → AllBeside l q → EachDistanceAmong P p → EachDistanceAmong P q → EachDistanceAmong P (both_all p q)
  distances_join_among P no_field no_field h k = tt
  distances_join_among P (field a as_) (field b bs) h k = (distances_join P a b h.0 k.0, distances_join_among P as_ bs h.1 k.1)

distance_le : (n at : ℕ) → distance n at ≤ at
distance_le zero at = omega arith
distance_le (suc n) at = omega arith

-- each distance is at most the end of what the value has
mutual
  pub distances_within : {l : Layout} {v : Value} → Of l v → (most at : ℕ) → at + extent l v ≤ most → EachDistance (λ (d : ℕ). d ≤ most) (puts l v at)
  distances_within (one o) most at h = tt
  distances_within (bytes {bs = bs} o p u) most at h = (omega (arith, distance_le (length bs) at), tt)
  distances_within (items {l = l} {vs = vs} o ri hs) most at h =
      ((omega (arith, distance_le (count vs) at), tt), distances_within_each hs most (bytes_for (count vs * stride l)) (omega arith))
  distances_within (absent {l = l}) most at h = no_distance (λ (d : ℕ). d ≤ most) l
  distances_within (present k) most at h = distances_within k most at h
  distances_within (record_of e hs) most at h = distances_within_all hs most at h

  pub distances_within_each : {l : Layout} {vs : Values} → OfEach l vs → (most at : ℕ) → at + extents l vs ≤ most → EachDistance (λ (d : ℕ). d ≤ most) (puts_each l vs at)
  distances_within_each (none {l = l}) most at h = no_distance (λ (d : ℕ). d ≤ most) l
  distances_within_each (more {l = l} {v = v} k ks) most at h =
      distances_join (λ (d : ℕ). d ≤ most) (puts_beside k at) (puts_each_beside ks (at + extent l v)) (distances_within k most at (omega arith)) (distances_within_each ks most (at + extent l v) (omega arith))

  pub distances_within_all : {ls : Layouts} {vs : Values} → OfAll ls vs → (most at : ℕ) → at + extent_all ls vs ≤ most → EachDistanceAmong (λ (d : ℕ). d ≤ most) (puts_all ls vs at)
  distances_within_all no_part most at h = tt
  distances_within_all (part {l = l} {v = v} k ks) most at h = (distances_within k most at (omega arith), distances_within_all ks most (at + extent l v) (omega arith))

mutual
  distance_map : (P Q : ℕ → Type 0) → ((d : ℕ) → P d → Q d) → (p : Puts) → EachDistance P p → EachDistance Q p
  distance_map P Q f (Leaf k xs) h = tt
  distance_map P Q f (ByteRange t ds cs) h = all_map ds f h
  distance_map P Q f (ItemRange g ds cs p) h = (all_map ds f h.0, distance_map P Q f p h.1)
  distance_map P Q f (Optional ws p) h = distance_map P Q f p h
  distance_map P Q f (Struct ps) h = distance_map_among P Q f ps h

  distance_map_among : (P Q : ℕ → Type 0) → ((d : ℕ) → P d → Q d) → (p : AllPuts) → EachDistanceAmong P p → EachDistanceAmong Q p
  distance_map_among P Q f NoField h = tt
  distance_map_among P Q f (Field i p ps) h = (distance_map P Q f p h.0, distance_map_among P Q f ps h.1)

pub distances_below : (l : Layout) (v : Value) (most : ℕ) → Of l v → Legal l → 8 * cells l v < most → EachDistance (λ (d : ℕ). d < most) (puts l v (bytes_for (stride l)))
distances_below l v most o h few =
    distance_map (λ (d : ℕ). d ≤ 8 * cells l v) (λ (d : ℕ). d < most) (λ d k. omega arith) (puts l v (bytes_for (stride l))) (distances_within o (8 * cells l v) (bytes_for (stride l)) (whole_cells l v o h))
