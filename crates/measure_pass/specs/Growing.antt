-- What a pass does to noted widths.
use Rattle.std.specs.Prelude.{◌≡◌, ℕ, ◌+◌, ◌^◌, ◌<◌, ◌≤◌, [], ◌∷◌, max}
use Rattle.frozen_model.specs.Trees.{Leaf, ByteRange, ItemRange, Optional, Struct, Field}
use Rattle.frozen_model.specs.Values.{Value, Values, Of, OfEach, cells, cell_limit}
use Rattle.frozen_model.specs.Layouts.{Version, Version2, Layout, Layouts as LayoutsOf, Legal, Described}
use Rattle.frozen_model.specs.Layouts.{described}
use Rattle.frozen_model.specs.Packing.{extent, extents, extent_all, distance}
use Rattle.frozen_model.specs.Holding.{Puts, AllPuts, Based, puts_of, puts, puts_each, puts_all, no_puts}
use Rattle.frozen_model.specs.Holding.{widened, pass, greatest_need, greatest_digits}
use Rattle.layout_tree.specs.declared.layouts.Layouts.{Layouts}
use Rattle.layout_tree.specs.Listing.{Noted, AllNoted, coded, layout_in, layouts_in, version_of}
use Rattle.layout_tree.specs.Nodes.{layout_of, noted_in}
use Rattle.layout_tree.specs.Noting.{noting, noted_at, all_noted_at, LeafAt, LeafAmong, wide_at, wide_among}

-- each leaf with the greatest of its noted width and the needs of its numbers noted
abbrev mutual
  pub grown : Version → Noted → Puts → Noted
  grown v (Leaf k c) (Leaf j xs) = Leaf k (record {
    base = c.base;
    bits = c.bits;
    wide = max c.wide (greatest_need (coded v k c.base c.bits) xs);
  })
  grown v (ByteRange t d c) (ByteRange u ds cs) = ByteRange t (noting d (max d.wide (greatest_digits ds)))
      (noting c (max c.wide (greatest_digits cs)))
  grown v (ItemRange h d c l) (ItemRange g ds cs p) = ItemRange h (noting d (max d.wide (greatest_digits ds)))
      (noting c (max c.wide (greatest_digits cs))) (grown v l p)
  grown v (Optional w l) (Optional ws p) = Optional (noting w (max w.wide (greatest_digits ws))) (grown v l p)
  grown v (Struct ls) (Struct ps) = Struct (grown_all v ls ps)
  grown v t _ = t

  pub grown_all : Version → AllNoted → AllPuts → AllNoted
  grown_all v (Field i l ls) (Field j p ps) = Field i (grown v l p) (grown_all v ls ps)
  grown_all v ls _ = ls

-- a tree with a hole for a part whose node is n: noting a width in the part is noting it in the whole
pub record Hole (whole : Noted → Noted) (n : ℕ) : Type 0 where
  pub note : (s : Noted) (k w u : ℕ) → LeafAt s k u → noted_at (whole s) (n + k) w ≡ whole (noted_at s k w)
  pub wide : (s : Noted) (k u : ℕ) → LeafAt s k u → wide_at (whole s) (n + k) ≡ wide_at s k

-- the same with a hole for fields, the first of which has the node n
pub record FieldsHole (whole : AllNoted → Noted) (n : ℕ) : Type 0 where
  pub note : (s : AllNoted) (k w u : ℕ) → LeafAmong s k u → noted_at (whole s) (n + k) w
      ≡ whole (all_noted_at s k w)
  pub wide : (s : AllNoted) (k u : ℕ) → LeafAmong s k u → wide_at (whole s) (n + k) ≡ wide_among s k

-- the part at node n, of the layout l, has grown by the numbers p, and all else is as it was
abbrev pub Grew : Version → Layout → Puts → Noted → Noted → ℕ → Type 0
Grew v l p old new n = (whole : Noted → Noted) → Hole whole n → (s : Noted) → layout_in v s ≡ l → old
    ≡ whole s → new ≡ whole (grown v s p)

abbrev pub FieldsGrew : Version → LayoutsOf → AllPuts → Noted → Noted → ℕ → Type 0
FieldsGrew v ls ps old new n = (whole : AllNoted → Noted) → FieldsHole whole n → (s : AllNoted)
    → layouts_in v s ≡ ls → old ≡ whole s → new ≡ whole (grown_all v s ps)

-- the numbers of a range of n items, without those of its items
abbrev pub range_puts : Layout → ℕ → ℕ → Puts
range_puts (ByteRange t d c) n at = ByteRange t (distance n at ∷ []) (n ∷ [])
range_puts (ItemRange h d c l) n at = ItemRange h (distance n at ∷ []) (n ∷ []) (no_puts l)
range_puts l n at = no_puts l

-- the layout of the bits stays, with its version and whether it is relaxed
pub record Same (old new : Layouts) : Type 0 where
  pub layout : layout_of new ≡ layout_of old

-- a part may be measured: it has the layout's form, no need passes a leaf's greatest width, and sums are
-- small
pub record Ready (l : Layout) (v : Value) (from : ℕ) : Type 0 where
  pub form : Of l v
  pub legal : Legal (widened l (puts l v from))
  pub small : from + extent l v < 2 ^ 32

pub record EachReady (l : Layout) (vs : Values) (from : ℕ) : Type 0 where
  pub form : OfEach l vs
  pub legal : Legal (widened l (puts_each l vs from))
  pub small : from + extents l vs < 2 ^ 32

-- the distance and the count of a range are noted
pub record RangeGrew (l : Layout) (n from : ℕ) (old new : Layouts) (node : ℕ) : Type 0 where
  pub same : Same old new
  pub grew : Grew (version_of old.version) l (range_puts l n from) (noted_in old) (noted_in new) node

-- what a part needs is noted, and its blocks end at next
pub record Visited (l : Layout) (v : Value) (old new : Layouts) (node from next : ℕ) : Type 0 where
  pub same : Same old new
  pub grew : Grew (version_of old.version) l (puts l v from) (noted_in old) (noted_in new) node
  pub ends : next ≡ from + extent l v

-- the same of items, and of fields
pub record EachVisited (l : Layout) (vs : Values) (old new : Layouts) (node from next : ℕ) : Type 0 where
  pub same : Same old new
  pub grew : Grew (version_of old.version) l (puts_each l vs from) (noted_in old) (noted_in new) node
  pub ends : next ≡ from + extents l vs

pub record FieldsVisited (ls : LayoutsOf) (vs : Values) (old new : Layouts) (node from next : ℕ) : Type 0
  where
    pub same : Same old new
    pub grew : FieldsGrew (version_of old.version) ls (puts_all ls vs from) (noted_in old) (noted_in new) node
    pub ends : next ≡ from + extent_all ls vs

-- a pass may go over a value: it has the layout's form, no need passes a leaf's greatest width, and its
-- extent is small
pub record Passable (l : Layout) (v : Value) : Type 0 where
  pub form : Of l v
  pub legal : Legal (pass l v)
  pub small : extent l v ≤ 2 ^ 29

-- A value may be measured under a layout: it has the layout's form and is within the limit of cells, and in
-- version 2 each base is the least number there.
pub record Measurable (d : Described) (v : Value) : Type 0 where
  pub form : Of d.tree v
  pub few : cells d.tree v ≤ cell_limit
  pub based : d.version ≡ Version2 → Based d.tree (puts_of d.tree v)

-- a layout after one pass over a value
abbrev pub passed : Described → Value → Described
passed d v = described d.version d.relaxed (pass d.tree v)
