-- The nonempty ranges of a value, in the order of their blocks.
use Rattle.std.specs.Prelude.{◌≡◌, ℕ, zero, suc, ◌+◌, ◌-◌, ◌*◌, ◌^◌, ◌≤◌, ◌<◌, List, [], ◌∷◌, ◌++◌, length}
use Rattle.std.specs.Prelude.{map, get_or, max, take, drop, Bool, false, ◌↔◌}
use Rattle.frozen_model.specs.Bits.{digits}
use Rattle.frozen_model.specs.Trees.{Leaf, ByteRange, ItemRange, Optional, Struct, NoField, Field, nodes}
use Rattle.frozen_model.specs.Trees.{Part, Alike}
use Rattle.frozen_model.specs.Values.{Value, Values, Bytes, Items, Present, Record, NoValue, And, count, Of}
use Rattle.frozen_model.specs.Values.{cells, cell_limit}
use Rattle.frozen_model.specs.Layouts.{Version, Layout, Layouts, Described, stride}
use Rattle.frozen_model.specs.Packing.{extent, bytes_for}
use Rattle.frozen_model.specs.Holding.{Puts, AllPuts, puts, puts_of, widened, pass}
use Rattle.frozen_laws.specs.Laws.{Filled}
use Rattle.layout_tree.specs.Listing.{Noted, sub}
use Rattle.layout_tree.specs.Reading.{IsRange}
use Rattle.measure_pass.specs.declared.ranges.RangeSpot.{RangeSpot}
use Rattle.measure_pass.specs.declared.ranges.Ranges.{Ranges}
use Rattle.layout_tree.specs.Noting.{noted_at, wide_at}
use Rattle.measure_pass.specs.Growing.{Grew, passed}

-- a range: its node, its count, the number of the range in whose block it lies, and the byte where its block
-- begins
abbrev pub Spot : Type 0
Spot = RangeSpot

abbrev pub spot : ℕ → ℕ → ℕ → ℕ → Spot
spot node count parent start = record { node = node; count = count; parent = parent; start = start }

-- the block of the value itself
abbrev pub root : Spot
root = spot 0 1 0 0

-- a range, where it is not empty, and those after it
abbrev pub with_spot : ℕ → ℕ → ℕ → ℕ → List Spot → List Spot
with_spot i zero p at rest = []
with_spot i (suc n) p at rest = spot i (suc n) p at ∷ rest

-- the ranges of a value whose node is i, which lies in the block of the p-th range, where n ranges are before
-- it and its first own block begins at byte at
abbrev mutual
  pub spots : Layout → Value → ℕ → ℕ → ℕ → ℕ → List Spot
  spots (ByteRange t d c) (Bytes bs) i p n at = with_spot i (length bs) p at []
  spots (ItemRange h d c l) (Items g vs) i p n at = with_spot i (count vs) p at
      (spots_each l vs (i + 3) n (suc n) (at + bytes_for (count vs * stride l)))
  spots (Optional w l) (Present v) i p n at = spots l v (i + 2) p n at
  spots (Struct ls) (Record ids vs) i p n at = spots_all ls vs (i + 1) p n at
  spots _ _ i p n at = []

  pub spots_each : Layout → Values → ℕ → ℕ → ℕ → ℕ → List Spot
  spots_each l NoValue i p n at = []
  spots_each l (And v vs) i p n at = spots l v i p n at
      ++ spots_each l vs i p (n + length (spots l v i p n at)) (at + extent l v)

  pub spots_all : Layouts → Values → ℕ → ℕ → ℕ → ℕ → List Spot
  spots_all (Field id l ls) (And v vs) i p n at = spots l v i p n at
      ++ spots_all ls vs (i + nodes l) p (n + length (spots l v i p n at)) (at + extent l v)
  spots_all _ _ i p n at = []

abbrev pub spots_of : Layout → Value → List Spot
spots_of l v = root ∷ spots l v 0 0 1 (bytes_for (stride l))

-- the same without their starts: this does not turn on widths, and is what gathering gives
abbrev pub unplaced : Spot → Spot
unplaced s = spot s.node s.count s.parent 0

-- ---- a pass over ranges

-- the bytes of the block of a range
abbrev pub block_bytes : Layout → ℕ → ℕ
block_bytes (ByteRange t d c) n = n
block_bytes (ItemRange h d c l) n = bytes_for (n * stride l)
block_bytes l n = 0

abbrev pub start_of : List Spot → ℕ → ℕ
start_of done p = (get_or done p root).start

abbrev pub noting_at : Noted → ℕ → ℕ → Noted
noting_at t k w = noted_at t k (max (wide_at t k) w)

pub record Ran : Type 0 where
  pub spots : List Spot
  pub end : ℕ
  pub tree : Noted

-- from a byte on, each range gets its start, and its distance from the start of the block that it lies in is
-- noted
abbrev pub run : Layout → List Spot → ℕ → Noted → List Spot → Ran
run l done at t [] = record { spots = done; end = at; tree = t }
run l done at t (s ∷ ss) = run l (done ++ spot s.node s.count s.parent at ∷ [])
    (at + block_bytes (sub l s.node) s.count)
    (noting_at t (s.node + 1) (digits (at - start_of done s.parent))) ss

-- the distances alone
abbrev mutual
  pub distances : Puts → Puts
  distances (Leaf k xs) = Leaf k []
  distances (ByteRange t ds cs) = ByteRange t ds []
  distances (ItemRange h ds cs p) = ItemRange h ds [] (distances p)
  distances (Optional ws p) = Optional [] (distances p)
  distances (Struct ps) = Struct (distances_all ps)

  pub distances_all : AllPuts → AllPuts
  distances_all NoField = NoField
  distances_all (Field i p ps) = Field i (distances p) (distances_all ps)

-- where all else is as wide as its numbers need, a pass widens by the distances alone
abbrev pub DistancesSuffice : Type 0
DistancesSuffice = (l : Layout) (p : Puts) → Filled l p → widened l p ≡ widened l (distances p)

-- What running over the ranges of a part does, which has the layout l at node i of the whole: they get their
-- starts, the next block begins after the part's, and the part grows by its distances.
pub record Runs (v : Version) (whole l : Layout) (u : Value) (i p n at : ℕ) (done rest : List Spot)
    (t : Noted) : Type 0 where
  pub tree : Noted
  pub is : run whole done at t (map unplaced (spots l u i p n at) ++ rest)
      ≡ run whole (done ++ spots l u i p n at) (at + extent l u) tree rest
  pub grew : Grew v l (distances (puts l u (at - start_of done p))) t tree i

abbrev pub RunIsPass : Type 0
RunIsPass = (v : Version) (whole l : Layout) (u : Value) (i p n at : ℕ) (done rest : List Spot) (t : Noted)
    → Of l u → Part whole 0 l i → n ≡ length done → p < length done → start_of done p ≤ at → at + extent l u
    < 2 ^ 32
    → Runs v whole l u i p n at done rest t

-- the ranges are those of a value but for their starts, and all its leaves other than distances are wide
-- enough
pub record AreSpots (l : Layout) (ranges : List Spot) (v : Value) : Type 0 where
  pub form : Of l v
  pub first : take 1 ranges ≡ root ∷ []
  pub same : map unplaced (drop 1 ranges) ≡ map unplaced (spots l v 0 0 1 (bytes_for (stride l)))
  pub filled : Filled l (puts_of l v)
  pub few : cells l v ≤ cell_limit

pub record SomeSpots (l : Layout) (ranges : List Spot) : Type 0 where
  pub value : Value
  pub are : AreSpots l ranges value

-- what a pass over ranges leaves: the layout that a pass over the value leaves, and ranges with their starts
pub record RangePassed (old new : Described) (ranges : List Spot) (v : Value) (widened_any : Bool) : Type 0
  where
    pub layout : new ≡ passed old v
    pub starts : ranges ≡ spots_of old.tree v
    pub rested : widened_any ≡ false ↔ pass old.tree v ≡ old.tree

-- what is gathered does not turn on widths or bases
abbrev pub GatheredAlike : Type 0
GatheredAlike = (l m : Layout) (v : Value) → Alike l m → map unplaced (spots_of l v)
    ≡ map unplaced (spots_of m v)

abbrev pub ran : List Spot → ℕ → Noted → Ran
ran done at t = record { spots = done; end = at; tree = t }

-- each range is one of the layout, in a block that began before, and blocks end below 2 ^ 32
abbrev pub Runnable : Layout → List Spot → ℕ → List Spot → Type 0
Runnable l done at [] = Unit {0}
Runnable l done at (s ∷ ss) = Part l 0 (sub l s.node) s.node × IsRange (sub l s.node)
    × (s.parent < length done) × (start_of done s.parent ≤ at) × (s.count < 2 ^ 31)
    × (at + block_bytes (sub l s.node) s.count < 2 ^ 32)
    × Runnable l (done ++ spot s.node s.count s.parent at ∷ []) (at + block_bytes (sub l s.node) s.count) ss

-- the spots of ranges
abbrev pub listed : Ranges → List Spot
listed r = r.spots.items

-- ---- gathering

-- the ranges of a part at node i, which lies in the block of the p-th range, are added, each with start 0
abbrev pub Gathers : Layout → Value → ℕ → ℕ → List Spot → List Spot → Type 0
Gathers l u i p old new = new ≡ old ++ map unplaced (spots l u i p (length old) 0)

-- the same of the items of a range
abbrev pub EachGathers : Layout → Values → ℕ → ℕ → List Spot → List Spot → Type 0
EachGathers l vs i p old new = new ≡ old ++ map unplaced (spots_each l vs i p (length old) 0)
