-- Packing: where each bit of a value stands.
use Rattle.std.specs.Prelude.{◌≡◌, ℕ, zero, suc, ◌+◌, ◌-◌, ◌*◌, ◌/◌, ◌<◌, List, [], ◌∷◌, ◌++◌, Bool, false, length, replicate, get_or}
use Rattle.frozen_model.specs.Bits.{bits, bits_of, bytes_of}
use Rattle.frozen_model.specs.Trees.{Holder, Leaf, ByteRange, ItemRange, Optional, Struct, Field, nodes}
use Rattle.frozen_model.specs.Values.{Value, Values, One, Bytes, Items, Absent, Present, Record, NoValue, And, count, nth}
use Rattle.frozen_model.specs.Layouts.{Layout, Layouts, stride, number_of, leaf_bits}

-- whole bytes for so many bits
abbrev pub bytes_for : ℕ → ℕ
bytes_for n = (n + 7) / 8

-- the zero bits from the end of so many bits to the end of their last byte
abbrev pub padding : ℕ → List Bool
padding n = replicate (8 * bytes_for n - n) false

-- the bytes of the blocks that belong to a value
abbrev mutual
  pub extent : Layout → Value → ℕ
  extent (ByteRange t d c) (Bytes bs) = length bs
  extent (ItemRange h d c l) (Items g vs) = bytes_for (count vs * stride l) + extents l vs
  extent (Optional w l) (Present v) = extent l v
  extent (Struct ls) (Record ids vs) = extent_all ls vs
  extent _ _ = 0

  pub extents : Layout → Values → ℕ
  extents l NoValue = 0
  extents l (And v vs) = extent l v + extents l vs

  pub extent_all : Layouts → Values → ℕ
  extent_all (Field i l ls) (And v vs) = extent l v + extent_all ls vs
  extent_all _ _ = 0

-- the distance of a range of n items whose block begins at bytes after the start of the block that the range lies in
abbrev pub distance : ℕ → ℕ → ℕ
distance zero at = 0
distance (suc n) at = at

-- a range's bits: its distance, and then its count
abbrev pub range_bits : ℕ → ℕ → ℕ → ℕ → List Bool
range_bits d c n at = bits d (distance n at) ++ bits c n

-- a value's bits inline, where its first own block begins at bytes after the start of the block that it lies in
abbrev mutual
  pub image : Layout → Value → ℕ → List Bool
  image (Leaf k c) (One x) at = leaf_bits c (number_of x)
  image (ByteRange t d c) (Bytes bs) at = range_bits d c (length bs) at
  image (ItemRange h d c l) (Items g vs) at = range_bits d c (count vs) at
  image (Optional w l) Absent at = replicate (w + stride l) false
  image (Optional w l) (Present v) at = bits w 1 ++ image l v at
  image (Struct ls) (Record ids vs) at = image_all ls vs at
  image _ _ at = []

  -- of the items of one block
  pub images : Layout → Values → ℕ → List Bool
  images l NoValue at = []
  images l (And v vs) at = image l v at ++ images l vs (at + extent l v)

  -- of the fields of a struct
  pub image_all : Layouts → Values → ℕ → List Bool
  image_all (Field i l ls) (And v vs) at = image l v at ++ image_all ls vs (at + extent l v)
  image_all _ _ at = []

-- the bits of the blocks that belong to a value: of a range its own block, and then those of its items
abbrev mutual
  pub tail : Layout → Value → List Bool
  tail (ByteRange t d c) (Bytes bs) = bits_of bs
  tail (ItemRange h d c l) (Items g vs) =
      images l vs (bytes_for (count vs * stride l)) ++ (padding (count vs * stride l) ++ tails l vs)
  tail (Optional w l) (Present v) = tail l v
  tail (Struct ls) (Record ids vs) = tail_all ls vs
  tail _ _ = []

  pub tails : Layout → Values → List Bool
  tails l NoValue = []
  tails l (And v vs) = tail l v ++ tails l vs

  pub tail_all : Layouts → Values → List Bool
  tail_all (Field i l ls) (And v vs) = tail l v ++ tail_all ls vs
  tail_all _ _ = []

-- the block of these items, with all blocks that belong to them
abbrev pub block : Layout → Values → List Bool
block l vs = images l vs (bytes_for (count vs * stride l)) ++ (padding (count vs * stride l) ++ tails l vs)

-- a value's packing: the block of it alone
abbrev pub pack : Layout → Value → List Bool
pack l v = block l (And v NoValue)

-- the bytes are the packing of the value
abbrev pub Packs : Layout → Value → List ℕ → Type 0
Packs l v bs = bits_of bs ≡ pack l v

-- those bytes
abbrev pub packed : Layout → Value → List ℕ
packed l v = bytes_of (bytes_for (stride l) + extent l v) (pack l v)

-- ---- places in a packing

-- a place: the node of a layout, the byte where the block begins that the value lies in, the value's first bit, and the
-- byte where its first own block begins
pub record Place : Type 0 where
  pub node : ℕ
  pub start : ℕ
  pub bit : ℕ
  pub next : ℕ

-- the place with these parts
abbrev pub place : ℕ → ℕ → ℕ → ℕ → Place
place node start bit next = record { node = node; start = start; bit = bit; next = next }

-- the extents of the first items
abbrev pub extents_before : Layout → Values → ℕ → ℕ
extents_before l NoValue j = 0
extents_before l (And v vs) zero = 0
extents_before l (And v vs) (suc j) = extent l v + extents_before l vs j

-- Of a value of a layout at one place, that part of it which is a value u of the layout m at another place.
mutual
  pub data PartAt (m : Layout) (u : Value) (p : Place) : Layout → Value → Place → Type 0 where
    here : PartAt m u p m u p
    item_at : {h : Holder} {d c : ℕ} {l : Layout} {vs : Values} {i start bit next : ℕ} → (j : ℕ) → j < count vs
        → PartAt m u p l (nth vs j) (place (suc (suc (suc i))) next (8 * next + j * stride l) (next + bytes_for (count vs * stride l) + extents_before l vs j))
        → PartAt m u p (ItemRange h d c l) (Items h vs) (place i start bit next)
    inner_at : {w : ℕ} {l : Layout} {v : Value} {i start bit next : ℕ}
        → PartAt m u p l v (place (suc (suc i)) start (bit + w) next)
        → PartAt m u p (Optional w l) (Present v) (place i start bit next)
    field_at : {ls : Layouts} {ids : List ℕ} {vs : Values} {i start bit next : ℕ}
        → PartAmong m u p ls vs (place (suc i) start bit next)
        → PartAt m u p (Struct ls) (Record ids vs) (place i start bit next)

  -- the same of the fields of a struct
  pub data PartAmong (m : Layout) (u : Value) (p : Place) : Layouts → Values → Place → Type 0 where
    first_at : {id : ℕ} {l : Layout} {ls : Layouts} {v : Value} {vs : Values} {i start bit next : ℕ}
        → PartAt m u p l v (place i start bit next)
        → PartAmong m u p (Field id l ls) (And v vs) (place i start bit next)
    later_at : {id : ℕ} {l : Layout} {ls : Layouts} {v : Value} {vs : Values} {i start bit next : ℕ}
        → PartAmong m u p ls vs (place (i + nodes l) start (bit + stride l) (next + extent l v))
        → PartAmong m u p (Field id l ls) (And v vs) (place i start bit next)

-- u is the part of v that lies at that node of the layout, in the block that begins at byte start, with its first bit
-- at bit
abbrev pub Lies : Layout → Value → ℕ → ℕ → ℕ → Value → Type 0
Lies l v node start bit u = (m : Layout) × (next : ℕ)
    × PartAt m u (place node start bit next) l v (place 0 0 0 (bytes_for (stride l)))

-- ---- what stands in a list of bits

-- the bits xs stand at that place among bits
abbrev pub Stands : List Bool → ℕ → List Bool → Type 0
Stands bits at [] = Unit {0}
Stands bits at (x ∷ xs) = (at < length bits) × (get_or bits at false ≡ x) × Stands bits (suc at) xs
