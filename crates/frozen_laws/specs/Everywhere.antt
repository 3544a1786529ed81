-- That each number fits its leaf, by recursion over the value: the form that laws of packing use.
use Rattle.std.specs.Prelude.{ℕ, ◌+◌, ◌*◌, ◌≤◌, length}
use Rattle.frozen_model.specs.Bits.{digits}
use Rattle.frozen_model.specs.Trees.{Leaf, ByteRange, ItemRange, Optional, Struct, Field}
use Rattle.frozen_model.specs.Values.{Value, Values, One, Bytes, Items, Present, Record, NoValue, And, count}
use Rattle.frozen_model.specs.Layouts.{Layout, Layouts, stride, number_of, Fits}
use Rattle.frozen_model.specs.Packing.{extent, bytes_for, distance}

-- a range's distance and count fit their widths
abbrev pub RangeFits : ℕ → ℕ → ℕ → ℕ → Type 0
RangeFits d c n at = (digits (distance n at) ≤ d) × (digits n ≤ c)

-- each number fits, where its first own block begins at bytes after the start of the block that it lies in
abbrev mutual
  pub HoldsAt : Layout → Value → ℕ → Type 0
  HoldsAt (Leaf k c) (One x) at = Fits c (number_of x)
  HoldsAt (ByteRange t d c) (Bytes bs) at = RangeFits d c (length bs) at
  HoldsAt (ItemRange h d c l) (Items g vs) at = RangeFits d c (count vs) at
      × HoldsEach l vs (bytes_for (count vs * stride l))
  HoldsAt (Optional w l) (Present v) at = (1 ≤ w) × HoldsAt l v at
  HoldsAt (Struct ls) (Record ids vs) at = HoldsAll ls vs at
  HoldsAt _ _ at = Unit {0}

  pub HoldsEach : Layout → Values → ℕ → Type 0
  HoldsEach l NoValue at = Unit {0}
  HoldsEach l (And v vs) at = HoldsAt l v at × HoldsEach l vs (at + extent l v)

  pub HoldsAll : Layouts → Values → ℕ → Type 0
  HoldsAll (Field i l ls) (And v vs) at = HoldsAt l v at × HoldsAll ls vs (at + extent l v)
  HoldsAll _ _ at = Unit {0}
