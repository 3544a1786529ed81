-- What writing a value does to a region.
use Rattle.std.specs.Prelude.{◌≡◌, ℕ, ◌+◌, ◌-◌, ◌*◌, ◌^◌, ◌<◌, ◌≤◌, List, ◌++◌, Bool, false, length}
use Rattle.std.specs.Prelude.{replicate}
use Rattle.frozen_model.specs.Bits.{bits_of}
use Rattle.frozen_model.specs.Values.{Value, Values, count, Of, OfEach}
use Rattle.frozen_model.specs.Layouts.{Layout, Layouts, stride, strides}
use Rattle.frozen_model.specs.Packing.{extent, extents, extent_all, image, images, image_all, tail, tails}
use Rattle.frozen_model.specs.Packing.{tail_all}
use Rattle.frozen_laws.specs.Everywhere.{HoldsAt, HoldsEach}
use Rattle.block_region.specs.Space.{Space, Span, IsTaken}

-- The bits xs stand at p in place of w zero bits, and the bits ts at q in place of t zero bits, behind which
-- all bits are zero; all others are as they were.
abbrev pub Writes : List Bool → List Bool → ℕ → ℕ → List Bool → ℕ → ℕ → List Bool → Type 0
Writes old new p w xs q t ts = (a c : List Bool) (m : ℕ) → length a ≡ p → p + w + length c ≡ q
    → old ≡ a ++ (replicate w false ++ (c ++ replicate (t + m) false))
    → new ≡ a ++ (xs ++ (c ++ (ts ++ replicate m false)))

-- a part may be written at a bit of a block: it is a value that fits there, there is room for its blocks, and
-- its bits lie in the block
pub record Ready (l : Layout) (v : Value) (s : Space) (b : Span) (bit : ℕ) : Type 0 where
  pub form : Of l v
  pub holds : HoldsAt l v (s.taken - b.start)
  pub room : s.taken + extent l v ≤ length s.bytes
  pub taken : IsTaken s b
  pub inside : bit + stride l ≤ 8 * b.len
  pub small : bit + stride l < 2 ^ 56

-- the part is written there, and its blocks are taken
pub record Wrote (l : Layout) (v : Value) (old new : Space) (b : Span) (bit : ℕ) : Type 0 where
  pub taken : new.taken ≡ old.taken + extent l v
  pub length : length new.bytes ≡ length old.bytes
  pub written : Writes (bits_of old.bytes) (bits_of new.bytes) (8 * b.start + bit) (stride l)
      (image l v (old.taken - b.start)) (8 * old.taken) (8 * extent l v) (tail l v)

-- the same of the items of a block that was just taken
pub record EachReady (l : Layout) (vs : Values) (s : Space) (b : Span) : Type 0 where
  pub form : OfEach l vs
  pub holds : HoldsEach l vs (s.taken - b.start)
  pub room : s.taken + extents l vs ≤ length s.bytes
  pub taken : IsTaken s b
  pub inside : count vs * stride l ≤ 8 * b.len
  pub few : count vs < 2 ^ 31

pub record EachWrote (l : Layout) (vs : Values) (old new : Space) (b : Span) (bit : ℕ) : Type 0 where
  pub taken : new.taken ≡ old.taken + extents l vs
  pub length : length new.bytes ≡ length old.bytes
  pub written : Writes (bits_of old.bytes) (bits_of new.bytes) (8 * b.start + bit) (count vs * stride l)
      (images l vs (old.taken - b.start)) (8 * old.taken) (8 * extents l vs) (tails l vs)

-- the same of the fields of a struct
pub record FieldsWrote (ls : Layouts) (vs : Values) (old new : Space) (b : Span) (bit : ℕ) : Type 0 where
  pub taken : new.taken ≡ old.taken + extent_all ls vs
  pub length : length new.bytes ≡ length old.bytes
  pub written : Writes (bits_of old.bytes) (bits_of new.bytes) (8 * b.start + bit) (strides ls)
      (image_all ls vs (old.taken - b.start)) (8 * old.taken) (8 * extent_all ls vs) (tail_all ls vs)
