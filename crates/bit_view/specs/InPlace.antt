-- The value that stands in a content, read where it lies.
use Rattle.std.specs.Prelude.{ℕ, zero, suc, ◌+◌, ◌*◌, List, take, drop, nat_eq, if◌then◌else◌}
use Rattle.frozen_model.specs.Bits.{field}
use Rattle.frozen_model.specs.Trees.{Leaf, ByteRange, ItemRange, Optional, Struct, NoField, Field, ids_of}
use Rattle.frozen_model.specs.Values.{Value, Values, One, Bytes, Items, Absent, Present, Record, NoValue, And}
use Rattle.frozen_model.specs.Layouts.{Layout, Layouts, width, stride, meaning, atom_of}

-- the values at so many places, the first at a bit, each so many bits after the one before
abbrev pub read_items : (ℕ → Value) → ℕ → ℕ → ℕ → Values
read_items at step zero bit = NoValue
read_items at step (suc n) bit = And (at bit) (read_items at step n (bit + step))

-- the value of a layout that stands at a bit, in the block that begins at byte start
abbrev mutual
  pub read_value : List ℕ → Layout → ℕ → ℕ → Value
  read_value bs (Leaf k c) start bit = One (atom_of k (meaning c (field bs bit (width c))))
  read_value bs (ByteRange t d c) start bit =
      Bytes (take (field bs (bit + d) c) (drop (start + field bs bit d) bs))
  read_value bs (ItemRange h d c l) start bit = let own = start + field bs bit d in
      Items h (read_items (read_value bs l own) (stride l) (field bs (bit + d) c) (8 * own))
  read_value bs (Optional w l) start bit =
      if nat_eq (field bs bit w) 1 then Present (read_value bs l start (bit + w)) else Absent
  read_value bs (Struct ls) start bit = Record (ids_of ls) (read_fields bs ls start bit)

  pub read_fields : List ℕ → Layouts → ℕ → ℕ → Values
  read_fields bs NoField start bit = NoValue
  read_fields bs (Field i l ls) start bit = And (read_value bs l start bit) (read_fields bs ls start
      (bit + stride l))
