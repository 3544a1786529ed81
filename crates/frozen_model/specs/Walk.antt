-- The walk that opens a content: the value read, or the first condition that fails.
use Rattle.std.specs.Prelude.{ℕ, zero, suc, ◌+◌, ◌-◌, ◌*◌, List, Bool, true, false, cond, length, nat_eq, nat_le, take, drop, Result, Ok, Err, Option, Some, None}
use Rattle.std.specs.Str.{is_utf8}
use Rattle.frozen_model.specs.Bits.{field}
use Rattle.frozen_model.specs.Trees.{ByteKind, Text, Binary, Holder, Leaf, ByteRange, ItemRange, Optional, Struct, NoField, Field, ids_of}
use Rattle.frozen_model.specs.Values.{Value, Values, One, Bytes, Items, Absent, Present, Record, NoValue, And, key_of, above, bound, inline_cells, cell_limit}
use Rattle.frozen_model.specs.Layouts.{Layout, Layouts, width, stride, meaning, atom_of, in_range}
use Rattle.frozen_model.specs.Packing.{bytes_for, distance}

-- what can be wrong with a content; bits and bytes are counted from its beginning
pub data Fault : Type 0 where
  -- a block does not lie in it
  Short : Fault
  -- so many bytes are left over
  Long : ℕ → Fault
  -- the distance at this bit, the number found and the number wanted
  Distance : ℕ → ℕ → ℕ → Fault
  -- this bit should be zero
  Dirty : ℕ → Fault
  -- the text whose block begins at this byte is no UTF-8
  BadText : ℕ → Fault
  -- the key at this bit is not above the one before it
  KeyOrder : ℕ → Fault
  -- there are more cells than the limit
  TooManyCells : Fault
  -- the number at this bit is outside the range of its kind
  OutOfRange : ℕ → Fault

-- what is left where the test passes
abbrev pub require : {X : Type 0} → Bool → Fault → Result X Fault → Result X Fault
require true e r = r
require false e r = Err e

-- what follows an answer, unless it is a fault
abbrev pub and_then : {X Y : Type 0} → Result X Fault → (X → Result Y Fault) → Result Y Fault
and_then (Ok x) f = f x
and_then (Err e) f = Err e

-- a value, the byte where the next block must begin, and the cells so far
abbrev pub Walked : Type 0 → Type 0
Walked V = Result (V × ℕ × ℕ) Fault

-- the first bit that is not zero among n from there on
abbrev pub first_dirty : List ℕ → ℕ → ℕ → ℕ
first_dirty bs zero bit = bit
first_dirty bs (suc n) bit = cond (nat_eq (field bs bit 1) 0) (first_dirty bs n (suc bit)) bit

-- n bits from there on are zero, or else the first that is not is carried
abbrev pub require_zero : {X : Type 0} → List ℕ → ℕ → ℕ → Result X Fault → Result X Fault
require_zero bs n bit r = require (nat_eq (field bs bit n) 0) (Dirty (first_dirty bs n bit)) r

-- a key, which has to be above the one before
abbrev pub in_order : Option Value → ℕ → Value × ℕ × ℕ → Walked Value
in_order k bit x = require (above k x.0) (KeyOrder bit) (Ok x)

-- items one after another in a block, each by the step, with s bits from one to the next
abbrev pub walk_each : Holder → (Option Value → ℕ → ℕ → ℕ → Walked Value) → ℕ → Option Value → ℕ → ℕ → ℕ → ℕ
    → Walked Values
walk_each h step s k zero bit next cells = Ok (NoValue, next, cells)
walk_each h step s k (suc n) bit next cells =
    and_then (step (bound h k) bit next cells)
    (λ x. and_then (walk_each h step s (Some (key_of x.0)) n (bit + s) x.1 x.2) (λ y. Ok (And x.0 y.0, y.1, y.2)))

-- a range's distance and count, and then what its count leads to
abbrev pub range_at : {V : Type 0} → List ℕ → ℕ → ℕ → ℕ → ℕ → ℕ → (ℕ → Walked V) → Walked V
range_at bs d c start bit next go =
    let found = field bs bit d in
    let n = field bs (bit + d) c in
    require (nat_eq found (distance n (next - start))) (Distance bit found (distance n (next - start))) (go n)

-- the bytes may be those of a text, or of bytes
abbrev pub is_spelled : ByteKind → List ℕ → Bool
is_spelled Text bs = is_utf8 bs
is_spelled Binary bs = true

-- the block of a text or of bytes
abbrev pub bytes_at : List ℕ → ByteKind → ℕ → ℕ → ℕ → Walked Value
bytes_at bs t next cells n =
    require (nat_le (cells + n) cell_limit) TooManyCells
    (require (nat_le (next + n) (length bs)) Short
    (require (is_spelled t (take n (drop next bs))) (BadText next)
    (Ok (Bytes (take n (drop next bs)), next + n, cells + n))))

-- the block of n items of s bits and so many cells each
abbrev pub items_at : List ℕ → Holder → (Option Value → ℕ → ℕ → ℕ → Walked Value) → ℕ → ℕ → ℕ → ℕ → ℕ → Walked Value
items_at bs h step s unit next cells n =
    require (nat_le (cells + n * unit) cell_limit) TooManyCells
    (require (nat_le (next + bytes_for (n * s)) (length bs)) Short
    (require_zero bs (8 * bytes_for (n * s) - n * s) (8 * next + n * s)
    (and_then (walk_each h step s None n (8 * next) (next + bytes_for (n * s)) (cells + n * unit)) (λ x. Ok (Items h x.0, x.1, x.2)))))

-- the value whose image begins at the bit, in the block that begins at byte start, where the next block must begin at
-- byte next and there are so many cells so far; where it is a key, or a pair, its key is above the one given
abbrev mutual
  pub walk : List ℕ → Layout → ℕ → Option Value → ℕ → ℕ → ℕ → Walked Value
  walk bs (Leaf k c) start key bit next cells =
      let z = meaning c (field bs bit (width c)) in
      require (in_range k z) (OutOfRange bit) (in_order key bit (One (atom_of k z), next, cells))
  walk bs (ByteRange t d c) start key bit next cells = and_then (range_at bs d c start bit next (bytes_at bs t next cells)) (in_order key bit)
  walk bs (ItemRange h d c l) start key bit next cells =
      range_at bs d c start bit next (items_at bs h (walk bs l next) (stride l) (suc (inline_cells l)) next cells)
  walk bs (Optional w l) start key bit next cells =
      cond (nat_eq (field bs bit w) 1)
      (and_then (walk bs l start None (bit + w) next cells) (λ x. Ok (Present x.0, x.1, x.2)))
      (require_zero bs (stride l) (bit + w) (Ok (Absent, next, cells)))
  walk bs (Struct ls) start key bit next cells = and_then (walk_all bs ls start key bit next cells)
      (λ x. Ok (Record (ids_of ls) x.0, x.1, x.2))

  pub walk_all : List ℕ → Layouts → ℕ → Option Value → ℕ → ℕ → ℕ → Walked Values
  walk_all bs NoField start key bit next cells = Ok (NoValue, next, cells)
  walk_all bs (Field i l ls) start key bit next cells =
      and_then (walk bs l start key bit next cells)
      (λ x. and_then (walk_all bs ls start None (bit + stride l) x.1 x.2) (λ y. Ok (And x.0 y.0, y.1, y.2)))

-- the value of a content, or its first fault: the root block is walked as a block of one item, and must end the content
abbrev pub open_content : List ℕ → Layout → Result Value Fault
open_content bs l =
    let s = stride l in
    require (nat_le (bytes_for s) (length bs)) Short
    (require_zero bs (8 * bytes_for s - s) s
    (and_then (walk bs l 0 None 0 (bytes_for s) (inline_cells l)) (λ x. require (nat_eq x.1 (length bs)) (Long (length bs - x.1)) (Ok x.0))))
