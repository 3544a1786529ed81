-- Values, what it is for one to be of a kind tree, the order of keys, and cells.
use Rattle.std.specs.Prelude.{◌≡◌, ℕ, zero, suc, ◌+◌, ◌*◌, ◌^◌, ◌<◌, List, Bool, true, false, ℤ, pos, negsuc, length, int_lt, Option, Some, None}
use Rattle.std.specs.Str.{IsUtf8}
use Rattle.std.specs.Cmp.Lexicographic.{slice_cmp}
use Rattle.std.specs.Ordering.{nat_cmp, is_lt}
use Rattle.std.specs.List.{AllByRecursion}
use Rattle.frozen_model.specs.Trees.{LeafKind, Flag, Integer, ByteKind, Text, Binary, Holder, AList, ASet, AMap, Tree, Trees, Leaf, ByteRange, ItemRange, Optional, Struct, NoField, Field, ids_of, value_bits}

-- a flag or a number
pub data Atom : Type 0 where
  Truth : Bool → Atom
  Number : ℤ → Atom

mutual
  -- A flag or number; a text or bytes; the items of a list or set, or the pairs of a map; an absent and a present
  -- optional; a struct with the ids of its fields, which for a pair are 1 and 2.
  pub data Value : Type 0 where
    One : Atom → Value
    Bytes : List ℕ → Value
    Items : Holder → Values → Value
    Absent : Value
    Present : Value → Value
    Record : List ℕ → Values → Value

  -- values, one after another
  pub data Values : Type 0 where
    NoValue : Values
    And : Value → Values → Values

-- how many values there are
abbrev pub count : Values → ℕ
count NoValue = 0
count (And v vs) = suc (count vs)

-- the value at that place, counted from 0
abbrev pub nth : Values → ℕ → Value
nth NoValue i = Absent
nth (And v vs) zero = v
nth (And v vs) (suc i) = nth vs i

-- ---- the order of keys

-- false before true, numbers by size, texts and bytes byte by byte
abbrev pub key_less : Value → Value → Bool
key_less (One (Truth false)) (One (Truth true)) = true
key_less (One (Number x)) (One (Number y)) = int_lt x y
key_less (Bytes a) (Bytes b) = is_lt (slice_cmp nat_cmp a b)
key_less _ _ = false

-- what an item is ordered by: the first of a pair, and of a set's item the item itself
abbrev pub key_of : Value → Value
key_of (Record ids NoValue) = Absent
key_of (Record ids (And v vs)) = v
key_of (One x) = One x
key_of (Bytes bs) = Bytes bs
key_of (Items h vs) = Items h vs
key_of Absent = Absent
key_of (Present v) = Present v

-- it is above the key before it, where there is one
abbrev pub above : Option Value → Value → Bool
above None v = true
above (Some k) v = key_less k v

-- what the next item has to be above: in a list nothing
abbrev pub bound : Holder → Option Value → Option Value
bound AList k = None
bound ASet k = k
bound AMap k = k

-- the keys of a set or map rise strictly, from above the key before
abbrev pub Rises : Holder → Option Value → Values → Type 0
Rises h k NoValue = Unit {0}
Rises h k (And v vs) = (above (bound h k) (key_of v) ≡ true) × Rises h (Some (key_of v)) vs

-- ---- values of a kind tree

-- the number lies from -(2 ^ bits) up to but not including 2 ^ bits
abbrev pub InBits : ℕ → ℤ → Type 0
InBits bits (pos n) = n < 2 ^ bits
InBits bits (negsuc n) = n < 2 ^ bits

-- the flag or number is of the kind, and in its range
abbrev pub IsOf : LeafKind → Atom → Type 0
IsOf Flag (Truth b) = Unit {0}
IsOf (Integer k) (Number z) = InBits (value_bits k) z
IsOf _ _ = ⊥

-- a text is UTF-8
abbrev pub IsSpelled : ByteKind → List ℕ → Type 0
IsSpelled Text bs = IsUtf8 bs
IsSpelled Binary bs = Unit {0}

-- the value has the form of the tree
mutual
  pub data Of {A B : Type 0} : Tree A B → Value → Type 0 where
    one : {k : LeafKind} {a : A} {x : Atom} → IsOf k x → Of (Leaf k a) (One x)
    bytes : {t : ByteKind} {d c : B} {bs : List ℕ} → length bs < 2 ^ 31 → AllByRecursion (λ b. b < 256) bs
        → IsSpelled t bs → Of (ByteRange t d c) (Bytes bs)
    items : {h : Holder} {d c : B} {l : Tree A B} {vs : Values} → count vs < 2 ^ 31 → Rises h None vs → OfEach l vs
        → Of (ItemRange h d c l) (Items h vs)
    absent : {w : B} {l : Tree A B} → Of (Optional w l) Absent
    present : {w : B} {l : Tree A B} {v : Value} → Of l v → Of (Optional w l) (Present v)
    record_of : {ids : List ℕ} {ls : Trees A B} {vs : Values} → ids ≡ ids_of ls → OfAll ls vs
        → Of (Struct ls) (Record ids vs)

  -- items, all of one tree
  pub data OfEach {A B : Type 0} : Tree A B → Values → Type 0 where
    none : {l : Tree A B} → OfEach l NoValue
    more : {l : Tree A B} {v : Value} {vs : Values} → Of l v → OfEach l vs → OfEach l (And v vs)

  -- fields, each of its own tree
  pub data OfAll {A B : Type 0} : Trees A B → Values → Type 0 where
    no_part : OfAll NoField NoValue
    part : {i : ℕ} {l : Tree A B} {ls : Trees A B} {v : Value} {vs : Values} → Of l v → OfAll ls vs
        → OfAll (Field i l ls) (And v vs)

-- ---- cells

-- the cells that a value has inline: 1 for a scalar, 2 for each text, bytes, list, set and map, 1 more for an optional
abbrev mutual
  pub inline_cells : {A B : Type 0} → Tree A B → ℕ
  inline_cells (Leaf k a) = 1
  inline_cells (ByteRange t d c) = 2
  inline_cells (ItemRange h d c l) = 2
  inline_cells (Optional w l) = 1 + inline_cells l
  inline_cells (Struct ls) = inline_cells_all ls

  pub inline_cells_all : {A B : Type 0} → Trees A B → ℕ
  inline_cells_all NoField = 0
  inline_cells_all (Field i l ls) = inline_cells l + inline_cells_all ls

-- the cells of a value: beside the inline ones, each byte is a cell, and each item is 1 and its own cells
abbrev mutual
  pub cells : {A B : Type 0} → Tree A B → Value → ℕ
  cells (Leaf k a) v = 1
  cells (ByteRange t d c) (Bytes bs) = 2 + length bs
  cells (ItemRange h d c l) (Items g vs) = 2 + cells_each l vs
  cells (Optional w l) (Present v) = 1 + cells l v
  cells (Optional w l) Absent = 1 + inline_cells l
  cells (Struct ls) (Record ids vs) = cells_all ls vs
  cells _ _ = 0

  pub cells_each : {A B : Type 0} → Tree A B → Values → ℕ
  cells_each l NoValue = 0
  cells_each l (And v vs) = 1 + cells l v + cells_each l vs

  pub cells_all : {A B : Type 0} → Trees A B → Values → ℕ
  cells_all (Field i l ls) (And v vs) = cells l v + cells_all ls vs
  cells_all _ _ = 0

-- the most cells that a value may have
abbrev pub cell_limit : ℕ
cell_limit = 33554432

-- over the ranges of a value, the count times the unit: 1 for a byte, 1 and the inline cells of the item for an item
abbrev mutual
  pub range_cells : {A B : Type 0} → Tree A B → Value → ℕ
  range_cells (ByteRange t d c) (Bytes bs) = length bs
  range_cells (ItemRange h d c l) (Items g vs) = count vs * suc (inline_cells l) + range_cells_each l vs
  range_cells (Optional w l) (Present v) = range_cells l v
  range_cells (Struct ls) (Record ids vs) = range_cells_all ls vs
  range_cells _ _ = 0

  pub range_cells_each : {A B : Type 0} → Tree A B → Values → ℕ
  range_cells_each l NoValue = 0
  range_cells_each l (And v vs) = range_cells l v + range_cells_each l vs

  pub range_cells_all : {A B : Type 0} → Trees A B → Values → ℕ
  range_cells_all (Field i l ls) (And v vs) = range_cells l v + range_cells_all ls vs
  range_cells_all _ _ = 0
