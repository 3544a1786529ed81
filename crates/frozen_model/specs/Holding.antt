-- What a layout must hold: the numbers that packing puts at each leaf, the layouts that hold a value, and the least
-- one.
use Rattle.std.specs.Prelude.{◌≡◌, ℕ, zero, suc, ◌+◌, ◌*◌, ◌≤◌, max, List, [], ◌∷◌, ◌++◌, ℤ, pos, ◌≤ℤ◌, length, ◌⊎◌}
use Rattle.std.specs.List.{AllByRecursion}
use Rattle.frozen_model.specs.Bits.{need_unsigned}
use Rattle.frozen_model.specs.Trees.{LeafKind, Tree, Trees, Leaf, ByteRange, ItemRange, Optional, Struct, NoField, Field, Leafwise, Alike}
use Rattle.frozen_model.specs.Values.{Value, Values, One, Bytes, Items, Present, Record, NoValue, And, count, Of}
use Rattle.frozen_model.specs.Layouts.{Version, Coded, Unsigned, TwosComplement, FromBase, Layout, Layouts, Described, IsDescribed, OfVersion, Narrower, width, with_width, stride, need, number_of, Fits}
use Rattle.frozen_model.specs.Packing.{extent, bytes_for, distance}

-- at each leaf the list of the numbers that packing puts there, before they are cut to a width
abbrev pub Puts : Type 0
Puts = Tree (List ℤ) (List ℕ)

-- the same of the fields of a struct
abbrev pub AllPuts : Type 0
AllPuts = Trees (List ℤ) (List ℕ)

-- no number at any leaf
abbrev mutual
  pub no_puts : {A B : Type 0} → Tree A B → Puts
  no_puts (Leaf k a) = Leaf k []
  no_puts (ByteRange t d c) = ByteRange t [] []
  no_puts (ItemRange h d c l) = ItemRange h [] [] (no_puts l)
  no_puts (Optional w l) = Optional [] (no_puts l)
  no_puts (Struct ls) = Struct (no_puts_all ls)

  pub no_puts_all : {A B : Type 0} → Trees A B → AllPuts
  no_puts_all NoField = NoField
  no_puts_all (Field i l ls) = Field i (no_puts l) (no_puts_all ls)

-- the numbers of the first and then those of the second, at each leaf
abbrev mutual
  pub both : Puts → Puts → Puts
  both (Leaf k xs) (Leaf j ys) = Leaf k (xs ++ ys)
  both (ByteRange t d c) (ByteRange u e f) = ByteRange t (d ++ e) (c ++ f)
  both (ItemRange h d c l) (ItemRange g e f m) = ItemRange h (d ++ e) (c ++ f) (both l m)
  both (Optional w l) (Optional v m) = Optional (w ++ v) (both l m)
  both (Struct ls) (Struct ms) = Struct (both_all ls ms)
  both l _ = l

  pub both_all : AllPuts → AllPuts → AllPuts
  both_all (Field i l ls) (Field j m ms) = Field i (both l m) (both_all ls ms)
  both_all ls _ = ls

-- the numbers that a value puts at each leaf, where its first own block begins at bytes after the start of the block
-- that it lies in; an absent optional puts none
abbrev mutual
  pub puts : Layout → Value → ℕ → Puts
  puts (Leaf k c) (One x) at = Leaf k (number_of x ∷ [])
  puts (ByteRange t d c) (Bytes bs) at = ByteRange t (distance (length bs) at ∷ []) (length bs ∷ [])
  puts (ItemRange h d c l) (Items g vs) at =
      ItemRange h (distance (count vs) at ∷ []) (count vs ∷ []) (puts_each l vs (bytes_for (count vs * stride l)))
  puts (Optional w l) (Present v) at = Optional (1 ∷ []) (puts l v at)
  puts (Struct ls) (Record ids vs) at = Struct (puts_all ls vs at)
  puts l _ at = no_puts l

  pub puts_each : Layout → Values → ℕ → Puts
  puts_each l NoValue at = no_puts l
  puts_each l (And v vs) at = both (puts l v at) (puts_each l vs (at + extent l v))

  pub puts_all : Layouts → Values → ℕ → AllPuts
  puts_all (Field i l ls) (And v vs) at = Field i (puts l v at) (puts_all ls vs (at + extent l v))
  puts_all ls _ at = no_puts_all ls

-- the numbers that packing the value puts
abbrev pub puts_of : Layout → Value → Puts
puts_of l v = puts l v (bytes_for (stride l))

-- each number fits its leaf
abbrev pub AllFit : Layout → Puts → Type 0
AllFit l p = Leafwise (λ (k : LeafKind) (c : Coded) (xs : List ℤ). AllByRecursion (Fits c) xs)
    (λ (w : ℕ) (ns : List ℕ). AllByRecursion (λ (n : ℕ). need_unsigned n ≤ w) ns)
    (λ (w : ℕ) (ns : List ℕ). AllByRecursion (λ (n : ℕ). need_unsigned n ≤ w) ns) l p

-- the layout has the value's form, and each number that packing puts fits its leaf
pub record Holds (l : Layout) (v : Value) : Type 0 where
  pub of_kind : Of l v
  pub fits : AllFit l (puts_of l v)

-- ---- the least layout

-- the greatest need of the numbers at a leaf, 0 where there are none
abbrev pub greatest_need : Coded → List ℤ → ℕ
greatest_need c [] = 0
greatest_need c (x ∷ xs) = max (need c x) (greatest_need c xs)

-- the same at a distance or a count
abbrev pub greatest_digits : List ℕ → ℕ
greatest_digits [] = 0
greatest_digits (n ∷ ns) = max (need_unsigned n) (greatest_digits ns)

-- each leaf is as wide as the greatest need of its numbers
abbrev pub Tight : Layout → Puts → Type 0
Tight l p = Leafwise (λ (k : LeafKind) (c : Coded) (xs : List ℤ). width c ≡ greatest_need c xs)
    (λ (w : ℕ) (ns : List ℕ). w ≡ greatest_digits ns) (λ (w : ℕ) (ns : List ℕ). w ≡ greatest_digits ns) l p

-- one of the numbers
abbrev pub Among : ℤ → List ℤ → Type 0
Among b [] = ⊥
Among b (x ∷ xs) = (b ≡ x) ⊎ Among b xs

-- the least of the numbers, 0 where there are none
abbrev pub IsLeastOf : ℤ → List ℤ → Type 0
IsLeastOf b [] = b ≡ pos 0
IsLeastOf b (x ∷ xs) = Among b (x ∷ xs) × AllByRecursion (λ (y : ℤ). b ≤ℤ y) (x ∷ xs)

-- a base, where the leaf has one, is the least of its numbers
abbrev pub IsBasedOn : Coded → List ℤ → Type 0
IsBasedOn (Unsigned w) xs = Unit {0}
IsBasedOn (TwosComplement w) xs = Unit {0}
IsBasedOn (FromBase b w) xs = IsLeastOf b xs

-- each base is the least number there
abbrev pub Based : Layout → Puts → Type 0
Based l p = Leafwise (λ (k : LeafKind) (c : Coded) (xs : List ℤ). IsBasedOn c xs) (λ (w : ℕ) (ns : List ℕ). Unit {0})
    (λ (w : ℕ) (ns : List ℕ). Unit {0}) l p

-- The least layout for a value: it is within the limits and holds the value; no layout of its kinds and version that
-- holds the value is narrower at any leaf, whatever its bases; each base is the least number there; each leaf is as
-- wide as its needs.
pub record Least (d : Described) (v : Value) : Type 0 where
  pub is_layout : IsDescribed d
  pub holds : Holds d.tree v
  pub least : (m : Layout) → Alike d.tree m → OfVersion d.version m → Holds m v → Narrower d.tree m
  pub based : Based d.tree (puts_of d.tree v)
  pub tight : Tight d.tree (puts_of d.tree v)

-- ---- measuring

-- each leaf as wide as the greatest of its width and the needs of its numbers
abbrev mutual
  pub widened : Layout → Puts → Layout
  widened (Leaf k c) (Leaf j xs) = Leaf k (with_width c (max (width c) (greatest_need c xs)))
  widened (ByteRange t d c) (ByteRange u ds cs) = ByteRange t (max d (greatest_digits ds)) (max c (greatest_digits cs))
  widened (ItemRange h d c l) (ItemRange g ds cs p) =
      ItemRange h (max d (greatest_digits ds)) (max c (greatest_digits cs)) (widened l p)
  widened (Optional w l) (Optional ws p) = Optional (max w (greatest_digits ws)) (widened l p)
  widened (Struct ls) (Struct ps) = Struct (widened_all ls ps)
  widened l _ = l

  pub widened_all : Layouts → AllPuts → Layouts
  widened_all (Field i l ls) (Field j p ps) = Field i (widened l p) (widened_all ls ps)
  widened_all ls _ = ls

-- one pass over the value
abbrev pub pass : Layout → Value → Layout
pass l v = widened l (puts_of l v)

-- so many passes, one after another
abbrev pub passes : ℕ → Layout → Value → Layout
passes zero l v = l
passes (suc n) l v = passes n (pass l v) v

-- all widths are 0
abbrev mutual
  pub Blank : Layout → Type 0
  Blank (Leaf k c) = width c ≡ 0
  Blank (ByteRange t d c) = (d ≡ 0) × (c ≡ 0)
  Blank (ItemRange h d c l) = (d ≡ 0) × (c ≡ 0) × Blank l
  Blank (Optional w l) = (w ≡ 0) × Blank l
  Blank (Struct ls) = AllBlank ls

  pub AllBlank : Layouts → Type 0
  AllBlank NoField = Unit {0}
  AllBlank (Field i l ls) = Blank l × AllBlank ls

-- what measuring a value begins with: a layout of the version and of its kinds with widths 0, where each base is the
-- least number
pub record IsStart (n : Version) (l : Layout) (v : Value) : Type 0 where
  pub of_kind : Of l v
  pub coded : OfVersion n l
  pub blank : Blank l
  pub based : Based l (puts_of l v)
