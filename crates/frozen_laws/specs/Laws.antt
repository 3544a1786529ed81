-- The laws of the frozen form, as statements over the definitions of frozen_model.
use Rattle.std.specs.Prelude.{◌≡◌, ℕ, ◌+◌, ◌-◌, ◌*◌, ◌^◌, ◌≤◌, ◌<◌, List, [], ◌∷◌, ℤ, length, Result, Ok, IfOk, None, ◌↔◌, suc, pos, ◌-ℤ◌, ◌≤ℤ◌, nat_abs, Bool, true}
use Rattle.std.specs.List.{AllByRecursion}
use Rattle.frozen_model.specs.Bits.{bits_of, digits}
use Rattle.frozen_model.specs.BitLaws.{IsBytes}
use Rattle.frozen_model.specs.Trees.{LeafKind, KindTree, kinds, IsStruct, IsKindTree, IsNarrow, HasKeys, Leaf, ByteRange, ItemRange, Optional, Struct, NoField, Field, Leafwise, Flag, Integer, value_bits, ranges, Alike, greatest, Part}
use Rattle.frozen_model.specs.Values.{Value, Of, cells, inline_cells, range_cells, cell_limit, Atom, IsOf}
use Rattle.frozen_model.specs.Layouts.{Version, Layout, IsLayout, Described, described, MayRelax, IsDescribed, OfVersion, Legal, Narrower, stride, Layouts, Version1, Version2, Coded, Unsigned, TwosComplement, FromBase, IsCoded, width, Fits, number_of, atom_of, stored, meaning, in_range}
use Rattle.frozen_model.specs.Packing.{extent, image, tail, pack, Packs, packed, bytes_for, Stands, Place, place, PartAt, Lies}
use Rattle.frozen_model.specs.Walk.{walk, open_content}
use Rattle.frozen_model.specs.Holding.{Puts, AllPuts, puts_of, Holds, greatest_digits, IsStart, Least, pass, passes, Among, IsLeastOf, greatest_need, Blank, Based}
use Rattle.frozen_laws.specs.Everywhere.{HoldsAt}

-- ---- wider layouts

-- the extent of a value is at most that under wider layouts
abbrev pub ExtentsGrow : Type 0
ExtentsGrow = (l m : Layout) (v : Value) → Of l v → Narrower l m → extent l v ≤ extent m v

-- as many numbers, and none greater than that of the second at the same place
pub data NoGreater : List ℕ → List ℕ → Type 0 where
  ends : NoGreater [] []
  then : {m n : ℕ} {ms ns : List ℕ} → m ≤ n → NoGreater ms ns → NoGreater (m ∷ ms) (n ∷ ns)

-- under wider layouts a value puts a number as great or greater at each distance, and the same numbers elsewhere
abbrev pub DistancesGrow : Type 0
DistancesGrow = (l m : Layout) (v : Value) → Of l v → Narrower l m
    → Leafwise (λ (k : LeafKind) (xs : List ℤ) (ys : List ℤ). xs ≡ ys)
    (λ (ms : List ℕ) (ns : List ℕ). NoGreater ms ns)
    (λ (ms : List ℕ) (ns : List ℕ). ms ≡ ns) (puts_of l v) (puts_of m v)

-- so the needs at each leaf are as great or greater
abbrev pub NeedsGrow : Type 0
NeedsGrow = (l m : Layout) (v : Value) → Of l v → Narrower l m
    → Leafwise (λ (k : LeafKind) (xs : List ℤ) (ys : List ℤ). xs ≡ ys)
    (λ (ms : List ℕ) (ns : List ℕ). greatest_digits ms ≤ greatest_digits ns)
    (λ (ms : List ℕ) (ns : List ℕ). greatest_digits ms ≤ greatest_digits ns) (puts_of l v) (puts_of m v)

-- ---- measuring

-- where passes come to rest that begin with widths 0 and the least bases, the layout is the least
abbrev pub RestIsLeast : Type 0
RestIsLeast = (n : Version) (relaxed : Bool) (rounds : ℕ) (l : Layout) (v : Value) → MayRelax n relaxed → IsStruct l
    → IsKindTree l → IsStart n l v
    → cells l v ≤ cell_limit → pass (passes rounds l v) v ≡ passes rounds l v
    → Least (described n relaxed (passes rounds l v)) v

-- in version 1 measuring begins with widths 0 and nothing else
abbrev pub BlankIsStart : Type 0
BlankIsStart = (l : Layout) (v : Value) → Of l v → OfVersion Version1 l → Blank l → IsStart Version1 l v

-- a value has one least layout of its kinds and a version
abbrev pub LeastIsUnique : Type 0
LeastIsUnique = (d e : Described) (v : Value) → d.version ≡ e.version → Alike d.tree e.tree → Least d v → Least e v
    → d.tree ≡ e.tree

-- all but the distances are as wide as their numbers need
abbrev pub Filled : Layout → Puts → Type 0
Filled l p = Leafwise (λ (k : LeafKind) (c : Coded) (xs : List ℤ). greatest_need c xs ≤ width c)
    (λ (w : ℕ) (ns : List ℕ). Unit {0}) (λ (w : ℕ) (ns : List ℕ). greatest_digits ns ≤ w) l p

-- the widest leaf of a version for a kind; a base is the least number of the kind
abbrev pub widest_leaf : Version → LeafKind → Coded
widest_leaf n Flag = Unsigned 1
widest_leaf Version1 (Integer k) = TwosComplement (suc (value_bits k))
widest_leaf Version2 (Integer k) = FromBase (pos 0 -ℤ pos (2 ^ value_bits k)) (suc (value_bits k))

-- the layout of a version with the kinds of another and the greatest widths
abbrev mutual
  pub widest : Version → Layout → Layout
  widest n (Leaf k c) = Leaf k (widest_leaf n k)
  widest n (ByteRange t d c) = ByteRange t 32 32
  widest n (ItemRange h d c l) = ItemRange h 32 32 (widest n l)
  widest n (Optional w l) = Optional 1 (widest n l)
  widest n (Struct ls) = Struct (widest_all n ls)

  pub widest_all : Version → Layouts → Layouts
  widest_all n NoField = NoField
  widest_all n (Field i l ls) = Field i (widest n l) (widest_all n ls)

-- it holds every value within the limit of cells, and no leaf of it is too wide
abbrev pub WidestHolds : Type 0
WidestHolds = (n : Version) (l : Layout) (v : Value) → Of l v → cells l v ≤ cell_limit
    → Holds (widest n l) v × Legal (widest n l) × OfVersion n (widest n l)

-- no pass makes a leaf wider than its greatest width
abbrev pub PassesAreLegal : Type 0
PassesAreLegal = (n : Version) (rounds : ℕ) (l : Layout) (v : Value) → IsStart n l v → cells l v ≤ cell_limit
    → Legal (passes rounds l v)

-- passes come to rest after at most 1 and 29 for each range, so measuring has at most 2 and 29 for each
abbrev pub PassesRest : Type 0
PassesRest = (n : Version) (l : Layout) (v : Value) → IsStart n l v → cells l v ≤ cell_limit
    → (rounds : ℕ) × (rounds ≤ 1 + 29 * ranges l) × (pass (passes rounds l v) v ≡ passes rounds l v)

-- from the least bases a pass from any layout below one that holds the value stays below it
abbrev pub PassesStayBelow : Type 0
PassesStayBelow = (n : Version) (l m : Layout) (v : Value) → OfVersion n l → Based l (puts_of l v) → Narrower l m
    → OfVersion n m → Holds m v
    → Narrower (pass l v) m

-- the greatest of the numbers
abbrev pub IsGreatestOf : ℤ → List ℤ → Type 0
IsGreatestOf b xs = Among b xs × AllByRecursion (λ (y : ℤ). y ≤ℤ b) xs

-- from the least of its numbers as the base a leaf needs the digits of the greatest less the least
abbrev pub NeedFromBase : Type 0
NeedFromBase = (least greatest : ℤ) (w : ℕ) (xs : List ℤ) → IsLeastOf least xs → IsGreatestOf greatest xs
    → greatest_need (FromBase least w) xs ≡ digits (nat_abs (greatest -ℤ least))

-- in version 1 each number that a leaf can have is in the range of its kind
abbrev pub AlwaysInRange : Type 0
AlwaysInRange = (k : LeafKind) (c : Coded) (m : ℕ) → IsCoded Version1 k c → width c ≤ greatest k → m < 2 ^ width c
    → in_range k (meaning c m) ≡ true

-- what a leaf stores for a flag or number that fits it has its width, and means that number
abbrev pub StoredIsRead : Type 0
StoredIsRead = (n : Version) (k : LeafKind) (c : Coded) (x : Atom) → IsCoded n k c → IsOf k x → Fits c (number_of x)
    → (stored c (number_of x) < 2 ^ width c) × (atom_of k (meaning c (stored c (number_of x))) ≡ x)

-- what is read at a leaf, in the range of the kind, is a flag or number that fits it, and is stored so
abbrev pub ReadIsStored : Type 0
ReadIsStored = (n : Version) (k : LeafKind) (c : Coded) (m : ℕ) → IsCoded n k c → width c ≤ greatest k
    → m < 2 ^ width c → in_range k (meaning c m) ≡ true
    → IsOf k (atom_of k (meaning c m)) × Fits c (number_of (atom_of k (meaning c m)))
    × (stored c (number_of (atom_of k (meaning c m))) ≡ m)

-- ---- kind trees and strides

-- whether a tree is within the limits does not turn on what stands at its leaves
abbrev pub KindsDecide : Type 0
KindsDecide = (l : Layout) → IsKindTree l ↔ IsKindTree (kinds l)

-- a layout takes at most 32767 bits inline, and so does each part of it
abbrev pub StridesAreSmall : Type 0
StridesAreSmall = (l s : Layout) (i n : ℕ) → Legal l → IsNarrow l → Part l i s n → stride s ≤ 32767

-- ---- cells

-- the cells of a value are the inline ones of its kind tree and, over its ranges, the count times the unit
abbrev pub CellsByRanges : Type 0
CellsByRanges = (k : KindTree) (v : Value) → Of k v → cells k v ≡ inline_cells k + range_cells k v

-- the same for layouts
abbrev pub CellsInLayout : Type 0
CellsInLayout = (l : Layout) (v : Value) → Of l v → cells l v ≡ inline_cells l + range_cells l v

-- P holds of each distance
abbrev mutual
  pub EachDistance : (ℕ → Type 0) → Puts → Type 0
  EachDistance P (Leaf k xs) = Unit {0}
  EachDistance P (ByteRange t ds cs) = AllByRecursion P ds
  EachDistance P (ItemRange h ds cs p) = AllByRecursion P ds × EachDistance P p
  EachDistance P (Optional ws p) = EachDistance P p
  EachDistance P (Struct ps) = EachDistanceAmong P ps

  pub EachDistanceAmong : (ℕ → Type 0) → AllPuts → Type 0
  EachDistanceAmong P NoField = Unit {0}
  EachDistanceAmong P (Field i p ps) = EachDistance P p × EachDistanceAmong P ps

-- within the limit of cells an extent is below 2 ^ 29, whatever the widths
abbrev pub ExtentsAreBounded : Type 0
ExtentsAreBounded = (l : Layout) (v : Value) → Of l v → Legal l → cells l v ≤ cell_limit → extent l v < 2 ^ 29

-- so is its packing
abbrev pub PackingIsBounded : Type 0
PackingIsBounded = (l : Layout) (v : Value) (bs : List ℕ) → Of l v → Legal l → cells l v ≤ cell_limit → Packs l v bs
    → (length bs ≡ bytes_for (stride l) + extent l v) × (length bs < 2 ^ 29)

-- and so is each distance
abbrev pub DistancesAreBounded : Type 0
DistancesAreBounded = (l : Layout) (v : Value) → Of l v → Legal l → cells l v ≤ cell_limit
    → EachDistance (λ (d : ℕ). d < 2 ^ 29) (puts_of l v)

-- ---- packing

-- a layout's packing is of one value
abbrev pub PackingIsInjective : Type 0
PackingIsInjective = (n : Version) (l : Layout) (v u : Value) → OfVersion n l → Holds l v → Holds l u
    → pack l v ≡ pack l u → v ≡ u

-- a packing exists as bytes
abbrev pub PackingExists : Type 0
PackingExists = (l : Layout) (v : Value) → Of l v → IsBytes (packed l v) × Packs l v (packed l v)

-- and as no other bytes
abbrev pub PackingIsOne : Type 0
PackingIsOne = (l : Layout) (v : Value) (bs : List ℕ) → Of l v → IsBytes bs → Packs l v bs → bs ≡ packed l v

-- to hold a value is that each number fits, by recursion over the value
abbrev pub HoldsEverywhere : Type 0
HoldsEverywhere = (l : Layout) (v : Value) → Holds l v → HoldsAt l v (bytes_for (stride l))

-- and the other way round
abbrev pub EverywhereHolds : Type 0
EverywhereHolds = (l : Layout) (v : Value) → Of l v → HoldsAt l v (bytes_for (stride l)) → Holds l v

-- ---- the walk

-- a value stands in a content: each of its numbers fits, its image stands at the bit, in the block that begins at byte
-- start, and its own blocks stand from byte next on
pub record Placed (bs : List ℕ) (l : Layout) (start bit next : ℕ) (v : Value) : Type 0 where
  pub of_kind : Of l v
  pub holds : HoldsAt l v (next - start)
  pub image_there : Stands (bits_of bs) bit (image l v (next - start))
  pub tail_there : Stands (bits_of bs) (8 * next) (tail l v)

-- a place for the walk: the item lies in a block of the content that ends at or before byte next
pub record IsPlace (n : Version) (bs : List ℕ) (l : Layout) (start bit next : ℕ) : Type 0 where
  pub are_bytes : IsBytes bs
  pub coded : OfVersion n l
  pub legal : Legal l
  pub keys : HasKeys l
  pub within : bit + stride l ≤ 8 * length bs
  pub inside : next ≤ length bs
  pub past : start ≤ next

-- what the walk gives stands there; the next block begins behind it, and the cells grew by those of its ranges, within
-- the limit
abbrev pub WalkIsSound : Type 0
WalkIsSound = (n : Version) (bs : List ℕ) (l : Layout) (start bit next so_far : ℕ) → IsPlace n bs l start bit next
    → IfOk (walk bs l start None bit next so_far)
    (λ x. Placed bs l start bit next x.0 × (x.1 ≡ next + extent l x.0) × (x.2 ≡ so_far + range_cells l x.0) × (so_far ≤ cell_limit → x.2 ≤ cell_limit))

-- the walk gives what stands there, within the limit of cells
abbrev pub WalkIsComplete : Type 0
WalkIsComplete = (n : Version) (bs : List ℕ) (l : Layout) (start bit next so_far : ℕ) (v : Value)
    → IsPlace n bs l start bit next
    → Placed bs l start bit next v → so_far + range_cells l v ≤ cell_limit
    → walk bs l start None bit next so_far ≡ Ok (v, next + extent l v, so_far + range_cells l v)

-- ---- parts

-- a value stands in a content at a place, and there is room for its bits
pub record StandsAt (bs : List ℕ) (l : Layout) (v : Value) (p : Place) : Type 0 where
  pub placed : Placed bs l p.start p.bit p.next v
  pub within : p.bit + stride l ≤ 8 * length bs
  pub inside : p.next ≤ length bs
  pub past : p.start ≤ p.next

-- where a value stands, each part of it stands at the place of the part
abbrev pub PartsStand : Type 0
PartsStand = (bs : List ℕ) (l m : Layout) (v u : Value) (q p : Place) → IsBytes bs → StandsAt bs l v q
    → PartAt m u p l v q → StandsAt bs m u p

-- in the packing of a value each part stands where it lies
abbrev pub PartsLie : Type 0
PartsLie = (l m : Layout) (v u : Value) (bs : List ℕ) (p : Place) → IsBytes bs → Holds l v → Packs l v bs
    → PartAt m u p l v (place 0 0 0 (bytes_for (stride l))) → StandsAt bs m u p

-- a part of a value stands at a node of its layout
abbrev pub PartsAreNodes : Type 0
PartsAreNodes = (l m : Layout) (v u : Value) (q p : Place) → PartAt m u p l v q → Part l q.node m p.node

-- a part has no more cells than its whole
abbrev pub PartsHaveFewerCells : Type 0
PartsHaveFewerCells = (l m : Layout) (v u : Value) (q p : Place) → PartAt m u p l v q → cells m u ≤ cells l v

-- at one node, in one block and at one bit of a packing lies one part
abbrev pub OnePartLies : Type 0
OnePartLies = (n : Version) (l : Layout) (v u w : Value) (node start bit : ℕ) → OfVersion n l → Holds l v
    → Lies l v node start bit u → Lies l v node start bit w → u ≡ w

-- ---- opening

-- what a content is for a value: its packing in a layout that holds it, within the limit of cells
pub record IsContent (l : Layout) (v : Value) (bs : List ℕ) : Type 0 where
  pub holds : Holds l v
  pub within : cells l v ≤ cell_limit
  pub packed : Packs l v bs

-- a content is opened as a value exactly where it is that value's
abbrev pub ContentIsExact : Type 0
ContentIsExact = (n : Version) (l : Layout) (v : Value) (bs : List ℕ) → IsLayout n l → IsBytes bs
    → open_content bs l ≡ Ok v ↔ IsContent l v bs
