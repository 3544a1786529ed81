-- Layouts: a kind tree with the way in which each leaf stores its number, and in how many bits.
use Rattle.std.specs.Prelude.{◌≡◌, ℕ, ◌+◌, ◌^◌, ◌≤◌, List, Bool, true, false, cond, ℤ, pos, negsuc, ◌+ℤ◌, ◌-ℤ◌, ◌≤ℤ◌, nat_abs, nat_eq, nat_lt}
use Rattle.frozen_model.specs.Bits.{bits, need_unsigned, need_signed, complement, signed}
use Rattle.frozen_model.specs.Trees.{LeafKind, Flag, Integer, Tree, Trees, Leaf, ByteRange, ItemRange, Optional, Struct, NoField, Field, Leafwise, AllLeafwise, IsStruct, IsKindTree, greatest, value_bits}
use Rattle.frozen_model.specs.Values.{Atom, Truth, Number, InBits}

-- the two versions of the form
pub data Version : Type 0 where
  Version1 : Version
  Version2 : Version

-- how a leaf stores a number, and in how many bits: as it is, in two's complement, or as what it is above a base
pub data Coded : Type 0 where
  Unsigned : ℕ → Coded
  TwosComplement : ℕ → Coded
  FromBase : ℤ → ℕ → Coded

-- the width of a leaf
abbrev pub width : Coded → ℕ
width (Unsigned w) = w
width (TwosComplement w) = w
width (FromBase b w) = w

-- the same with another width
abbrev pub with_width : Coded → ℕ → Coded
with_width (Unsigned w) v = Unsigned v
with_width (TwosComplement w) v = TwosComplement v
with_width (FromBase b w) v = FromBase b v

-- flags are unsigned; whole numbers are in two's complement in version 1, and above a base of their kind in version 2
pub data IsCoded : Version → LeafKind → Coded → Type 0 where
  flag_coded : {v : Version} {w : ℕ} → IsCoded v Flag (Unsigned w)
  signed_coded : {k : _} {w : ℕ} → IsCoded Version1 (Integer k) (TwosComplement w)
  based_coded : {k : _} {b : ℤ} {w : ℕ} → InBits (value_bits k) b → IsCoded Version2 (Integer k) (FromBase b w)

-- a layout: each scalar has its coding, and each distance, count and flag of an optional is unsigned, of a width
abbrev pub Layout : Type 0
Layout = Tree Coded ℕ

-- the layouts of the fields of a struct
abbrev pub Layouts : Type 0
Layouts = Trees Coded ℕ

-- each leaf is coded as the version says
abbrev mutual
  pub OfVersion : Version → Layout → Type 0
  OfVersion n (Leaf k c) = IsCoded n k c
  OfVersion n (ByteRange t d c) = Unit {0}
  OfVersion n (ItemRange h d c l) = OfVersion n l
  OfVersion n (Optional w l) = OfVersion n l
  OfVersion n (Struct ls) = AllOfVersion n ls

  pub AllOfVersion : Version → Layouts → Type 0
  AllOfVersion n NoField = Unit {0}
  AllOfVersion n (Field i l ls) = OfVersion n l × AllOfVersion n ls

-- no leaf is wider than its greatest width
abbrev mutual
  pub Legal : Layout → Type 0
  Legal (Leaf k c) = width c ≤ greatest k
  Legal (ByteRange t d c) = (d ≤ 32) × (c ≤ 32)
  Legal (ItemRange h d c l) = (d ≤ 32) × (c ≤ 32) × Legal l
  Legal (Optional w l) = (w ≤ 1) × Legal l
  Legal (Struct ls) = AllLegal ls

  pub AllLegal : Layouts → Type 0
  AllLegal NoField = Unit {0}
  AllLegal (Field i l ls) = Legal l × AllLegal ls

-- a layout of a version within the limits: its root is a struct
pub record IsLayout (n : Version) (l : Layout) : Type 0 where
  pub root : IsStruct l
  pub kind_tree : IsKindTree l
  pub coded : OfVersion n l
  pub legal : Legal l

-- a layout as files and definitions meet it: its version, whether a definition that binds to it may have wider whole
-- numbers, and its tree
pub record Described : Type 0 where
  pub version : Version
  pub relaxed : Bool
  pub tree : Layout

-- the layout with these parts
abbrev pub described : Version → Bool → Layout → Described
described n r l = record { version = n; relaxed = r; tree = l }

-- no layout of version 1 is relaxed
abbrev pub MayRelax : Version → Bool → Type 0
MayRelax Version1 r = r ≡ false
MayRelax Version2 r = Unit {0}

-- its tree is a layout of its version, within the limits
pub record IsDescribed (d : Described) : Type 0 where
  pub relaxing : MayRelax d.version d.relaxed
  pub layout : IsLayout d.version d.tree

-- the bits that a value takes inline
abbrev mutual
  pub stride : Layout → ℕ
  stride (Leaf k c) = width c
  stride (ByteRange t d c) = d + c
  stride (ItemRange h d c l) = d + c
  stride (Optional w l) = w + stride l
  stride (Struct ls) = strides ls

  pub strides : Layouts → ℕ
  strides NoField = 0
  strides (Field i l ls) = stride l + strides ls

-- both are of one kind tree, and no leaf of the first is wider than in the second
abbrev pub Narrower : Layout → Layout → Type 0
Narrower l m = Leafwise (λ (k : LeafKind) (c : Coded) (d : Coded). width c ≤ width d) (λ (v : ℕ) (w : ℕ). v ≤ w)
    (λ (v : ℕ) (w : ℕ). v ≤ w) l m

-- the same of the fields of a struct
abbrev pub AllNarrower : Layouts → Layouts → Type 0
AllNarrower ls ms = AllLeafwise (λ (k : LeafKind) (c : Coded) (d : Coded). width c ≤ width d)
    (λ (v : ℕ) (w : ℕ). v ≤ w) (λ (v : ℕ) (w : ℕ). v ≤ w) ls ms

-- ---- numbers at a leaf

-- a flag as a number: false is 0, true is 1
abbrev pub number_of : Atom → ℤ
number_of (Truth b) = cond b (pos 1) (pos 0)
number_of (Number z) = z

-- the flag or number of a kind that a number is
abbrev pub atom_of : LeafKind → ℤ → Atom
atom_of Flag (pos n) = Truth (nat_eq n 1)
atom_of Flag (negsuc n) = Truth false
atom_of (Integer k) z = Number z

-- what a leaf stores for a number
abbrev pub stored : Coded → ℤ → ℕ
stored (Unsigned w) z = nat_abs z
stored (TwosComplement w) z = complement w z
stored (FromBase b w) z = nat_abs (z -ℤ b)

-- the number that what a leaf stores means
abbrev pub meaning : Coded → ℕ → ℤ
meaning (Unsigned w) n = pos n
meaning (TwosComplement w) n = signed w n
meaning (FromBase b w) n = b +ℤ pos n

-- the least width in which a leaf can store the number
abbrev pub need : Coded → ℤ → ℕ
need (Unsigned w) z = need_unsigned (nat_abs z)
need (TwosComplement w) z = need_signed z
need (FromBase b w) z = need_unsigned (nat_abs (z -ℤ b))

-- the number is not below the base, where the leaf has one
abbrev pub IsReached : Coded → ℤ → Type 0
IsReached (Unsigned w) z = Unit {0}
IsReached (TwosComplement w) z = Unit {0}
IsReached (FromBase b w) z = b ≤ℤ z

-- the number fits the leaf
pub record Fits (c : Coded) (z : ℤ) : Type 0 where
  pub reached : IsReached c z
  pub wide : need c z ≤ width c

-- the number lies in the range of the kind
abbrev pub in_range : LeafKind → ℤ → Bool
in_range Flag z = true
in_range (Integer k) (pos n) = nat_lt n (2 ^ value_bits k)
in_range (Integer k) (negsuc n) = nat_lt n (2 ^ value_bits k)

-- the bits that a leaf has for a number
abbrev pub leaf_bits : Coded → ℤ → List Bool
leaf_bits c z = bits (width c) (stored c z)
