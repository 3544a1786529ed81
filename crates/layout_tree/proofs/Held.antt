-- That a layout is one of its version within the limits is a fact once it is so under a truncation, since all
-- that it is made of is.
use Rattle.std.proofs.Common.{◌≡◌, ℕ, ◌≤◌, List, [], ◌∷◌, ℤ, pos, negsuc, Bool, true, false, arith, refl}
use Rattle.std.proofs.Math.Logic.{∥∥₁_elim, ∥∥₁_map}
use Rattle.std.proofs.Math.Bridge.{le_prop}
use Rattle.std.proofs.Math.IntN.{ℤ_set}
use mathlib.Core.HLevel.{⊥_prop}
use Rattle.frozen_model.specs.Trees.{Holder, AList, ASet, AMap, LeafKind, Flag, Integer, Leaf, ByteRange}
use Rattle.frozen_model.specs.Trees.{ItemRange, Optional, Struct, NoField, Field, ids_of, value_bits, IsKey}
use Rattle.frozen_model.specs.Trees.{IsPlain, IsItem, Rising, IsFormed, AllFormed, IsNarrow, AllNarrow}
use Rattle.frozen_model.specs.Trees.{IsStruct}
use Rattle.frozen_model.specs.Values.{InBits}
use Rattle.frozen_model.specs.Layouts.{Version, Version1, Version2, Coded, Unsigned, TwosComplement, FromBase}
use Rattle.frozen_model.specs.Layouts.{IsCoded, flag_coded, signed_coded, based_coded, Layout, Layouts}
use Rattle.frozen_model.specs.Layouts.{OfVersion, AllOfVersion, Legal, AllLegal, MayRelax, Described}
use Rattle.frozen_model.specs.Layouts.{IsLayout, IsDescribed}
use Rattle.layout_tree.specs.Listing.{Noted, AllNoted, BaseStands, BasesStand, AllBasesStand}

le_held : {a b : ℕ} → ∥ a ≤ b ∥₁ → a ≤ b
le_held h = ∥∥₁_elim h le_prop (λ x. x)

pub eq_held : {a b : ℕ} → ∥ a ≡ b ∥₁ → a ≡ b
eq_held {a} {b} h =
    let up : a ≤ b = ∥∥₁_elim h le_prop (λ e. omega (arith, e)) in
    let down : b ≤ a = ∥∥₁_elim h le_prop (λ e. omega (arith, e)) in
    omega (arith, up, down)

pub never : ∥ ⊥ ∥₁ → ⊥
never h = ∥∥₁_elim h ⊥_prop (λ x. x)

-- ---- kinds

plain_held : (l : Layout) → ∥ IsPlain l ∥₁ → IsPlain l
plain_held (Optional w l) h = never h
plain_held (Leaf k c) h = tt
plain_held (ByteRange t d c) h = tt
plain_held (ItemRange g d c l) h = tt
plain_held (Struct ls) h = tt

key_held : (l : Layout) → ∥ IsKey l ∥₁ → IsKey l
key_held (Leaf k c) h = tt
key_held (ByteRange t d c) h = tt
key_held (ItemRange g d c l) h = never h
key_held (Optional w l) h = never h
key_held (Struct ls) h = never h

item_held : (h : Holder) (l : Layout) → ∥ IsItem h l ∥₁ → IsItem h l
item_held AList l i = plain_held l i
item_held ASet l i = key_held l i
item_held AMap (Leaf k a) i = never i
item_held AMap (ByteRange t d c) i = never i
item_held AMap (ItemRange h d c l) i = never i
item_held AMap (Optional w l) i = never i
item_held AMap (Struct NoField) i = never i
item_held AMap (Struct (Field n k NoField)) i = never i
item_held AMap (Struct (Field n k (Field m v NoField)))
    i = (
      eq_held (∥∥₁_map i (λ x. x.0)),
      key_held k (∥∥₁_map i (λ x. x.1)),
      eq_held (∥∥₁_map i (λ x. x.2)),
      plain_held v (∥∥₁_map i (λ x. x.3)),
    )
item_held AMap (Struct (Field n k (Field m v (Field o w ls)))) i = never i

rising_held : (b : ℕ) (is : List ℕ) → ∥ Rising b is ∥₁ → Rising b is
rising_held b [] h = tt
rising_held b (i ∷ is) h = (
  le_held (∥∥₁_map h (λ x. x.0)),
  le_held (∥∥₁_map h (λ x. x.1)),
  rising_held i is
      (∥∥₁_map h (λ x. x.2)),
)

mutual
  formed_held : (l : Layout) → ∥ IsFormed l ∥₁ → IsFormed l
  formed_held (Leaf k c) h = tt
  formed_held (ByteRange t d c) h = tt
  formed_held (ItemRange g d c l) h = (
    item_held g l (∥∥₁_map h (λ x. x.0)),
    formed_held l
        (∥∥₁_map h (λ x. x.1)),
  )
  formed_held (Optional w l) h = (plain_held l (∥∥₁_map h (λ x. x.0)), formed_held l (∥∥₁_map h (λ x. x.1)))
  formed_held (Struct ls) h = (
    rising_held 0 (ids_of ls) (∥∥₁_map h (λ x. x.0)),
    all_formed_held ls
        (∥∥₁_map h (λ x. x.1)),
  )

  all_formed_held : (ls : Layouts) → ∥ AllFormed ls ∥₁ → AllFormed ls
  all_formed_held NoField h = tt
  all_formed_held (Field i l ls) h = (
    formed_held l (∥∥₁_map h (λ x. x.0)),
    all_formed_held ls
        (∥∥₁_map h (λ x. x.1)),
  )

mutual
  narrow_held : (l : Layout) → ∥ IsNarrow l ∥₁ → IsNarrow l
  narrow_held (Leaf k c) h = tt
  narrow_held (ByteRange t d c) h = tt
  narrow_held (ItemRange g d c l) h = narrow_held l h
  narrow_held (Optional w l) h = (le_held (∥∥₁_map h (λ x. x.0)), narrow_held l (∥∥₁_map h (λ x. x.1)))
  narrow_held (Struct ls) h = (le_held (∥∥₁_map h (λ x. x.0)), all_narrow_held ls (∥∥₁_map h (λ x. x.1)))

  all_narrow_held : (ls : Layouts) → ∥ AllNarrow ls ∥₁ → AllNarrow ls
  all_narrow_held NoField h = tt
  all_narrow_held (Field i l ls) h = (
    narrow_held l (∥∥₁_map h (λ x. x.0)),
    all_narrow_held ls
        (∥∥₁_map h (λ x. x.1)),
  )

-- ---- widths and codings

mutual
  legal_held : (l : Layout) → ∥ Legal l ∥₁ → Legal l
  legal_held (Leaf k c) h = le_held h
  legal_held (ByteRange t d c) h = (le_held (∥∥₁_map h (λ x. x.0)), le_held (∥∥₁_map h (λ x. x.1)))
  legal_held (ItemRange g d c l) h = (
    le_held (∥∥₁_map h (λ x. x.0)),
    le_held (∥∥₁_map h (λ x. x.1)),
    legal_held l (∥∥₁_map h (λ x. x.2)),
  )
  legal_held (Optional w l) h = (le_held (∥∥₁_map h (λ x. x.0)), legal_held l (∥∥₁_map h (λ x. x.1)))
  legal_held (Struct ls) h = all_legal_held ls h

  all_legal_held : (ls : Layouts) → ∥ AllLegal ls ∥₁ → AllLegal ls
  all_legal_held NoField h = tt
  all_legal_held (Field i l ls) h = (
    legal_held l (∥∥₁_map h (λ x. x.0)),
    all_legal_held ls
        (∥∥₁_map h (λ x. x.1)),
  )

in_bits_held : (n : ℕ) (z : ℤ) → ∥ InBits n z ∥₁ → InBits n z
in_bits_held n (pos m) h = le_held h
in_bits_held n (negsuc m) h = le_held h

-- what a coding of a version says of it
abbrev IsCodedBy : Version → LeafKind → Coded → Type 0
IsCodedBy v Flag (Unsigned w) = Unit {0}
IsCodedBy Version1 (Integer k) (TwosComplement w) = Unit {0}
IsCodedBy Version2 (Integer k) (FromBase b w) = InBits (value_bits k) b
IsCodedBy v k c = ⊥

coded_by : {v : Version} {k : LeafKind} {c : Coded} → IsCoded v k c → IsCodedBy v k c
coded_by flag_coded = tt
coded_by signed_coded = tt
coded_by (based_coded h) = h

coded_held : (v : Version) (k : LeafKind) (c : Coded) → ∥ IsCodedBy v k c ∥₁ → IsCoded v k c
coded_held v Flag (Unsigned w) h = flag_coded
coded_held v Flag (TwosComplement w) h = absurd (never h)
coded_held v Flag (FromBase b w) h = absurd (never h)
coded_held Version1 (Integer k) (TwosComplement w) h = signed_coded
coded_held Version1 (Integer k) (Unsigned w) h = absurd (never h)
coded_held Version1 (Integer k) (FromBase b w) h = absurd (never h)
coded_held Version2 (Integer k) (FromBase b w) h = based_coded (in_bits_held (value_bits k) b h)
coded_held Version2 (Integer k) (Unsigned w) h = absurd (never h)
coded_held Version2 (Integer k) (TwosComplement w) h = absurd (never h)

mutual
  version_held : (v : Version) (l : Layout) → ∥ OfVersion v l ∥₁ → OfVersion v l
  version_held v (Leaf k c) h = coded_held v k c (∥∥₁_map h (λ x. coded_by x))
  version_held v (ByteRange t d c) h = tt
  version_held v (ItemRange g d c l) h = version_held v l h
  version_held v (Optional w l) h = version_held v l h
  version_held v (Struct ls) h = all_version_held v ls h

  all_version_held : (v : Version) (ls : Layouts) → ∥ AllOfVersion v ls ∥₁ → AllOfVersion v ls
  all_version_held v NoField h = tt
  all_version_held v (Field i l ls) h = (
    version_held v l (∥∥₁_map h (λ x. x.0)),
    all_version_held v ls
        (∥∥₁_map h (λ x. x.1)),
  )

-- ---- layouts

root_held : (l : Layout) → ∥ IsStruct l ∥₁ → IsStruct l
root_held (Struct ls) h = tt
root_held (Leaf k c) h = never h
root_held (ByteRange t d c) h = never h
root_held (ItemRange g d c l) h = never h
root_held (Optional w l) h = never h

layout_held : (v : Version) (l : Layout) → ∥ IsLayout v l ∥₁ → IsLayout v l
layout_held v l h = record {
  root = root_held l (∥∥₁_map h (λ x. x.root));
  kind_tree = record {
    formed = formed_held l (∥∥₁_map h (λ x. x.kind_tree.formed));
    few = le_held (∥∥₁_map h (λ x. x.kind_tree.few));
    shallow = le_held (∥∥₁_map h (λ x. x.kind_tree.shallow));
    narrow = narrow_held l (∥∥₁_map h (λ x. x.kind_tree.narrow));
  };
  coded = version_held v l (∥∥₁_map h (λ x. x.coded));
  legal = legal_held l (∥∥₁_map h (λ x. x.legal));
}

relaxing_held : (v : Version) (r : Bool) → ∥ MayRelax v r ∥₁ → MayRelax v r
relaxing_held Version2 r h = tt
relaxing_held Version1 false h = refl
relaxing_held Version1 true h = absurd (never (∥∥₁_map h (λ e. (let no : true ≡ false = e in absurd cc))))

pub described_held : (d : Described) → ∥ IsDescribed d ∥₁ → IsDescribed d
described_held d h = record {
  relaxing = relaxing_held d.version d.relaxed (∥∥₁_map h (λ x. x.relaxing));
  layout = layout_held d.version d.tree (∥∥₁_map h (λ x. x.layout));
}

-- ---- bases

base_held : (v : Version) (k : LeafKind) (b : ℤ) → ∥ BaseStands v k b ∥₁ → BaseStands v k b
base_held v Flag b h = ∥∥₁_elim h (ℤ_set b (pos 0)) (λ x. x)
base_held Version1 (Integer k) b h = ∥∥₁_elim h (ℤ_set b (pos 0)) (λ x. x)
base_held Version2 (Integer k) b h = tt

mutual
  pub bases_held : (v : Version) (t : Noted) → ∥ BasesStand v t ∥₁ → BasesStand v t
  bases_held v (Leaf k c) h = base_held v k c.base h
  bases_held v (ByteRange t d c) h = tt
  bases_held v (ItemRange g d c l) h = bases_held v l h
  bases_held v (Optional w l) h = bases_held v l h
  bases_held v (Struct ls) h = all_bases_held v ls h

  all_bases_held : (v : Version) (ls : AllNoted) → ∥ AllBasesStand v ls ∥₁ → AllBasesStand v ls
  all_bases_held v NoField h = tt
  all_bases_held v (Field i l ls) h = (
    bases_held v l (∥∥₁_map h (λ x. x.0)),
    all_bases_held v ls (∥∥₁_map h (λ x. x.1)),
  )
