-- The nodes of a layout within the limits fit the fields of a schema: their bits, fields, offsets and bases are in range.
use Rattle.std.proofs.Common.{ℕ, suc, ◌+◌, ◌≤◌, ℤ, pos, negsuc, Bool, true, false, if◌then◌else◌, List, [], ◌∷◌, ◌++◌, arith, map}
use Rattle.frozen_model.specs.Trees.{Whole, I8, I16, I32, I64, LeafKind, Integer, Leaf, ByteRange, ItemRange, Optional, Struct, NoField, Field, nodes, nodes_all, greatest_bits, greatest_bits_all, IsNarrow, AllNarrow, IsFormed, AllFormed, Rising, ids_of, value_bits}
use Rattle.frozen_model.specs.Values.{InBits}
use Rattle.frozen_model.specs.Layouts.{Version, Coded, IsCoded, flag_coded, signed_coded, based_coded, Layout, Layouts, OfVersion, AllOfVersion, Legal, AllLegal}
use Rattle.frozen_laws.proofs.Limits.{greatest_small}
use Rattle.layout_tree.specs.declared.node.NodeSpec.{NodeSpec}
use Rattle.layout_tree.specs.declared.node.Kind.{Kind}
use Rattle.layout_tree.specs.declared.node.Kind.TheVariants as kinds
use Rattle.layout_tree.specs.Listing.{inline, inline_all, kind_of, kind_of_bytes, kind_of_holder, item_struct, spec, nodes_of, nodes_of_all}
use Rattle.layout_tree.specs.Given.{shown, noted_from, all_noted_from}
use Rattle.layout_tree.specs.Reading.{whole_kind, base_of}
use Rattle.layout_schema.specs.Schemas.{base_in}

pub record NodeFits (s : NodeSpec) : Type 0 where
  pub bits : s.bits ≤ 32767
  pub field : InBits 15 s.field
  pub offset : s.offset ≤ 32767
  pub base : InBits 63 (base_in s)

abbrev pub AllFit : List NodeSpec → Type 0
AllFit [] = Unit {0}
AllFit (s ∷ ss) = NodeFits s × AllFit ss

fit_append : (xs ys : List NodeSpec) → AllFit xs → AllFit ys → AllFit (xs ++ ys)
fit_append [] ys a b = b
fit_append (x ∷ xs) ys a b = (a.0, fit_append xs ys a.1 b)

pub fit_shown : (xs : List NodeSpec) → AllFit xs → AllFit (map shown xs)
fit_shown [] h = tt
fit_shown (x ∷ xs) h = (record { bits = h.0.bits; field = h.0.field; offset = h.0.offset; base = h.0.base }, fit_shown xs h.1)

-- ---- bases

zero_base : (b : Bool) → InBits 63 (if b then pos 0 else pos 0)
zero_base true = omega arith
zero_base false = omega arith

whole_base : (k : Whole) (z : ℤ) → InBits (value_bits k) z → InBits 63 (if whole_kind (kind_of (Integer k)) then z else pos 0)
whole_base I8 (pos n) h = omega arith
whole_base I8 (negsuc n) h = omega arith
whole_base I16 (pos n) h = omega arith
whole_base I16 (negsuc n) h = omega arith
whole_base I32 (pos n) h = omega arith
whole_base I32 (negsuc n) h = omega arith
whole_base I64 (pos n) h = h
whole_base I64 (negsuc n) h = h

leaf_base : (v : Version) (k : LeafKind) (c : Coded) → IsCoded v k c → InBits 63 (if whole_kind (kind_of k) then base_of c else pos 0)
leaf_base v k c flag_coded = zero_base false
leaf_base v k c (signed_coded {k = j}) = zero_base (whole_kind (kind_of (Integer j)))
leaf_base v k c (based_coded {k = j} {b = b} h) = whole_base j b h

-- ---- sums

mutual
  inline_most : (l : Layout) → Legal l → inline (noted_from l) ≤ greatest_bits l
  inline_most (Leaf k c) h = h
  inline_most (ByteRange t d c) h = omega (arith, h.0, h.1)
  inline_most (ItemRange g d c l) h = omega (arith, h.0, h.1)
  inline_most (Optional w l) h = omega (arith, h.0, inline_most l h.1)
  inline_most (Struct ls) h = inline_most_all ls h

  inline_most_all : (ls : Layouts) → AllLegal ls → inline_all (all_noted_from ls) ≤ greatest_bits_all ls
  inline_most_all NoField h = omega arith
  inline_most_all (Field i l ls) h = omega (arith, inline_most l h.0, inline_most_all ls h.1)

-- ---- nodes

-- a node that is no leaf of whole numbers
plain_fits : (k : Kind) (f p b w o : ℕ) → f ≤ 32767 → b ≤ 32767 → o ≤ 32767 → NodeFits (spec k f p b w o (pos 0))
plain_fits k f p b w o hf hb ho = record { bits = hb; field = omega arith; offset = ho; base = zero_base (whole_kind k) }

mutual
  fits : (v : Version) (l : Layout) (sk : Kind) (i p f o : ℕ) → f ≤ 32767 → o ≤ 32767 → OfVersion v l → Legal l → IsNarrow l → IsFormed l
      → AllFit (nodes_of (noted_from l) sk i p f o)
  fits v (Leaf k c) sk i p f o hf ho of legal narrow formed =
      (record { bits = omega (arith, legal, greatest_small k); field = omega arith; offset = ho; base = leaf_base v k c of }, tt)
  fits v (ByteRange t d c) sk i p f o hf ho of legal narrow formed = (
    plain_fits (kind_of_bytes t) f p (d + c) (suc (suc (suc i))) o hf (omega (arith, legal.0, legal.1)) ho,
    (
      plain_fits kinds.Size 1 i d d 0 (omega arith) (omega (arith, legal.0)) (omega arith),
      (plain_fits kinds.Size 2 i c c d (omega arith) (omega (arith, legal.1)) (omega (arith, legal.0)), tt),
    ),
  )
  fits v (ItemRange g d c l) sk i p f o hf ho of legal narrow formed = (
    plain_fits (kind_of_holder g) f p (d + c) (suc (suc (suc i)) + nodes (noted_from l)) o hf (omega (arith, legal.0, legal.1)) ho,
    (
      plain_fits kinds.Size 1 i d d 0 (omega arith) (omega (arith, legal.0)) (omega arith),
      (
        plain_fits kinds.Size 2 i c c d (omega arith) (omega (arith, legal.1)) (omega (arith, legal.0)),
        fits v l (item_struct g) (suc (suc (suc i))) i 3 0 (omega arith) (omega arith) of legal.2 narrow formed.1,
      ),
    ),
  )
  fits v (Optional w l) sk i p f o hf ho of legal narrow formed = (
    plain_fits kinds.Optional f p (w + inline (noted_from l)) (suc (suc i) + nodes (noted_from l)) o hf (omega (arith, legal.0, inline_most l legal.1, narrow.0)) ho,
    (
      plain_fits kinds.Flag 1 i w w 0 (omega arith) (omega (arith, legal.0)) (omega arith),
      fits v l kinds.Struct (suc (suc i)) i 2 w (omega arith) (omega (arith, legal.0)) of legal.1 narrow.1 formed.1,
    ),
  )
  fits v (Struct ls) sk i p f o hf ho of legal narrow formed = (
    plain_fits sk f p (inline_all (all_noted_from ls)) (suc i + nodes_all (all_noted_from ls)) o hf (omega (arith, inline_most_all ls legal, narrow.0)) ho,
    fits_all v ls 0 (suc i) i 0 (omega (arith, inline_most_all ls legal, narrow.0)) of legal narrow.1 formed.0 formed.1,
  )

  fits_all : (v : Version) (ls : Layouts) (before i p o : ℕ) → o + inline_all (all_noted_from ls) ≤ 32767 → AllOfVersion v ls → AllLegal ls → AllNarrow ls
      → Rising before (ids_of ls) → AllFormed ls → AllFit (nodes_of_all (all_noted_from ls) i p o)
  fits_all v NoField before i p o ho of legal narrow rising formed = tt
  fits_all v (Field id l ls) before i p o ho of legal narrow rising formed =
      fit_append (nodes_of (noted_from l) kinds.Struct i p id o) (nodes_of_all (all_noted_from ls) (i + nodes (noted_from l)) p (o + inline (noted_from l)))
      (fits v l kinds.Struct i p id o (omega (arith, rising.1)) (omega arith) of.0 legal.0 narrow.0 formed.0)
      (fits_all v ls id (i + nodes (noted_from l)) p (o + inline (noted_from l)) (omega arith) of.1 legal.1 narrow.1 rising.2 formed.1)

pub layout_fits : (v : Version) (l : Layout) → OfVersion v l → Legal l → IsNarrow l → IsFormed l → AllFit (nodes_of (noted_from l) kinds.Struct 0 0 0 0)
layout_fits v l of legal narrow formed = fits v l kinds.Struct 0 0 0 0 (omega arith) (omega arith) of legal narrow formed
