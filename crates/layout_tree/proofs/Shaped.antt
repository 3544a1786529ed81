-- A shape is a layout that may be kept.
use Rattle.idl_profile.specs.Types.{TypeTree}
use Rattle.type_kinds.specs.KindsOf.{kinds_of}
use Rattle.layout_tree.specs.declared.node.Kind.TheVariants as kinds
use Rattle.std.proofs.Common.{ℕ, length, ◌≡◌, pos, true, ◌++◌, List, [], arith, refl, ap, sym, ◌∙◌, subst}
use Rattle.frozen_model.specs.Trees.{Whole, I8, I16, I32, I64, LeafKind, Flag, Integer, Leaf, ByteRange}
use Rattle.frozen_model.specs.Trees.{ItemRange, Optional, Struct, NoField, Field, KindTree, KindTrees}
use Rattle.frozen_model.specs.Trees.{kinds as kinds_tree, kinds_all, IsStruct, IsKindTree, value_bits, Alike}
use Rattle.frozen_model.specs.Trees.{AllLeafwise, leaf, byte_range, item_range, optional, struct, no_field}
use Rattle.frozen_model.specs.Trees.{field}
use Rattle.frozen_model.specs.Values.{InBits}
use Rattle.frozen_model.specs.Layouts.{Version2, IsCoded, flag_coded, based_coded, Coded, OfVersion}
use Rattle.frozen_model.specs.Layouts.{AllOfVersion, Legal, AllLegal, described}
use Rattle.frozen_model.specs.Holding.{Blank, AllBlank}
use Rattle.layout_tree.specs.declared.node.NodeSpec.{NodeSpec}
use Rattle.layout_tree.specs.declared.node.FormVersion.TheVariants.{Second}
use Rattle.layout_tree.specs.Listing.{Noted, AllNoted, coded, layout_in, layouts_in, settled, settled_all}
use Rattle.layout_tree.specs.Listing.{tree_of, nodes_of, all_nodes, IsListing, IsNotedLayout}
use Rattle.layout_tree.specs.Listing.{BaseStands, BasesStand, AllBasesStand}
use Rattle.layout_tree.specs.Given.{resting}
use Rattle.layout_tree.specs.Shapes.{blank, all_blank, shape_of, CanAdd, Adds}
use Rattle.layout_tree.proofs.Decode.{tree_again}

mutual
  pub blank_kinds : (k : KindTree) → kinds_tree (blank k) ≡ k
  blank_kinds (Leaf k a) = refl
  blank_kinds (ByteRange t d c) = refl
  blank_kinds (ItemRange h d c l) = ap (λ (m : KindTree). ItemRange h d c m) (blank_kinds l)
  blank_kinds (Optional w l) = ap (λ (m : KindTree). Optional w m) (blank_kinds l)
  blank_kinds (Struct ls) = ap (λ (m : KindTrees). Struct m) (all_blank_kinds ls)

  all_blank_kinds : (ks : KindTrees) → kinds_all (all_blank ks) ≡ ks
  all_blank_kinds NoField = refl
  all_blank_kinds (Field i l ls) = let e = blank_kinds l in let f = all_blank_kinds ls in cc

mutual
  pub blank_settled : (k : KindTree) → settled (blank k) ≡ blank k
  blank_settled (Leaf k a) = refl
  blank_settled (ByteRange t d c) = refl
  blank_settled (ItemRange h d c l) = ap (λ (m : Noted). ItemRange h (resting 0) (resting 0) m)
      (blank_settled l)
  blank_settled (Optional w l) = ap (λ (m : Noted). Optional (resting 0) m) (blank_settled l)
  blank_settled (Struct ls) = ap (λ (m : AllNoted). Struct m) (all_blank_settled ls)

  all_blank_settled : (ks : KindTrees) → settled_all (all_blank ks) ≡ all_blank ks
  all_blank_settled NoField = refl
  all_blank_settled (Field i l ls) = let e = blank_settled l in let f = all_blank_settled ls in cc

zero_in : (j : Whole) → InBits (value_bits j) (pos 0)
zero_in I8 = omega arith
zero_in I16 = omega arith
zero_in I32 = omega arith
zero_in I64 = omega arith

blank_leaf : (k : LeafKind) → IsCoded Version2 k (coded Version2 k (pos 0) 0)
blank_leaf Flag = flag_coded
blank_leaf (Integer j) = based_coded (zero_in j)

mutual
  blank_coded : (k : KindTree) → OfVersion Version2 (layout_in Version2 (blank k))
  blank_coded (Leaf k a) = blank_leaf k
  blank_coded (ByteRange t d c) = tt
  blank_coded (ItemRange h d c l) = blank_coded l
  blank_coded (Optional w l) = blank_coded l
  blank_coded (Struct ls) = all_blank_coded ls

  all_blank_coded : (ks : KindTrees) → AllOfVersion Version2 (layouts_in Version2 (all_blank ks))
  all_blank_coded NoField = tt
  all_blank_coded (Field i l ls) = (blank_coded l, all_blank_coded ls)

mutual
  blank_legal : (k : KindTree) → Legal (layout_in Version2 (blank k))
  blank_legal (Leaf Flag a) = omega arith
  blank_legal (Leaf (Integer j) a) = omega arith
  blank_legal (ByteRange t d c) = (omega arith, omega arith)
  blank_legal (ItemRange h d c l) = (omega arith, omega arith, blank_legal l)
  blank_legal (Optional w l) = (omega arith, blank_legal l)
  blank_legal (Struct ls) = all_blank_legal ls

  all_blank_legal : (ks : KindTrees) → AllLegal (layouts_in Version2 (all_blank ks))
  all_blank_legal NoField = tt
  all_blank_legal (Field i l ls) = (blank_legal l, all_blank_legal ls)

blank_base : (k : LeafKind) → BaseStands Version2 k (pos 0)
blank_base Flag = refl
blank_base (Integer j) = tt

mutual
  blank_bases : (k : KindTree) → BasesStand Version2 (blank k)
  blank_bases (Leaf k a) = blank_base k
  blank_bases (ByteRange t d c) = tt
  blank_bases (ItemRange h d c l) = blank_bases l
  blank_bases (Optional w l) = blank_bases l
  blank_bases (Struct ls) = all_blank_bases ls

  all_blank_bases : (ks : KindTrees) → AllBasesStand Version2 (all_blank ks)
  all_blank_bases NoField = tt
  all_blank_bases (Field i l ls) = (blank_bases l, all_blank_bases ls)

pub blank_sound : (k : KindTree) → IsKindTree k → IsStruct k → IsNotedLayout Second (blank k)
blank_sound k h r = record {
  root = subst (λ (m : KindTree). IsStruct m) (sym (blank_kinds k)) r;
  kind_tree = subst (λ (m : KindTree). IsKindTree m) (sym (blank_kinds k)) h;
  coded = blank_coded k;
  legal = blank_legal k;
  noted = subst (λ (t : Noted). Legal (layout_in Version2 t)) (sym (blank_settled k)) (blank_legal k);
  based = blank_bases k;
}

pub record Shaped (k : KindTree) (ns : List NodeSpec) : Type 0 where
  pub tells : tree_of ns ≡ blank k
  pub listing : IsListing ns
  pub sound : ∥ IsNotedLayout Second (tree_of ns) ∥₁
  pub layout : described Version2 true (layout_in Version2 (tree_of ns)) ≡ shape_of k
  pub settled : described Version2 true (layout_in Version2 (settled (tree_of ns)))
      ≡ described Version2 true (layout_in Version2 (tree_of ns))

pub shaped : (k : KindTree) (ns : List NodeSpec) → IsKindTree k → IsStruct k → ns ≡ [] ++ all_nodes (blank k)
    → Shaped k ns
shaped k ns h r e =
    let t = blank k in
    let tells : tree_of ns ≡ t = ap tree_of e ∙ tree_again t in
    record {
      tells = tells;
      listing = e ∙ ap all_nodes (sym tells);
      sound = subst (λ (m : Noted). ∥ IsNotedLayout Second m ∥₁) (sym tells) ∣ blank_sound k h r ∣₁;
      layout = ap (λ (m : Noted). described Version2 true (layout_in Version2 m)) tells;
      settled = ap (λ (m : Noted). described Version2 true (layout_in Version2 m))
          (ap settled tells ∙ blank_settled k ∙ sym tells);
    }

-- the room for the root of a definition
pub root_room : (old : List NodeSpec) (t u : TypeTree) → old ≡ [] → t ≡ u → IsKindTree (kinds_of u)
    → CanAdd old (kinds_of t)
root_room old t u eo et h =
    let none : length old ≡ 0 = ap length eo in
    subst (λ z. CanAdd old (kinds_of z)) (sym et) (record {
      formed = h.formed;
      room = omega (arith, none, h.few);
    })

pub root_added : (old new : List NodeSpec) (t u : TypeTree) → old ≡ [] → t ≡ u → Adds old new (kinds_of t) 0 0
    → new ≡ [] ++ all_nodes (blank (kinds_of u))
root_added old new t u eo et h =
    subst (λ o. new ≡ o ++ nodes_of (blank (kinds_of u)) kinds.Struct (length o) 0 0 0) eo
    (subst (λ z. Adds old new (kinds_of z) 0 0) et h)

-- a shape is a layout within the limits
mutual
  pub blank_alike : (k : KindTree) → Alike k (layout_in Version2 (blank k))
  blank_alike (Leaf k a) = leaf tt
  blank_alike (ByteRange t d c) = byte_range tt tt
  blank_alike (ItemRange h d c l) = item_range tt tt (blank_alike l)
  blank_alike (Optional w l) = optional tt (blank_alike l)
  blank_alike (Struct ls) = struct (all_blank_alike ls)

  all_blank_alike : (ks : KindTrees)
      → AllLeafwise (λ (k : LeafKind) (a : Unit {0}) (c : Coded). Unit {0})
      (λ (b : Unit {0}) (d : ℕ). Unit {0}) (λ (b : Unit {0}) (d : ℕ). Unit {0}) ks
      (layouts_in Version2 (all_blank ks))
  all_blank_alike NoField = no_field
  all_blank_alike (Field i l ls) = field (blank_alike l) (all_blank_alike ls)

-- all its widths are 0
mutual
  pub blank_widths : (k : KindTree) → Blank (layout_in Version2 (blank k))
  blank_widths (Leaf Flag a) = refl
  blank_widths (Leaf (Integer j) a) = refl
  blank_widths (ByteRange t d c) = (refl, refl)
  blank_widths (ItemRange h d c l) = (refl, refl, blank_widths l)
  blank_widths (Optional w l) = (refl, blank_widths l)
  blank_widths (Struct ls) = all_blank_widths ls

  all_blank_widths : (ks : KindTrees) → AllBlank (layouts_in Version2 (all_blank ks))
  all_blank_widths NoField = tt
  all_blank_widths (Field i l ls) = (blank_widths l, all_blank_widths ls)
