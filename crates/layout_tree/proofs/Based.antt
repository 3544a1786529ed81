-- Another base at a leaf changes one node.
use Rattle.std.proofs.Common.{◌≡◌, inl, inr, ℕ, ℤ, zero, suc, ◌-◌, ◌<◌, ◌≤◌, List, arith, refl, sym, subst}
use Rattle.std.proofs.Common.{length, get_or, slice_set}
use Rattle.frozen_model.specs.Trees.{LeafKind, Flag, Integer, greatest, Leaf, ByteRange, ItemRange, Optional}
use Rattle.frozen_model.specs.Trees.{Struct, NoField, Field, nodes}
use Rattle.frozen_model.specs.Layouts.{Version, Version2, based_coded, width}
use Rattle.layout_tree.specs.declared.node.FormVersion.{FormVersion}
use Rattle.layout_tree.specs.declared.node.FormVersion.TheVariants.{First, Second}
use Rattle.layout_tree.specs.declared.node.NodeSpec.{NodeSpec}
use Rattle.layout_tree.specs.Listing.{version_of, Noted, AllNoted, coded, tree_of, IsListing, IsNotedLayout}
use Rattle.layout_tree.specs.Basing.{based_at, all_based_at, BaseAt, BaseAmong}
use Rattle.layout_tree.proofs.Readings.{coded_width, length_listing}
use Rattle.layout_tree.proofs.Subs.{below_test, above_test}
use Rattle.layout_tree.proofs.Turned.{turned_node, Turned, TurnedAll, leaf, in_item, in_optional, in_struct}
use Rattle.layout_tree.proofs.Turned.{in_first, in_later, Kept, turned_keeps, turned_below, Turns, turns}

-- a node with another base
abbrev pub rebased : NodeSpec → ℤ → NodeSpec
rebased x w = turned_node (λ b. w) (λ n. n) x

same_legal : (v : Version) (j : LeafKind) (b z : ℤ) (w : ℕ) → width (coded v j b w) ≤ greatest j
    → width (coded v j z w) ≤ greatest j
same_legal v j b z w h = omega (arith, coded_width v j b w, coded_width v j z w, h)

mutual
  based_turned : (t : Noted) (k : ℕ) (w : ℤ) → BaseAt t k w
      → Turned Version2 (λ b. w) (λ n. n) t (based_at t k w) k
  based_turned (Leaf (Integer j) c) zero w h = leaf (record {
    version = λ o. based_coded h;
    legal = λ o. same_legal Version2 (Integer j) c.base w c.bits o;
    noted = λ o. same_legal Version2 (Integer j) c.base w c.wide o;
    based = λ o. tt;
  })
  based_turned (ItemRange g d c l) (suc (suc (suc k))) w h = in_item (based_turned l k w h)
  based_turned (Optional x l) (suc (suc k)) w h = in_optional (based_turned l k w h)
  based_turned (Struct ls) (suc k) w h = in_struct (based_turned_all ls k w h)
  based_turned (Leaf Flag c) zero w h = absurd h
  based_turned (Leaf Flag c) (suc k) w h = absurd h
  based_turned (Leaf (Integer j) c) (suc k) w h = absurd h
  based_turned (ByteRange t d c) k w h = absurd h
  based_turned (ItemRange g d c l) zero w h = absurd h
  based_turned (ItemRange g d c l) (suc zero) w h = absurd h
  based_turned (ItemRange g d c l) (suc (suc zero)) w h = absurd h
  based_turned (Optional x l) zero w h = absurd h
  based_turned (Optional x l) (suc zero) w h = absurd h
  based_turned (Struct ls) zero w h = absurd h

  based_turned_all : (ls : AllNoted) (k : ℕ) (w : ℤ) → BaseAmong ls k w
      → TurnedAll Version2 (λ b. w) (λ n. n) ls (all_based_at ls k w) k
  based_turned_all NoField k w h = absurd h
  based_turned_all (Field id l ls) k w (inl h) = let t = below_test k (nodes l) h.0 in rw t
      (in_first h.0 (based_turned l k w h.1))
  based_turned_all (Field id l ls) k w (inr h) = let t = above_test k (nodes l) h.0 in rw t
      (in_later h.0 (based_turned_all ls (k - nodes l) w h.1))

pub kept : (t : Noted) (k : ℕ) (w : ℤ) → BaseAt t k w → Kept t (based_at t k w)
kept t k w h = turned_keeps (based_turned t k w h)

pub base_in : (ns : List NodeSpec) (k : ℕ) (w : ℤ) → IsListing ns → BaseAt (tree_of ns) k w → k < length ns
base_in ns k w h q = omega (arith, length_listing ns h, turned_below (based_turned (tree_of ns) k w q))

bases : (e : FormVersion) (ns : List NodeSpec) (k : ℕ) (w : ℤ) (x : NodeSpec) → e ≡ Second → IsListing ns
    → ∥ IsNotedLayout e (tree_of ns) ∥₁ → BaseAt (tree_of ns) k w → x ≡ get_or ns k x
    → Turns e (slice_set ns k (rebased x w)) (based_at (tree_of ns) k w)
bases First ns k w x es h p q ex = absurd cc
bases Second ns k w x es h p q ex = turns Second (λ b. w) (λ n. n) ns (based_at (tree_of ns) k w) k x h p
    (based_turned (tree_of ns) k w q) ex

-- the same where the base is written as z
pub bases_as : (e : FormVersion) (ns : List NodeSpec) (k : ℕ) (w z : ℤ) (x : NodeSpec) → z ≡ w → e ≡ Second
    → IsListing ns → ∥ IsNotedLayout e (tree_of ns) ∥₁ → BaseAt (tree_of ns) k w → x ≡ get_or ns k x
    → Turns e (slice_set ns k (rebased x z)) (based_at (tree_of ns) k w)
bases_as e ns k w z x ez es h p q ex = subst
    (λ (y : ℤ). Turns e (slice_set ns k (rebased x y)) (based_at (tree_of ns) k w)) (sym ez)
    (bases e ns k w x es h p q ex)

-- the kept version where the version is the second
pub second_of : (e : FormVersion) → version_of e ≡ Version2 → e ≡ Second
second_of First h = absurd cc
second_of Second h = refl
