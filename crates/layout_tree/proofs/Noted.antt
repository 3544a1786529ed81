-- Noting a width at a leaf changes one node.
use Rattle.std.proofs.Common.{◌≡◌, inl, inr, ℕ, ℤ, zero, suc, ◌-◌, ◌<◌, ◌≤◌, List, arith}
use Rattle.std.proofs.Common.{refl, length, get_or, slice_set}
use Rattle.frozen_model.specs.Trees.{LeafKind, greatest, Leaf, ByteRange, ItemRange, Optional, Struct}
use Rattle.frozen_model.specs.Trees.{NoField, Field, nodes}
use Rattle.frozen_model.specs.Layouts.{Version, Version2, width}
use Rattle.layout_tree.specs.declared.node.FormVersion.{FormVersion}
use Rattle.layout_tree.specs.declared.node.NodeSpec.{NodeSpec}
use Rattle.layout_tree.specs.Listing.{Noted, AllNoted, coded, layout_in, tree_of, IsListing, version_of}
use Rattle.layout_tree.specs.Listing.{IsNotedLayout}
use Rattle.layout_tree.specs.Noting.{noted_at, all_noted_at, LeafAt, LeafAmong}
use Rattle.layout_tree.specs.Shapes.{marked}
use Rattle.layout_tree.proofs.Readings.{coded_width, length_listing}
use Rattle.layout_tree.proofs.Subs.{below_test, above_test}
use Rattle.layout_tree.proofs.Turned.{Turned, TurnedAll, leaf, bytes_distance, bytes_count}
use Rattle.layout_tree.proofs.Turned.{distance, count, in_item, flag, in_optional, in_struct, in_first}
use Rattle.layout_tree.proofs.Turned.{in_later, turned_below, turned_layout, Turns, turns}

legal_leaf : (v : Version) (j : LeafKind) (b : ℤ) (w : ℕ) → w ≤ greatest j → width (coded v j b w)
    ≤ greatest j
legal_leaf v j b w h = omega (arith, coded_width v j b w, h)

mutual
  noted_turned : (v : Version) (t : Noted) (k w : ℕ) → LeafAt t k w
      → Turned v (λ b. b) (λ n. w) t (noted_at t k w) k
  noted_turned v (Leaf j c) zero w h = leaf
      (record { version = λ o. o; legal = λ o. o; noted = λ o. legal_leaf v j c.base w h; based = λ o. o })
  noted_turned v (ByteRange t d c) (suc zero) w h = bytes_distance (record { base = refl; noted = h })
  noted_turned v (ByteRange t d c) (suc (suc zero)) w h = bytes_count (record { base = refl; noted = h })
  noted_turned v (ItemRange g d c l) (suc zero) w h = distance (record { base = refl; noted = h })
  noted_turned v (ItemRange g d c l) (suc (suc zero)) w h = count (record { base = refl; noted = h })
  noted_turned v (ItemRange g d c l) (suc (suc (suc k))) w h = in_item (noted_turned v l k w h)
  noted_turned v (Optional x l) (suc zero) w h = flag (record { base = refl; noted = h })
  noted_turned v (Optional x l) (suc (suc k)) w h = in_optional (noted_turned v l k w h)
  noted_turned v (Struct ls) (suc k) w h = in_struct (noted_turned_all v ls k w h)
  noted_turned v (Leaf j c) (suc k) w h = absurd h
  noted_turned v (ByteRange t d c) zero w h = absurd h
  noted_turned v (ByteRange t d c) (suc (suc (suc k))) w h = absurd h
  noted_turned v (ItemRange g d c l) zero w h = absurd h
  noted_turned v (Optional x l) zero w h = absurd h
  noted_turned v (Struct ls) zero w h = absurd h

  noted_turned_all : (v : Version) (ls : AllNoted) (k w : ℕ) → LeafAmong ls k w
      → TurnedAll v (λ b. b) (λ n. w) ls (all_noted_at ls k w) k
  noted_turned_all v NoField k w h = absurd h
  noted_turned_all v (Field id l ls) k w (inl h) = let t = below_test k (nodes l) h.0 in rw t
      (in_first h.0 (noted_turned v l k w h.1))
  noted_turned_all v (Field id l ls) k w (inr h) = let t = above_test k (nodes l) h.0 in rw t
      (in_later h.0 (noted_turned_all v ls (k - nodes l) w h.1))

pub noted_layout : (v : Version) (t : Noted) (k w : ℕ) → LeafAt t k w → layout_in v (noted_at t k w)
    ≡ layout_in v t
noted_layout v t k w h = turned_layout (noted_turned v t k w h)

pub tip_below : (t : Noted) (k w : ℕ) → LeafAt t k w → k < nodes t
tip_below t k w h = turned_below (noted_turned Version2 t k w h)

pub leaf_in : (ns : List NodeSpec) (k w : ℕ) → IsListing ns → LeafAt (tree_of ns) k w → k < length ns
leaf_in ns k w h q = omega (arith, length_listing ns h, tip_below (tree_of ns) k w q)

pub notes : (e : FormVersion) (ns : List NodeSpec) (k w : ℕ) (x : NodeSpec) → IsListing ns
    → ∥ IsNotedLayout e (tree_of ns) ∥₁ → LeafAt (tree_of ns) k w → x ≡ get_or ns k x
    → Turns e (slice_set ns k (marked x w)) (noted_at (tree_of ns) k w)
notes e ns k w x h p q ex = turns e (λ b. b) (λ n. w) ns (noted_at (tree_of ns) k w) k x h p
    (noted_turned (version_of e) (tree_of ns) k w q) ex
