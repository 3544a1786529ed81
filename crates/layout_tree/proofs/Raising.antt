-- Noting a width where none as great is noted.
use Rattle.std.proofs.Common.{◌≡◌, inl, inr, ℕ, zero, suc, ◌+◌, ◌-◌, ◌<◌, List, arith, refl, ap, ◌∙◌, length}
use Rattle.std.proofs.Common.{get_or}
use Rattle.std.proofs.lemmas.List.{get_or_append_left, get_or-append_right}
use Rattle.frozen_model.specs.Trees.{Leaf, ByteRange, ItemRange, Optional, Struct, NoField, Field, nodes}
use Rattle.layout_tree.specs.declared.node.NodeSpec.{NodeSpec}
use Rattle.layout_tree.specs.declared.node.Kind.{Kind}
use Rattle.layout_tree.specs.declared.node.Kind.TheVariants as kinds
use Rattle.layout_tree.specs.Listing.{Noted, AllNoted, inline, item_struct, nodes_of, nodes_of_all, tree_of}
use Rattle.layout_tree.specs.Listing.{IsListing}
use Rattle.layout_tree.specs.Noting.{noted_at, all_noted_at, LeafAt, LeafAmong, wide_at, wide_among}
use Rattle.layout_tree.proofs.Place.{length_nodes}
use Rattle.layout_tree.proofs.Subs.{below_test, above_test}

mutual
  pub noted_again : (t : Noted) (k w : ℕ) → LeafAt t k w → noted_at t k (wide_at t k) ≡ t
  noted_again (Leaf j c) zero w h = refl
  noted_again (ByteRange t d c) (suc zero) w h = refl
  noted_again (ByteRange t d c) (suc (suc zero)) w h = refl
  noted_again (ItemRange g d c l) (suc zero) w h = refl
  noted_again (ItemRange g d c l) (suc (suc zero)) w h = refl
  noted_again (ItemRange g d c l) (suc (suc (suc k))) w h = ap (λ (m : Noted). ItemRange g d c m)
      (noted_again l k w h)
  noted_again (Optional x l) (suc zero) w h = refl
  noted_again (Optional x l) (suc (suc k)) w h = ap (λ (m : Noted). Optional x m) (noted_again l k w h)
  noted_again (Struct ls) (suc k) w h = ap (λ (m : AllNoted). Struct m) (all_noted_again ls k w h)
  noted_again (Leaf j c) (suc k) w h = absurd h
  noted_again (ByteRange t d c) zero w h = absurd h
  noted_again (ByteRange t d c) (suc (suc (suc k))) w h = absurd h
  noted_again (ItemRange g d c l) zero w h = absurd h
  noted_again (Optional x l) zero w h = absurd h
  noted_again (Struct ls) zero w h = absurd h

  pub all_noted_again : (ls : AllNoted) (k w : ℕ) → LeafAmong ls k w → all_noted_at ls k (wide_among ls k)
      ≡ ls
  all_noted_again NoField k w h = absurd h
  all_noted_again (Field id l ls) k w (inl h) = let t = below_test k (nodes l) h.0 in rw t
      (ap (λ (m : Noted). Field id m ls) (noted_again l k w h.1))
  all_noted_again (Field id l ls) k w (inr h) = let t = above_test k (nodes l) h.0 in rw t
      (ap (λ (m : AllNoted). Field id l m) (all_noted_again ls (k - nodes l) w h.1))

mutual
  pub wide_here : (t : Noted) (k w : ℕ) → LeafAt t k w → (sk : Kind) (i p f o : ℕ) (x : NodeSpec)
      → (get_or (nodes_of t sk i p f o) k x).wide ≡ wide_at t k
  wide_here (Leaf j c) zero w h sk i p f o x = refl
  wide_here (ByteRange t d c) (suc zero) w h sk i p f o x = refl
  wide_here (ByteRange t d c) (suc (suc zero)) w h sk i p f o x = refl
  wide_here (ItemRange g d c l) (suc zero) w h sk i p f o x = refl
  wide_here (ItemRange g d c l) (suc (suc zero)) w h sk i p f o x = refl
  wide_here (ItemRange g d c l) (suc (suc (suc k))) w h sk i p f o x = wide_here l k w h (item_struct g)
      (suc (suc (suc i))) i 3 0 x
  wide_here (Optional y l) (suc zero) w h sk i p f o x = refl
  wide_here (Optional y l) (suc (suc k)) w h sk i p f o x = wide_here l k w h kinds.Struct (suc (suc i)) i 2
      y.bits x
  wide_here (Struct ls) (suc k) w h sk i p f o x = wide_here_all ls k w h (suc i) i 0 x
  wide_here (Leaf j c) (suc k) w h sk i p f o x = absurd h
  wide_here (ByteRange t d c) zero w h sk i p f o x = absurd h
  wide_here (ByteRange t d c) (suc (suc (suc k))) w h sk i p f o x = absurd h
  wide_here (ItemRange g d c l) zero w h sk i p f o x = absurd h
  wide_here (Optional y l) zero w h sk i p f o x = absurd h
  wide_here (Struct ls) zero w h sk i p f o x = absurd h

  pub wide_here_all : (ls : AllNoted) (k w : ℕ) → LeafAmong ls k w → (i p o : ℕ) (x : NodeSpec)
      → (get_or (nodes_of_all ls i p o) k x).wide ≡ wide_among ls k
  wide_here_all NoField k w h i p o x = absurd h
  wide_here_all (Field id l ls) k w (inl h) i p o x =
      let t = below_test k (nodes l) h.0 in
      let mine = nodes_of l kinds.Struct i p id o in
      let rest = nodes_of_all ls (i + nodes l) p (o + inline l) in
      let len : k < length mine = omega (arith, h.0, length_nodes l kinds.Struct i p id o) in
      rw t (ap (λ (y : NodeSpec). y.wide) (get_or_append_left mine rest x k len)
      ∙ wide_here l k w h.1 kinds.Struct i p id o x)
  wide_here_all (Field id l ls) k w (inr h) i p o x =
      let t = above_test k (nodes l) h.0 in
      let mine = nodes_of l kinds.Struct i p id o in
      let rest = nodes_of_all ls (i + nodes l) p (o + inline l) in
      let len = length_nodes l kinds.Struct i p id o in
      rw t (ap (λ (y : NodeSpec). y.wide) (get_or-append_right mine rest (nodes l) k x len h.0)
      ∙ wide_here_all ls (k - nodes l) w h.1 (i + nodes l) p (o + inline l) x)

pub wide_in : (ns : List NodeSpec) (k w : ℕ) (x : NodeSpec) → IsListing ns → LeafAt (tree_of ns) k w
    → (get_or ns k x).wide ≡ wide_at (tree_of ns) k
wide_in ns k w x h q = ap (λ r. (get_or r k x).wide) h ∙ wide_here (tree_of ns) k w q kinds.Struct 0 0 0 0 x
