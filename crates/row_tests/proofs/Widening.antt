-- A node whose kind takes a width is a leaf, a distance, a count or an isset.
use Rattle.std.proofs.Common.{◌≡◌, ℕ, zero, suc, ◌+◌, ◌-◌, ◌<◌, List, [], ◌∷◌, ◌++◌, Some, inl, inr}
use Rattle.std.proofs.Common.{map, get_or, slice_get, arith, ap, sym, subst}
use Rattle.std.proofs.lemmas.List.{get_or_append_left, get_or-append_right}
use Rattle.frozen_model.specs.Trees.{Flag, Integer, I8, I16, I32, I64, Text, Binary, AList, ASet, AMap, Leaf}
use Rattle.frozen_model.specs.Trees.{ByteRange, ItemRange, Optional, Struct, NoField, Field, nodes, nodes_all}
use Rattle.layout_tree.specs.declared.node.NodeSpec.{NodeSpec}
use Rattle.layout_tree.specs.declared.node.Kind.{Kind}
use Rattle.layout_tree.specs.declared.node.Kind.TheVariants as kinds
use Rattle.layout_tree.specs.Listing.{Noted, AllNoted, inline, item_struct, nodes_of, nodes_of_all, all_nodes}
use Rattle.layout_tree.specs.Segments.{IsStructKind}
use Rattle.layout_tree.specs.Given.{shown, shown_nodes}
use Rattle.layout_tree.specs.Noting.{LeafAt, LeafAmong}
use Rattle.layout_tree.proofs.Numbers.{below_or}
use Rattle.layout_tree.proofs.Place.{length_nodes}
use Rattle.layout_tree.proofs.Resting.{struct_item}
use Rattle.row_tests.specs.Widths.{TakesWidth}

no_struct : (k : Kind) (w : ℕ) → IsStructKind k → TakesWidth k w → ⊥
no_struct kinds.Struct w h t = t
no_struct kinds.Pair w h t = t
no_struct kinds.Flag w h t = h
no_struct kinds.I8 w h t = h
no_struct kinds.I16 w h t = h
no_struct kinds.I32 w h t = h
no_struct kinds.I64 w h t = h
no_struct kinds.Text w h t = h
no_struct kinds.Bytes w h t = h
no_struct kinds.List w h t = h
no_struct kinds.Set w h t = h
no_struct kinds.Map w h t = h
no_struct kinds.Optional w h t = h
no_struct kinds.Size w h t = h

mutual
  leaf_at : (t : Noted) (sk : Kind) (i p f o : ℕ) (k w : ℕ) (x : NodeSpec) → IsStructKind sk → k < nodes t
      → TakesWidth (get_or (nodes_of t sk i p f o) k x).kind w → LeafAt t k w
  leaf_at (Leaf Flag c) sk i p f o zero w x s h q = q
  leaf_at (Leaf (Integer I8) c) sk i p f o zero w x s h q = q
  leaf_at (Leaf (Integer I16) c) sk i p f o zero w x s h q = q
  leaf_at (Leaf (Integer I32) c) sk i p f o zero w x s h q = q
  leaf_at (Leaf (Integer I64) c) sk i p f o zero w x s h q = q
  leaf_at (Leaf j c) sk i p f o (suc k) w x s h q = absurd (omega arith)
  leaf_at (ByteRange Text d c) sk i p f o zero w x s h q = absurd q
  leaf_at (ByteRange Binary d c) sk i p f o zero w x s h q = absurd q
  leaf_at (ByteRange t d c) sk i p f o (suc zero) w x s h q = q
  leaf_at (ByteRange t d c) sk i p f o (suc (suc zero)) w x s h q = q
  leaf_at (ByteRange t d c) sk i p f o (suc (suc (suc k))) w x s h q = absurd (omega arith)
  leaf_at (ItemRange AList d c l) sk i p f o zero w x s h q = absurd q
  leaf_at (ItemRange ASet d c l) sk i p f o zero w x s h q = absurd q
  leaf_at (ItemRange AMap d c l) sk i p f o zero w x s h q = absurd q
  leaf_at (ItemRange g d c l) sk i p f o (suc zero) w x s h q = q
  leaf_at (ItemRange g d c l) sk i p f o (suc (suc zero)) w x s h q = q
  leaf_at (ItemRange g d c l) sk i p f o (suc (suc (suc k))) w x s h q =
      leaf_at l (item_struct g) (suc (suc (suc i))) i 3 0 k w x (struct_item g) (omega arith) q
  leaf_at (Optional v l) sk i p f o zero w x s h q = absurd q
  leaf_at (Optional v l) sk i p f o (suc zero) w x s h q = q
  leaf_at (Optional v l) sk i p f o (suc (suc k)) w x s h q =
      leaf_at l kinds.Struct (suc (suc i)) i 2 v.bits k w x tt (omega arith) q
  leaf_at (Struct ls) sk i p f o zero w x s h q = absurd (no_struct sk w s q)
  leaf_at (Struct ls) sk i p f o (suc k) w x s h q = leaf_among ls (suc i) i 0 k w x (omega arith) q

  leaf_among : (ls : AllNoted) (i p o : ℕ) (k w : ℕ) (x : NodeSpec) → k < nodes_all ls
      → TakesWidth (get_or (nodes_of_all ls i p o) k x).kind w → LeafAmong ls k w
  leaf_among NoField i p o k w x h q = absurd (omega arith)
  leaf_among (Field id l ls) i p o k w x h q =
      let mine = nodes_of l kinds.Struct i p id o in
      let more = nodes_of_all ls (i + nodes l) p (o + inline l) in
      let long = length_nodes l kinds.Struct i p id o in
      elim (below_or k (nodes l)) [
        | inl lt ↦
            let here : get_or (mine ++ more) k x ≡ get_or mine k x = get_or_append_left mine more x k
            (omega (arith, long, lt)) in
            inl (lt, leaf_at l kinds.Struct i p id o k w x tt lt (subst (λ (y : NodeSpec). TakesWidth y.kind w) here q))
        | inr le ↦
            let here : get_or (mine ++ more) k x ≡ get_or more (k - nodes l) x = get_or-append_right mine more
            (nodes l) k x long le in
            inr (le, leaf_among ls (i + nodes l) p (o + inline l) (k - nodes l) w x (omega (arith, le, h)) (subst (λ (y : NodeSpec). TakesWidth y.kind w) here q))
      ]

kind_shown : (xs : List NodeSpec) (i : ℕ) (s d : NodeSpec) → slice_get (map shown xs) i ≡ Some s
    → (get_or xs i d).kind ≡ s.kind
kind_shown [] i s d e = absurd cc
kind_shown (y ∷ ys) zero s d e = let h : shown y ≡ s = cc in ap (λ (z : NodeSpec). z.kind) h
kind_shown (y ∷ ys) (suc i) s d e = kind_shown ys i s d e

pub takes_width : (t : Noted) (k w : ℕ) (s : NodeSpec) → k < nodes t → slice_get (shown_nodes t) k ≡ Some s
    → TakesWidth s.kind w → LeafAt t k w
takes_width t k w s h e q =
    leaf_at t kinds.Struct 0 0 0 0 k w s tt h
    (subst (λ (x : Kind). TakesWidth x w) (sym (kind_shown (all_nodes t) k s s e)) q)
