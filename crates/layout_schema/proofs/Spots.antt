-- Where a node stands in the list of all nodes: which nodes are below it, and that none behind these is its child.
use Rattle.std.proofs.Common.{◌≡◌, ◌⊎◌, inl, inr, ℕ, zero, suc, ◌+◌, ◌-◌, ◌<◌, List, [], ◌∷◌, ◌++◌, pos, arith, refl, ap, sym, ◌∙◌, subst, length, append_assoc, length-append}
use Rattle.std.proofs.lemmas.List.{append-nil}
use Rattle.frozen_model.specs.Trees.{Leaf, ByteRange, ItemRange, Optional, Struct, NoField, Field, nodes, nodes_all, Part, itself, in_item, in_optional, in_struct, PartAll, in_first, in_later}
use Rattle.layout_tree.specs.declared.node.NodeSpec.{NodeSpec}
use Rattle.layout_tree.specs.declared.node.Kind.{Kind}
use Rattle.layout_tree.specs.declared.node.Kind.TheVariants as kinds
use Rattle.layout_tree.specs.Listing.{Noted, AllNoted, inline, item_struct, spec, size, nodes_of, nodes_of_all, all_nodes}
use Rattle.layout_tree.specs.Segments.{head_node, rest_nodes}
use Rattle.layout_tree.proofs.Settling.{split_nodes}
use Rattle.layout_tree.proofs.Place.{length_nodes}
use Rattle.layout_tree.proofs.Numbers.{IsLone, below_or}

-- a node and those below it
pub nodes_below : (t : Noted) (i : ℕ) → nodes t ≡ suc (length (rest_nodes t i))
nodes_below t i = sym (length_nodes t kinds.Struct i 0 0 0) ∙ ap length (split_nodes t kinds.Struct i 0 0 0)

-- none of these nodes has the parent n
abbrev pub Childless : ℕ → List NodeSpec → Type 0
Childless n [] = Unit {0}
Childless n (s ∷ ss) = (s.parent ≡ n → ⊥) × Childless n ss

pub childless_append : (n : ℕ) (xs ys : List NodeSpec) → Childless n xs → Childless n ys → Childless n (xs ++ ys)
childless_append n [] ys a b = b
childless_append n (x ∷ xs) ys a b = (a.0, childless_append n xs ys a.1 b)

above : (i n : ℕ) → n < i → i ≡ n → ⊥
above i n lt e = omega arith

-- the nodes of a tree whose numbers are above n, and whose parent is another
mutual
  pub others : (t : Noted) (sk : Kind) (i p f o n : ℕ) → n < i → (p ≡ n → ⊥) → Childless n (nodes_of t sk i p f o)
  others (Leaf k c) sk i p f o n lt h = (h, tt)
  others (ByteRange t d c) sk i p f o n lt h = (h, (above i n lt, (above i n lt, tt)))
  others (ItemRange g d c l) sk i p f o n lt h =
      (h, (above i n lt, (above i n lt, others l (item_struct g) (suc (suc (suc i))) i 3 0 n (omega arith) (above i n lt))))
  others (Optional w l) sk i p f o n lt h =
      (h, (above i n lt, others l kinds.Struct (suc (suc i)) i 2 w.bits n (omega arith) (above i n lt)))
  others (Struct ls) sk i p f o n lt h = (h, others_all ls (suc i) i 0 n (omega arith) (above i n lt))

  pub others_all : (ls : AllNoted) (i p o n : ℕ) → n < i → (p ≡ n → ⊥) → Childless n (nodes_of_all ls i p o)
  others_all NoField i p o n lt h = tt
  others_all (Field id l ls) i p o n lt h =
      childless_append n (nodes_of l kinds.Struct i p id o) (nodes_of_all ls (i + nodes l) p (o + inline l))
      (others l kinds.Struct i p id o n lt h)
      (others_all ls (i + nodes l) p (o + inline l) n (omega arith) h)

pub below_others : (t : Noted) (i n : ℕ) → n < i → Childless n (rest_nodes t i)
below_others (Leaf k c) i n lt = tt
below_others (ByteRange t d c) i n lt = (above i n lt, (above i n lt, tt))
below_others (ItemRange g d c l) i n lt =
    (above i n lt, (above i n lt, others l (item_struct g) (suc (suc (suc i))) i 3 0 n (omega arith) (above i n lt)))
below_others (Optional w l) i n lt = (above i n lt, others l kinds.Struct (suc (suc i)) i 2 w.bits n (omega arith) (above i n lt))
below_others (Struct ls) i n lt = others_all ls (suc i) i 0 n (omega arith) (above i n lt)

-- ---- a node of a tree

-- a part with these nodes below its own, where R says which parts stand at the node n
pub record PartOf (R : Noted → Type 0) (n : ℕ) (inside : List NodeSpec) : Type 0 where
  pub here : Noted
  pub is : R here
  pub rest : inside ≡ rest_nodes here n

-- the node n of a list whose first has the number i: the nodes below it, and those behind
pub record Spot (R : Noted → Type 0) (ns : List NodeSpec) (i n : ℕ) : Type 0 where
  pub node : NodeSpec
  pub pre : List NodeSpec
  pub inside : List NodeSpec
  pub post : List NodeSpec
  pub whole : ns ≡ pre ++ (node ∷ (inside ++ post))
  pub long : i + length pre ≡ n
  pub below : (m : ℕ) → m < n → Childless m inside
  pub apart : Childless n post
  pub part : PartOf R n inside ⊎ (IsLone node.kind × (inside ≡ []))

-- with nodes in front
ahead : {R S : Noted → Type 0} {ns : List NodeSpec} {i j n : ℕ} (xs : List NodeSpec) → i + length xs ≡ j
    → ((s : Noted) → R s → S s) → Spot R ns j n → Spot S (xs ++ ns) i n
ahead {R} {S} {ns} {i} {j} {n} xs e f p = record {
  node = p.node;
  pre = xs ++ p.pre;
  inside = p.inside;
  post = p.post;
  whole = ap (λ r. xs ++ r) p.whole ∙ sym (append_assoc xs p.pre (p.node ∷ (p.inside ++ p.post)));
  long = omega (arith, e, p.long, length-append xs p.pre);
  below = p.below;
  apart = p.apart;
  part = moved p.part;
}
  where
    moved : PartOf R n p.inside ⊎ (IsLone p.node.kind × (p.inside ≡ [])) → PartOf S n p.inside ⊎ (IsLone p.node.kind × (p.inside ≡ []))
    moved (inl h) = inl (record { here = h.here; is = f h.here h.is; rest = h.rest })
    moved (inr h) = inr h

-- with nodes behind
wider : {R S : Noted → Type 0} {ns : List NodeSpec} {i n : ℕ} (more : List NodeSpec) → Childless n more
    → ((s : Noted) → R s → S s) → Spot R ns i n → Spot S (ns ++ more) i n
wider {R} {S} {ns} {i} {n} more h f p = record {
  node = p.node;
  pre = p.pre;
  inside = p.inside;
  post = p.post ++ more;
  whole = ap (λ r. r ++ more) p.whole ∙ append_assoc p.pre (p.node ∷ (p.inside ++ p.post)) more
      ∙ ap (λ r. p.pre ++ (p.node ∷ r)) (append_assoc p.inside p.post more);
  long = p.long;
  below = p.below;
  apart = childless_append n p.post more p.apart h;
  part = moved p.part;
}
  where
    moved : PartOf R n p.inside ⊎ (IsLone p.node.kind × (p.inside ≡ [])) → PartOf S n p.inside ⊎ (IsLone p.node.kind × (p.inside ≡ []))
    moved (inl h) = inl (record { here = h.here; is = f h.here h.is; rest = h.rest })
    moved (inr h) = inr h

-- the first node of a tree
first_spot : (t : Noted) (sk : Kind) (i p f o n : ℕ) → n ≡ i → Spot (λ s. Part t i s n) (nodes_of t sk i p f o) i n
first_spot t sk i p f o n e =
    let split = split_nodes t sk i p f o in
    record {
      node = head_node t sk i p f o;
      pre = [];
      inside = rest_nodes t i;
      post = [];
      whole = split ∙ ap (λ r. head_node t sk i p f o ∷ r) (sym (append-nil (rest_nodes t i)));
      long = omega (arith, e);
      below = λ m lt. below_others t i m (omega arith);
      apart = tt;
      part = inl (record { here = t; is = subst (λ m. Part t i t m) (sym e) itself; rest = ap (rest_nodes t) (sym e) });
    }

-- a distance, a count or an isset
lone_spot : {R : Noted → Type 0} (node : NodeSpec) (pre post : List NodeSpec) (i n : ℕ) → i + length pre ≡ n → Childless n post → IsLone node.kind
    → Spot R (pre ++ (node ∷ post)) i n
lone_spot node pre post i n e h lone = record {
  node = node;
  pre = pre;
  inside = [];
  post = post;
  whole = refl;
  long = e;
  below = λ m lt. tt;
  apart = h;
  part = inr (lone, refl);
}

mutual
  spot : (t : Noted) (sk : Kind) (i p f o k n : ℕ) → k < nodes t → n ≡ i + k → Spot (λ s. Part t i s n) (nodes_of t sk i p f o) i n
  spot t sk i p f o zero n lt e = first_spot t sk i p f o n (omega arith)
  spot (Leaf j c) sk i p f o (suc k) n lt e = absurd (omega arith)
  spot (ByteRange t d c) sk i p f o (suc zero) n lt e =
      lone_spot (size 1 i d 0) (head_node (ByteRange t d c) sk i p f o ∷ []) (size 2 i c d.bits ∷ []) i n (omega arith) (λ x. omega arith, tt) tt
  spot (ByteRange t d c) sk i p f o (suc (suc zero)) n lt e =
      lone_spot (size 2 i c d.bits) (head_node (ByteRange t d c) sk i p f o ∷ size 1 i d 0 ∷ []) [] i n (omega arith) tt tt
  spot (ByteRange t d c) sk i p f o (suc (suc (suc k))) n lt e = absurd (omega arith)
  spot (ItemRange g d c l) sk i p f o (suc zero) n lt e =
      lone_spot (size 1 i d 0) (head_node (ItemRange g d c l) sk i p f o ∷ []) (size 2 i c d.bits ∷ nodes_of l (item_struct g) (suc (suc (suc i))) i 3 0) i n (omega arith)
      (λ x. omega arith, others l (item_struct g) (suc (suc (suc i))) i 3 0 n (omega arith) (λ x. omega arith)) tt
  spot (ItemRange g d c l) sk i p f o (suc (suc zero)) n lt e =
      lone_spot (size 2 i c d.bits) (head_node (ItemRange g d c l) sk i p f o ∷ size 1 i d 0 ∷ []) (nodes_of l (item_struct g) (suc (suc (suc i))) i 3 0) i n (omega arith)
      (others l (item_struct g) (suc (suc (suc i))) i 3 0 n (omega arith) (λ x. omega arith)) tt
  spot (ItemRange g d c l) sk i p f o (suc (suc (suc k))) n lt e =
      ahead (head_node (ItemRange g d c l) sk i p f o ∷ size 1 i d 0 ∷ size 2 i c d.bits ∷ []) (omega arith) (λ s x. in_item x)
      (spot l (item_struct g) (suc (suc (suc i))) i 3 0 k n (omega arith) (omega arith))
  spot (Optional w l) sk i p f o (suc zero) n lt e =
      lone_spot (spec kinds.Flag 1 i w.bits w.wide 0 (pos 0)) (head_node (Optional w l) sk i p f o ∷ []) (nodes_of l kinds.Struct (suc (suc i)) i 2 w.bits) i n (omega arith)
      (others l kinds.Struct (suc (suc i)) i 2 w.bits n (omega arith) (λ x. omega arith)) tt
  spot (Optional w l) sk i p f o (suc (suc k)) n lt e =
      ahead (head_node (Optional w l) sk i p f o ∷ spec kinds.Flag 1 i w.bits w.wide 0 (pos 0) ∷ []) (omega arith) (λ s x. in_optional x)
      (spot l kinds.Struct (suc (suc i)) i 2 w.bits k n (omega arith) (omega arith))
  spot (Struct ls) sk i p f o (suc k) n lt e =
      ahead (head_node (Struct ls) sk i p f o ∷ []) (omega arith) (λ s x. in_struct x)
      (spot_all ls (suc i) i 0 k n (omega arith) (omega arith) (omega arith))

  spot_all : (ls : AllNoted) (i p o k n : ℕ) → p < i → k < nodes_all ls → n ≡ i + k → Spot (λ s. PartAll ls i s n) (nodes_of_all ls i p o) i n
  spot_all NoField i p o k n low lt e = absurd (omega arith)
  spot_all (Field id l ls) i p o k n low lt e =
      let more = nodes_of_all ls (i + nodes l) p (o + inline l) in
      let mine = nodes_of l kinds.Struct i p id o in
      elim (below_or k (nodes l)) [
        | inl h ↦ wider more (others_all ls (i + nodes l) p (o + inline l) n (omega arith) (λ x. omega arith)) (λ s x. in_first x)
            (spot l kinds.Struct i p id o k n h e)
        | inr h ↦ ahead mine (ap (λ m. i + m) (length_nodes l kinds.Struct i p id o)) (λ s x. in_later x)
            (spot_all ls (i + nodes l) p (o + inline l) (k - nodes l) n (omega arith) (omega arith) (omega arith))
      ]

-- of all nodes
pub spot_in : (t : Noted) (n : ℕ) → n < nodes t → Spot (λ s. Part t 0 s n) (all_nodes t) 0 n
spot_in t n lt = spot t kinds.Struct 0 0 0 0 n n lt (omega arith)
