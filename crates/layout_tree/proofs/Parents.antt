-- The parents of nodes.
use Rattle.std.proofs.Common.{◌≡◌, inl, inr, ℕ, zero, suc, ◌+◌, ◌-◌, ◌<◌, ◌≤◌, List, ◌++◌, arith, refl, sym}
use Rattle.std.proofs.Common.{subst, get_or}
use Rattle.std.proofs.lemmas.List.{get_or_append_left, get_or-append_right}
use Rattle.frozen_model.specs.Trees.{Leaf, ByteRange, ItemRange, Optional, Struct, NoField, Field, nodes}
use Rattle.frozen_model.specs.Trees.{nodes_all}
use Rattle.layout_tree.specs.declared.node.NodeSpec.{NodeSpec}
use Rattle.layout_tree.specs.declared.node.Kind.{Kind}
use Rattle.layout_tree.specs.declared.node.Kind.TheVariants as kinds
use Rattle.layout_tree.specs.Listing.{Noted, AllNoted, inline, item_struct, nodes_of, nodes_of_all}
use Rattle.layout_tree.specs.Segments.{Between, Inside}
use Rattle.layout_tree.proofs.Place.{length_nodes}
use Rattle.layout_tree.proofs.Numbers.{below_or}

-- the parent of the k-th node of a tree whose own node is i, and the parent of that p
abbrev pub IsParent : ℕ → ℕ → ℕ → ℕ → Type 0
IsParent p i k q = (p ≤ q) × (q < i + k) × (1 ≤ k → i ≤ q)

first_parent : (t : Noted) (sk : Kind) (i p f o : ℕ) (d : NodeSpec)
    → (get_or (nodes_of t sk i p f o) 0 d).parent ≡ p
first_parent (Leaf j c) sk i p f o d = refl
first_parent (ByteRange t x c) sk i p f o d = refl
first_parent (ItemRange g x c l) sk i p f o d = refl
first_parent (Optional w l) sk i p f o d = refl
first_parent (Struct ls) sk i p f o d = refl

own_parent : (p i k : ℕ) → p < i → IsParent p i (suc k) i
own_parent p i k h = (omega (arith, h), omega arith, λ e. omega arith)

lower_parent : (p i j k m q : ℕ) → p < i → i < j → j + k ≡ i + m → IsParent i j k q → IsParent p i m q
lower_parent p i j k m q h lt e b = (omega (arith, h, b.0), omega (arith, e, b.1), λ x. b.0)

mutual
  pub parents : (t : Noted) (sk : Kind) (i p f o : ℕ) (d : NodeSpec) (k : ℕ) → k < nodes t → p < i
      → IsParent p i k (get_or (nodes_of t sk i p f o) k d).parent
  parents t sk i p f o d zero lt h =
      let e : p ≡ (get_or (nodes_of t sk i p f o) 0 d).parent = sym (first_parent t sk i p f o d) in
      subst (IsParent p i 0) e (omega arith, omega (arith, h), λ x. absurd (omega (arith, x)))
  parents (Leaf j c) sk i p f o d (suc k) lt h = absurd (omega (arith, lt))
  parents (ByteRange t x c) sk i p f o d (suc zero) lt h = own_parent p i 0 h
  parents (ByteRange t x c) sk i p f o d (suc (suc zero)) lt h = own_parent p i 1 h
  parents (ByteRange t x c) sk i p f o d (suc (suc (suc k))) lt h = absurd (omega (arith, lt))
  parents (ItemRange g x c l) sk i p f o d (suc zero) lt h = own_parent p i 0 h
  parents (ItemRange g x c l) sk i p f o d (suc (suc zero)) lt h = own_parent p i 1 h
  parents (ItemRange g x c l) sk i p f o d (suc (suc (suc k))) lt h =
      lower_parent p i (suc (suc (suc i))) k (suc (suc (suc k))) _ h (omega arith) (omega arith)
      (parents l (item_struct g) (suc (suc (suc i))) i 3 0 d k (omega (arith, lt)) (omega arith))
  parents (Optional w l) sk i p f o d (suc zero) lt h = own_parent p i 0 h
  parents (Optional w l) sk i p f o d (suc (suc k)) lt h =
      lower_parent p i (suc (suc i)) k (suc (suc k)) _ h (omega arith) (omega arith)
      (parents l kinds.Struct (suc (suc i)) i 2 w.bits d k (omega (arith, lt)) (omega arith))
  parents (Struct ls) sk i p f o d (suc k) lt h =
      let b = parents_all ls (suc i) i 0 d k (omega (arith, lt)) (omega arith) in
      (omega (arith, h, b.0), omega (arith, b.1), λ x. b.0)

  parents_all : (ls : AllNoted) (i p o : ℕ) (d : NodeSpec) (k : ℕ) → k < nodes_all ls → p < i
      → Between p (i + k) (get_or (nodes_of_all ls i p o) k d).parent
  parents_all NoField i p o d k lt h = absurd (omega (arith, lt))
  parents_all (Field id l ls) i p o d k lt h =
      let mine = nodes_of l kinds.Struct i p id o in
      let more = nodes_of_all ls (i + nodes l) p (o + inline l) in
      let long = length_nodes l kinds.Struct i p id o in
      elim (below_or k (nodes l)) [
        | inl lo ↦
            let here : get_or (mine ++ more) k d
            ≡ get_or mine k d = get_or_append_left mine more d k (omega (arith, long, lo)) in
            let b = parents l kinds.Struct i p id o d k lo h in
            subst (λ (y : NodeSpec). Between p (i + k) y.parent) (sym here) (b.0, b.1)
        | inr le ↦
            let here : get_or (mine ++ more) k d
            ≡ get_or more (k - nodes l) d = get_or-append_right mine more (nodes l) k d long le in
            let b = parents_all ls (i + nodes l) p (o + inline l) d (k - nodes l) (omega (arith, le, lt))
            (omega (arith, h)) in
            subst (λ (y : NodeSpec). Between p (i + k) y.parent) (sym here) (b.0, omega (arith, b.1, le))
      ]

-- ---- climbing

-- the parent of a node below the child is the child, or stands below it
pub climbs : (ns : List NodeSpec) (node below k : ℕ) (d e : NodeSpec) (i : Inside ns node below) → i.child ≤ k
    → k ≤ below → ((get_or ns k d).parent ≡ node → ⊥) → Between i.child k (get_or ns k e).parent
climbs ns node below k d e i low high other =
    elim (below_or i.child k) [
      | inl lt ↦ i.inner k lt high e
      | inr le ↦ let same : i.child ≡ k = omega (arith, low, le) in
          absurd (other (subst (λ j. (get_or ns j d).parent ≡ node) same (i.own d)))
    ]

-- a node whose parent is the struct is the child
pub climbed : (ns : List NodeSpec) (node below k : ℕ) (d : NodeSpec) (i : Inside ns node below) → i.child ≤ k
    → k ≤ below → (get_or ns k d).parent ≡ node → k ≡ i.child
climbed ns node below k d i low high is =
    elim (below_or i.child k) [
      | inl lt ↦ let b = i.inner k lt high d in absurd (omega (arith, b.0, is, i.after))
      | inr le ↦ omega (arith, low, le)
    ]
