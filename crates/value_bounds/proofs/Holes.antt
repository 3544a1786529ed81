-- A tree with a hole: what is done to the part in the hole is done to the whole.
use Rattle.std.proofs.Common.{◌≡◌, inl, inr, ℕ, ℤ, suc, ◌+◌, ◌-◌, ◌<◌, arith, refl, ap}
use Rattle.std.proofs.Common.{◌∙◌, subst}
use Rattle.frozen_model.specs.Trees.{Holder, ItemRange, Optional, Struct, Field, nodes, nodes_all}
use Rattle.layout_tree.specs.Listing.{Noted, AllNoted, Width}
use Rattle.layout_tree.specs.Basing.{based_at, all_based_at, BaseAt, BaseAmong, whole_at, whole_among}
use Rattle.layout_tree.proofs.Subs.{below_test, above_test}

-- a tree with a hole for a part whose node is n
pub record Hole (whole : Noted → Noted) (n : ℕ) : Type 0 where
  pub kind : (s : Noted) (k : ℕ) → k < nodes s → whole_at (whole s) (n + k) ≡ whole_at s k
  pub fits : (s : Noted) (k : ℕ) (z : ℤ) → k < nodes s → BaseAt s k z → BaseAt (whole s) (n + k) z
  pub sets : (s : Noted) (k : ℕ) (z : ℤ) → k < nodes s → based_at (whole s) (n + k) z ≡ whole (based_at s k z)

-- the same for fields, the first of which has the node n
pub record FieldsHole (whole : AllNoted → Noted) (n : ℕ) : Type 0 where
  pub kind : (s : AllNoted) (k : ℕ) → k < nodes_all s → whole_at (whole s) (n + k) ≡ whole_among s k
  pub fits : (s : AllNoted) (k : ℕ) (z : ℤ) → k < nodes_all s → BaseAmong s k z → BaseAt (whole s) (n + k) z
  pub sets : (s : AllNoted) (k : ℕ) (z : ℤ) → k < nodes_all s → based_at (whole s) (n + k) z
      ≡ whole (all_based_at s k z)

pub no_hole : Hole (λ (s : Noted). s) 0
no_hole = record {
  kind = λ s k h. let e : 0 + k ≡ k = omega arith in ap (λ i. whole_at s i) e;
  fits = λ s k z h b. let e : k ≡ 0 + k = omega arith in subst (λ i. BaseAt s i z) e b;
  sets = λ s k z h. let e : 0 + k ≡ k = omega arith in ap (λ i. based_at s i z) e;
}

pub item_hole : (whole : Noted → Noted) (n : ℕ) (g : Holder) (d c : Width) → Hole whole n
    → Hole (λ s. whole (ItemRange g d c s)) (n + 3)
item_hole whole n g d c o = record {
  kind = λ s k h. let e : n + 3 + k ≡ n
      + suc (suc (suc k)) = omega arith in ap (λ i. whole_at (whole (ItemRange g d c s)) i) e
      ∙ o.kind (ItemRange g d c s) (suc (suc (suc k))) (omega (arith, h));
  fits = λ s k z h b. let e : n + suc (suc (suc k)) ≡ n + 3
      + k = omega arith in subst (λ i. BaseAt (whole (ItemRange g d c s)) i z) e
      (o.fits (ItemRange g d c s) (suc (suc (suc k))) z (omega (arith, h)) b);
  sets = λ s k z h. let e : n + 3 + k ≡ n
      + suc (suc (suc k)) = omega arith in ap (λ i. based_at (whole (ItemRange g d c s)) i z) e
      ∙ o.sets (ItemRange g d c s) (suc (suc (suc k))) z (omega (arith, h));
}

pub inner_hole : (whole : Noted → Noted) (n : ℕ) (x : Width) → Hole whole n
    → Hole (λ s. whole (Optional x s)) (n + 2)
inner_hole whole n x o = record {
  kind = λ s k h. let e : n + 2 + k ≡ n
      + suc (suc k) = omega arith in ap (λ i. whole_at (whole (Optional x s)) i) e
      ∙ o.kind (Optional x s) (suc (suc k)) (omega (arith, h));
  fits = λ s k z h b. let e : n + suc (suc k) ≡ n + 2
      + k = omega arith in subst (λ i. BaseAt (whole (Optional x s)) i z) e
      (o.fits (Optional x s) (suc (suc k)) z (omega (arith, h)) b);
  sets = λ s k z h. let e : n + 2 + k ≡ n
      + suc (suc k) = omega arith in ap (λ i. based_at (whole (Optional x s)) i z) e
      ∙ o.sets (Optional x s) (suc (suc k)) z (omega (arith, h));
}

pub fields_hole : (whole : Noted → Noted) (n : ℕ) → Hole whole n
    → FieldsHole (λ ls. whole (Struct ls)) (n + 1)
fields_hole whole n o = record {
  kind = λ s k h. let e : n + 1 + k ≡ n + suc k = omega arith in ap (λ i. whole_at (whole (Struct s)) i) e
      ∙ o.kind (Struct s) (suc k) (omega (arith, h));
  fits = λ s k z h b. let e : n + suc k ≡ n + 1
      + k = omega arith in subst (λ i. BaseAt (whole (Struct s)) i z) e
      (o.fits (Struct s) (suc k) z (omega (arith, h)) b);
  sets = λ s k z h. let e : n + 1 + k ≡ n + suc k = omega arith in ap (λ i. based_at (whole (Struct s)) i z) e
      ∙ o.sets (Struct s) (suc k) z (omega (arith, h));
}

first_kind : (id : ℕ) (s : Noted) (ls : AllNoted) (k : ℕ) → k < nodes s → whole_among (Field id s ls) k
    ≡ whole_at s k
first_kind id s ls k h = let t = below_test k (nodes s) h in rw t refl

first_set : (id : ℕ) (s : Noted) (ls : AllNoted) (k : ℕ) (z : ℤ) → k < nodes s
    → all_based_at (Field id s ls) k z ≡ Field id (based_at s k z) ls
first_set id s ls k z h = let t = below_test k (nodes s) h in rw t refl

pub first_hole : (whole : AllNoted → Noted) (n id : ℕ) (ls : AllNoted) → FieldsHole whole n
    → Hole (λ s. whole (Field id s ls)) n
first_hole whole n id ls o = record {
  kind = λ s k h. o.kind (Field id s ls) k (omega (arith, h)) ∙ first_kind id s ls k h;
  fits = λ s k z h b. o.fits (Field id s ls) k z (omega (arith, h)) (inl (h, b));
  sets = λ s k z h. o.sets (Field id s ls) k z (omega (arith, h)) ∙ ap whole (first_set id s ls k z h);
}

later_kind : (id : ℕ) (l : Noted) (s : AllNoted) (k : ℕ) → whole_among (Field id l s) (nodes l + k)
    ≡ whole_among s k
later_kind id l s k =
    let t = above_test (nodes l + k) (nodes l) (omega arith) in
    let e : nodes l + k - nodes l ≡ k = omega arith in
    rw t (ap (λ i. whole_among s i) e)

later_set : (id : ℕ) (l : Noted) (s : AllNoted) (k : ℕ) (z : ℤ) → all_based_at (Field id l s) (nodes l + k) z
    ≡ Field id l (all_based_at s k z)
later_set id l s k z =
    let t = above_test (nodes l + k) (nodes l) (omega arith) in
    let e : nodes l + k - nodes l ≡ k = omega arith in
    rw t (ap (λ i. Field id l (all_based_at s i z)) e)

pub later_hole : (whole : AllNoted → Noted) (n id : ℕ) (l : Noted) → FieldsHole whole n
    → FieldsHole (λ s. whole (Field id l s)) (n + nodes l)
later_hole whole n id l o = record {
  kind = λ s k h. let e : n + nodes l + k ≡ n
      + (nodes l + k) = omega arith in ap (λ i. whole_at (whole (Field id l s)) i) e
      ∙ o.kind (Field id l s) (nodes l + k) (omega (arith, h)) ∙ later_kind id l s k;
  fits = λ s k z h b.
      let e : n + (nodes l + k) ≡ n + nodes l + k = omega arith in
      let f : k ≡ nodes l + k - nodes l = omega arith in
      subst (λ i. BaseAt (whole (Field id l s)) i z) e
      (o.fits (Field id l s) (nodes l + k) z (omega (arith, h))
      (inr (omega arith, subst (λ i. BaseAmong s i z) f b)));
  sets = λ s k z h. let e : n + nodes l + k ≡ n
      + (nodes l + k) = omega arith in ap (λ i. based_at (whole (Field id l s)) i z) e
      ∙ o.sets (Field id l s) (nodes l + k) z (omega (arith, h)) ∙ ap whole (later_set id l s k z);
}
