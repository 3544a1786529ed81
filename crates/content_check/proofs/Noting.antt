-- Facts by node.
use Rattle.std.proofs.Common.{◌≡◌, ℕ, zero, suc, ◌+◌, ◌≤◌, ◌<◌, List, [], ◌∷◌, length, get_or, map, slice_get}
use Rattle.std.proofs.Common.{slice_set, arith, refl, ap, sym, ◌∙◌, subst, ◌⊎◌, inl, inr, Some, true}
use Rattle.std.proofs.Math.Nat.{eq-or-lt_of_le}
use Rattle.std.proofs.lemmas.Option.{slice_get-get_or, get_or_from_slice_get, slice_get_within}
use Rattle.std.proofs.lemmas.List.{get_or-set_other, length-set}
use Rattle.std.proofs.lemmas.Grind.{get_or-set_at}
use Rattle.layout_tree.specs.declared.layouts.Layouts.{Layouts}
use Rattle.layout_tree.specs.Nodes.{IsNode, at}
use Rattle.content_check.specs.declared.facts.Facts.{Facts}
use Rattle.layout_tree.specs.declared.node.NodeSpec.{NodeSpec}
use Rattle.layout_tree.specs.declared.node.Kind.{Kind}
use Rattle.layout_tree.specs.declared.node.Kind.TheVariants as kinds
use Rattle.layout_tree.specs.Given.{shown}
use Rattle.layout_tree.specs.Reading.{plain, kind_at, IsLeaf}
use Rattle.frozen_model.specs.Trees.{Leaf, ByteRange, ItemRange, Optional, Struct}
use Rattle.frozen_model.specs.Values.{inline_cells}
use Rattle.frozen_model.specs.Layouts.{Layout}
use Rattle.content_check.specs.Facts.{IsFactsOf, HasFacts}
use Rattle.content_check.proofs.Parts.{IsShape, shape, sure_flag}

-- a node that is shown is one of the list, of the same kind
pub record Kept (ns : List NodeSpec) (n : ℕ) (r : NodeSpec) : Type 0 where
  pub node : NodeSpec
  pub is : node ≡ get_or ns n node
  pub kind : node.kind ≡ r.kind

abbrev kind_in : NodeSpec → Kind
kind_in x = x.kind

pub kept : (ns : List NodeSpec) (n : ℕ) (r : NodeSpec) → slice_get (map shown ns) n ≡ Some r → Kept ns n r
kept [] n r e = absurd cc
kept (y ∷ ys) zero r e = let q : shown y ≡ r = cc in record { node = y; is = refl; kind = ap kind_in q }
kept (y ∷ ys) (suc n) r e = let k = kept ys n r e in record { node = k.node; is = k.is; kind = k.kind }

leaf_cells : (l : Layout) → IsLeaf l → 1 ≡ inline_cells l
leaf_cells (Leaf k c) h = refl
leaf_cells (ByteRange t d c) h = absurd h
leaf_cells (ItemRange g d c l) h = absurd h
leaf_cells (Optional w l) h = absurd h
leaf_cells (Struct ls) h = absurd h

-- a part whose node is a flag or a size is a flag
pub lone_facts : (l : Layout) (k : Kind) → plain k ≡ kind_at l → (k ≡ kinds.Flag) ⊎ (k ≡ kinds.Size)
    → IsFactsOf l (record {
      cells = 1;
      sure = true;
    })
lone_facts l k e (inl f) =
    let flag : kinds.Flag ≡ kind_at l = ap plain (sym f) ∙ e in
    record {
      cells = leaf_cells l (subst (λ z. IsShape (plain z) l) f (shape k l e));
      few = omega arith;
      sure = λ t. sure_flag l flag;
    }
lone_facts l k e (inr s) = absurd (subst (λ z. IsShape (plain z) l) s (shape k l e))

-- ---- facts that are noted one after another

at_set : (fs : List Facts) (i n : ℕ) (f : Facts) (l : Layout) → n ≡ i → i < length fs → IsFactsOf l f
    → HasFacts (slice_set fs i f) n l
at_set fs i n f l e h is =
    let long : n < length (slice_set fs i f) = omega (arith, h, e, length-set fs i f) in
    record {
      facts = f;
      there = slice_get-get_or (slice_set fs i f) n f long ∙ ap (λ x. Some x) (get_or-set_at fs i n f f e h);
      is = is;
    }

beside_set : (fs : List Facts) (i n : ℕ) (f : Facts) (l : Layout) → (n ≡ i → ⊥) → HasFacts fs n l
    → HasFacts (slice_set fs i f) n l
beside_set fs i n f l ne h =
    let long : n < length (slice_set fs i f) = omega
    (arith, slice_get_within fs n h.facts h.there, length-set fs i f) in
    let same = get_or-set_other fs i n f f ne ∙ get_or_from_slice_get fs n h.facts f h.there in
    record {
      facts = h.facts;
      there = slice_get-get_or (slice_set fs i f) n f long ∙ ap (λ x. Some x) same;
      is = h.is;
    }

pub noted : (y : Layouts) (fs : List Facts) (i : ℕ) (f : Facts) → i < length fs
    → (IsNode y i → IsFactsOf (at y i) f)
    → ((n : ℕ) → n < i → IsNode y n → HasFacts fs n (at y n)) → (n : ℕ) → n < i + 1 → IsNode y n
    → HasFacts (slice_set fs i f) n (at y n)
noted y fs i f h is old n lt p =
    let le : n ≤ i = omega (arith, lt) in
    elim (eq-or-lt_of_le le) [
      | inl e ↦ at_set fs i n f (at y n) e h (subst (λ m. IsFactsOf (at y m) f) (sym e)
          (is (subst (λ m. IsNode y m) e p)))
      | inr below ↦ beside_set fs i n f (at y n) (λ (e : n ≡ i). absurd (omega (arith, below, e)))
          (old n below p)
    ]

pub length_noted : (fs : List Facts) (i : ℕ) (f : Facts) → 4096 ≤ length fs → 4096 ≤ length (slice_set fs i f)
length_noted fs i f h = omega (arith, h, length-set fs i f)
