-- A value has one least layout of a version.
use Rattle.std.proofs.Common.{◌≡◌, ℕ, ◌≤◌, List, [], ◌∷◌, arith, refl, ap, sym, ◌∙◌, subst, ℤ}
use Rattle.std.specs.Prelude.{◌≤ℤ◌}
use Rattle.std.proofs.lemmas.Int.{ints}
use Rattle.frozen_model.specs.Trees.{LeafKind, Leaf, Struct, Leafwise, AllLeafwise, leaf, byte_range, item_range, optional, struct, no_field, field, Alike}
use Rattle.frozen_model.specs.Values.{Value}
use Rattle.frozen_model.specs.Layouts.{Version, IsCoded, flag_coded, signed_coded, based_coded, Coded, FromBase, Layout, Layouts, Described, OfVersion, Narrower, AllNarrower, width, with_width}
use Rattle.frozen_model.specs.Holding.{IsLeastOf, IsBasedOn, Least}
use Rattle.frozen_laws.proofs.Leafwise.{leafwise_chain, leafwise_flip, with_version}
use Rattle.frozen_laws.proofs.Leaves.{among_all}
use Rattle.frozen_laws.proofs.Passes.{puts_of_grow}
use Rattle.frozen_laws.proofs.Rests.{with_own}

least_once : (b b' : ℤ) (xs : List ℤ) → IsLeastOf b xs → IsLeastOf b' xs → b ≡ b'
least_once b b' [] h k = h ∙ sym k
least_once b b' (x ∷ xs) h k =
    let up : b ≤ℤ b' = among_all (λ (y : ℤ). b ≤ℤ y) b' (x ∷ xs) k.0 h.1 in
    let down : b' ≤ℤ b = among_all (λ (y : ℤ). b' ≤ℤ y) b (x ∷ xs) h.0 k.1 in
    omega (arith, ints)

-- leaves that differ in their widths at most
abbrev SameCoding : Coded → Coded → Type 0
SameCoding c d = with_width c (width d) ≡ d

same_coding : {n : Version} {k : LeafKind} {c d : Coded} (xs : List ℤ) → IsCoded n k c → IsCoded n k d → IsBasedOn c xs → IsBasedOn d xs → SameCoding c d
same_coding xs flag_coded flag_coded h i = refl
same_coding xs signed_coded signed_coded h i = refl
same_coding xs (based_coded {b = b} o) (based_coded {b = b'} {w = w} p) h i = ap (λ z. FromBase z w) (least_once b b' xs h i)

-- a leaf with its base, beside numbers
record BasedLeaf (n : Version) (k : LeafKind) (c : Coded) (xs : List ℤ) : Type 0 where
  coded : IsCoded n k c
  based : IsBasedOn c xs

same_leaf : (c d e f : Coded) → SameCoding c d → width d ≤ width e → width e ≤ width f → c ≡ e → d ≡ f → c ≡ d
same_leaf c d e f s h i p q =
    let widths : width c ≡ width d = omega (arith, ap width p, ap width q) in
    sym (with_own c) ∙ ap (with_width c) widths ∙ s

mutual
  same_trees : {l m x y : Layout} → Leafwise (λ (k : LeafKind) (c : Coded) (d : Coded). SameCoding c d) (λ (v : ℕ) (w : ℕ). Unit {0}) (λ (v : ℕ) (w : ℕ). Unit {0}) l m
      → Narrower m x → Narrower x y → l ≡ x → m ≡ y → l ≡ m
  same_trees (leaf {k = k} {a = c} {c = d} s) (leaf {c = e} h) (leaf {c = f} i) p q =
      let e1 : c ≡ e = cc in let e2 : d ≡ f = cc in ap (Leaf k) (same_leaf c d e f s h i e1 e2)
  same_trees (byte_range {d = a} {c = b} {d' = a'} {c' = b'} s t) (byte_range {d' = a2} {c' = b2} h i) (byte_range {d' = a3} {c' = b3} j k) p q =
      let e1 : a ≡ a2 = cc in let e2 : b ≡ b2 = cc in let e3 : a' ≡ a3 = cc in let e4 : b' ≡ b3 = cc in
      let f1 : a ≡ a' = omega arith in let f2 : b ≡ b' = omega arith in cc
  same_trees (item_range {d = a} {c = b} {d' = a'} {c' = b'} {l = l} {m = m} s t x) (item_range {d' = a2} {c' = b2} {m = l2} h i y) (item_range {d' = a3} {c' = b3} {m = m3} j k z) p q =
      let e1 : a ≡ a2 = cc in let e2 : b ≡ b2 = cc in let e3 : a' ≡ a3 = cc in let e4 : b' ≡ b3 = cc in
      let f1 : a ≡ a' = omega arith in let f2 : b ≡ b' = omega arith in let e5 : l ≡ l2 = cc in let e6 : m ≡ m3 = cc in let f3 : l ≡ m = same_trees x y z e5 e6 in cc
  same_trees (optional {w = a} {w' = a'} {l = l} {m = m} s x) (optional {w' = a2} {m = l2} h y) (optional {w' = a3} {m = m3} j z) p q =
      let e1 : a ≡ a2 = cc in let e3 : a' ≡ a3 = cc in
      let f1 : a ≡ a' = omega arith in let e5 : l ≡ l2 = cc in let e6 : m ≡ m3 = cc in let f3 : l ≡ m = same_trees x y z e5 e6 in cc
  same_trees (struct {ls = ls} {ms = ms} x) (struct {ms = ls2} y) (struct {ms = ms3} z) p q =
      let e1 : ls ≡ ls2 = cc in let e2 : ms ≡ ms3 = cc in ap Struct (all_same_trees x y z e1 e2)

  all_same_trees : {l m x y : Layouts} → AllLeafwise (λ (k : LeafKind) (c : Coded) (d : Coded). SameCoding c d) (λ (v : ℕ) (w : ℕ). Unit {0}) (λ (v : ℕ) (w : ℕ). Unit {0}) l m
      → AllNarrower m x → AllNarrower x y → l ≡ x → m ≡ y → l ≡ m
  all_same_trees no_field no_field no_field p q = refl
  all_same_trees (field {l = l} {m = m} {ls = ls} {ms = ms} x xs) (field {m = l2} {ms = ls2} y ys) (field {m = m3} {ms = ms3} z zs) p q =
      let e1 : l ≡ l2 = cc in let e2 : m ≡ m3 = cc in let e3 : ls ≡ ls2 = cc in let e4 : ms ≡ ms3 = cc in
      let f : l ≡ m = same_trees x y z e1 e2 in let g : ls ≡ ms = all_same_trees xs ys zs e3 e4 in cc

pub least_once_in : (d e : Described) (v : Value) → d.version ≡ e.version → Alike d.tree e.tree → Least d v → Least e v → d.tree ≡ e.tree
least_once_in d e v one_version same a b =
    let n = d.version in
    let coded : OfVersion n e.tree = subst (λ k. OfVersion k e.tree) (sym one_version) b.is_layout.layout.coded in
    let down : Narrower d.tree e.tree = a.least e.tree same coded b.holds in
    let up : Narrower e.tree d.tree = b.least d.tree (leafwise_flip same) (subst (λ k. OfVersion k d.tree) one_version a.is_layout.layout.coded) a.holds in
    let left = with_version n a.based a.is_layout.layout.coded in
    let right = leafwise_flip (with_version n b.based coded) in
    let half = leafwise_chain {R'' = λ (k : LeafKind) (c : Coded) (ys : List ℤ). BasedLeaf n k c ys} {S'' = λ (w : ℕ) (ns : List ℕ). Unit {0}} {T'' = λ (w : ℕ) (ns : List ℕ). Unit {0}}
    (λ k c xs ys h e. subst (λ zs. BasedLeaf n k c zs) e (record { coded = h.1; based = h.0 })) (λ w ms ns h e. tt) (λ w ms ns h e. tt) left (puts_of_grow a.holds.of_kind down) in
    let whole = leafwise_chain {R'' = λ (k : LeafKind) (c : Coded) (d : Coded). SameCoding c d} {S'' = λ (w : ℕ) (u : ℕ). Unit {0}} {T'' = λ (w : ℕ) (u : ℕ). Unit {0}}
    (λ k c ys d h i. same_coding ys h.coded i.1 h.based i.0) (λ w ns u h i. tt) (λ w ns u h i. tt) half right in
    same_trees whole up down refl refl
