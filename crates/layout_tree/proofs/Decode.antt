-- A tree is the one that its nodes list.
use Rattle.std.proofs.Common.{◌≡◌, ℕ, suc, ◌+◌, ◌<◌, List, [], ◌∷◌, ◌++◌, true, false, ◌==◌, arith, refl, ap}
use Rattle.std.proofs.Common.{sym, ◌∙◌, append_assoc, subst, unsigned_abs, pos}
use Rattle.std.proofs.lemmas.List.{append-nil}
use Rattle.std.proofs.lemmas.Bool.Decides.{nat_tests}
use Rattle.frozen_model.specs.Trees.{I8, I16, I32, I64, LeafKind, Flag, Integer, ByteKind, Text, Binary}
use Rattle.frozen_model.specs.Trees.{Holder, AList, ASet, AMap, Leaf, ByteRange, ItemRange, Optional, Struct}
use Rattle.frozen_model.specs.Trees.{NoField, Field, nodes, nodes_all}
use Rattle.layout_tree.specs.declared.node.NodeSpec.{NodeSpec}
use Rattle.layout_tree.specs.declared.node.Kind.{Kind}
use Rattle.layout_tree.specs.declared.node.Kind.TheVariants as kinds
use Rattle.layout_tree.specs.Listing.{Width, LeafWidths, Noted, AllNoted, inline, inline_all, kind_of}
use Rattle.layout_tree.specs.Listing.{kind_of_bytes, kind_of_holder, item_struct, spec, size, nodes_of}
use Rattle.layout_tree.specs.Listing.{nodes_of_all, Read, Size, Known, Entry, kids, past_kids, leaf_of}
use Rattle.layout_tree.specs.Listing.{fields_of, built, entries, first_tree, tree_of, all_nodes}
use Rattle.layout_tree.specs.Segments.{IsStructKind}

pub item_is_struct : (h : Holder) → IsStructKind (item_struct h)
item_is_struct AList = tt
item_is_struct ASet = tt
item_is_struct AMap = tt

abbrev pub AllParent : ℕ → List Entry → Type 0
AllParent i [] = Unit {0}
AllParent i (e ∷ es) = (e.parent ≡ i) × AllParent i es

abbrev pub Apart : ℕ → List Entry → Type 0
Apart i [] = Unit {0}
Apart i (e ∷ es) = e.parent < i

apart_above : (i j : ℕ) (es : List Entry) → i < suc j → Apart i es → Apart j es
apart_above i j [] h a = tt
apart_above i j (e ∷ es) h a = omega arith

same_test : (m n : ℕ) → m ≡ n → (m == n) ≡ true
same_test m n h = grind (arith, nat_tests)

other_test : (m n : ℕ) → m < n → (m == n) ≡ false
other_test m n h = grind (arith, nat_tests)

kids_none : (i : ℕ) (es : List Entry) → Apart i es → (kids i es ≡ []) × (past_kids i es ≡ es)
kids_none i [] a = (refl, refl)
kids_none i (e ∷ es) a = let t = other_test e.parent i a in (rw t refl, rw t refl)

kids_mine : (i : ℕ) (mine rest : List Entry) → AllParent i mine → Apart i rest
    → (kids i (mine ++ rest) ≡ mine) × (past_kids i (mine ++ rest) ≡ rest)
kids_mine i [] rest p a = kids_none i rest a
kids_mine i (e ∷ es) rest p a =
    let t = same_test e.parent i p.0 in
    let ih = kids_mine i es rest p.1 a in
    (rw (t, ih.0) refl, rw (t, ih.1) refl)

abbrev entry : ℕ → ℕ → Read → Entry
entry p f r = record { parent = p; field = f; read = r }

step : (i : ℕ) (s : NodeSpec) (ss : List NodeSpec) (mine rest : List Entry) → entries (suc i) ss ≡ mine
    ++ rest → AllParent i mine → Apart i rest
    → entries i (s ∷ ss) ≡ entry s.parent (unsigned_abs s.field) (built s.kind (leaf_of s) mine) ∷ rest
step i s ss mine rest e p a =
    let k = kids_mine i mine rest p a in
    rw (e, k.0, k.1) refl

abbrev parts : ℕ → AllNoted → List Entry
parts p NoField = []
parts p (Field id l ls) = entry p id (Known l) ∷ parts p ls

parts_are : (p : ℕ) (ls : AllNoted) → (fields_of (parts p ls) ≡ ls) × AllParent p (parts p ls)
parts_are p NoField = (refl, tt)
parts_are p (Field id l ls) = let ih = parts_are p ls in (ap (Field id l) ih.0, (refl, ih.1))

parts_apart : (p i : ℕ) (ls : AllNoted) (rest : List Entry) → p < i → Apart p rest
    → Apart i (parts p ls ++ rest)
parts_apart p i NoField rest h a = apart_above p i rest (omega arith) a
parts_apart p i (Field id l ls) rest h a = h

built_leaf : (k : LeafKind) (c : LeafWidths) → built (kind_of k) c [] ≡ Known (Leaf k c)
built_leaf Flag c = refl
built_leaf (Integer I8) c = refl
built_leaf (Integer I16) c = refl
built_leaf (Integer I32) c = refl
built_leaf (Integer I64) c = refl

built_bytes : (t : ByteKind) (x : LeafWidths) (d c : Width) (i : ℕ)
    → built (kind_of_bytes t) x (entry i 1 (Size d) ∷ entry i 2 (Size c) ∷ []) ≡ Known (ByteRange t d c)
built_bytes Text x d c i = refl
built_bytes Binary x d c i = refl

built_range : (h : Holder) (x : LeafWidths) (d c : Width) (l : Noted) (i : ℕ)
    → built (kind_of_holder h) x (entry i 1 (Size d) ∷ entry i 2 (Size c) ∷ entry i 3 (Known l) ∷ [])
    ≡ Known (ItemRange h d c l)
built_range AList x d c l i = refl
built_range ASet x d c l i = refl
built_range AMap x d c l i = refl

built_struct : (k : Kind) → IsStructKind k → (x : LeafWidths) (es : List Entry) → built k x es
    ≡ Known (Struct (fields_of es))
built_struct kinds.Struct h x es = refl
built_struct kinds.Pair h x es = refl
built_struct kinds.Flag h x es = absurd h
built_struct kinds.I8 h x es = absurd h
built_struct kinds.I16 h x es = absurd h
built_struct kinds.I32 h x es = absurd h
built_struct kinds.I64 h x es = absurd h
built_struct kinds.Text h x es = absurd h
built_struct kinds.Bytes h x es = absurd h
built_struct kinds.List h x es = absurd h
built_struct kinds.Set h x es = absurd h
built_struct kinds.Map h x es = absurd h
built_struct kinds.Optional h x es = absurd h
built_struct kinds.Size h x es = absurd h

mutual
  pub decode : (t : Noted) (sk : Kind) → IsStructKind sk → (i p f o j : ℕ) (rest : List NodeSpec) → j
      ≡ nodes t + i → Apart i (entries j rest)
      → entries i (nodes_of t sk i p f o ++ rest) ≡ entry p f (Known t) ∷ entries j rest
  decode (Leaf k c) sk hk i p f o j rest e a =
      let e' : j ≡ suc i = omega arith in
      step i (spec (kind_of k) f p c.bits c.wide o c.base) rest [] (entries j rest)
      (ap (λ n. entries n rest) (sym e')) tt a ∙ ap (λ r. entry p f r ∷ entries j rest) (built_leaf k c)
  decode (ByteRange t d c) sk hk i p f o j rest e a =
      let e' : j ≡ suc (suc (suc i)) = omega arith in
      let r = entries j rest in
      let n0 = spec (kind_of_bytes t) f p (d.bits + c.bits) (suc (suc (suc i))) o (pos 0) in
      let n1 = size 1 i d 0 in
      let n2 = size 2 i c d.bits in
      let s2 = step (suc (suc i)) n2 rest [] r (ap (λ n. entries n rest) (sym e')) tt
      (apart_above i (suc (suc i)) r (omega arith) a) in
      let s1 = step (suc i) n1 (n2 ∷ rest) [] (entry i 2 (Size c) ∷ r) s2 tt (omega arith) in
      step i n0 (n1 ∷ n2 ∷ rest) (entry i 1 (Size d) ∷ entry i 2 (Size c) ∷ []) r s1 (refl, (refl, tt)) a
      ∙ ap (λ x. entry p f x ∷ r) (built_bytes t (leaf_of n0) d c i)
  decode (ItemRange g d c l) sk hk i p f o j rest e a =
      let r = entries j rest in
      let n0 = spec (kind_of_holder g) f p (d.bits + c.bits) (suc (suc (suc i)) + nodes l) o (pos 0) in
      let n1 = size 1 i d 0 in
      let n2 = size 2 i c d.bits in
      let ns = nodes_of l (item_struct g) (suc (suc (suc i))) i 3 0 ++ rest in
      let s3 = decode l (item_struct g) (item_is_struct g) (suc (suc (suc i))) i 3 0 j rest (omega arith)
      (apart_above i (suc (suc (suc i))) r (omega arith) a) in
      let s2 = step (suc (suc i)) n2 ns [] (entry i 3 (Known l) ∷ r) s3 tt (omega arith) in
      let s1 = step (suc i) n1 (n2 ∷ ns) [] (entry i 2 (Size c) ∷ entry i 3 (Known l) ∷ r) s2 tt
      (omega arith) in
      step i n0 (n1 ∷ n2 ∷ ns) (entry i 1 (Size d) ∷ entry i 2 (Size c) ∷ entry i 3 (Known l) ∷ []) r s1
      (refl, (refl, (refl, tt))) a ∙ ap (λ x. entry p f x ∷ r) (built_range g (leaf_of n0) d c l i)
  decode (Optional w l) sk hk i p f o j rest e a =
      let r = entries j rest in
      let n0 = spec kinds.Optional f p (w.bits + inline l) (suc (suc i) + nodes l) o (pos 0) in
      let n1 = spec kinds.Flag 1 i w.bits w.wide 0 (pos 0) in
      let ns = nodes_of l kinds.Struct (suc (suc i)) i 2 w.bits ++ rest in
      let s2 = decode l kinds.Struct tt (suc (suc i)) i 2 w.bits j rest (omega arith)
      (apart_above i (suc (suc i)) r (omega arith) a) in
      let s1 = step (suc i) n1 ns [] (entry i 2 (Known l) ∷ r) s2 tt (omega arith) in
      step i n0 (n1 ∷ ns) (entry i 1 (Known (Leaf Flag (leaf_of n1))) ∷ entry i 2 (Known l) ∷ []) r s1
      (refl, (refl, tt)) a
  decode (Struct ls) sk hk i p f o j rest e a =
      let r = entries j rest in
      let n0 = spec sk f p (inline_all ls) (suc i + nodes_all ls) o (pos 0) in
      let s1 = decode_all ls (suc i) i 0 j rest (omega arith) (omega arith) a in
      let are = parts_are i ls in
      step i n0 (nodes_of_all ls (suc i) i 0 ++ rest) (parts i ls) r s1 are.1 a
      ∙ ap (λ x. entry p f x ∷ r) (built_struct sk hk (leaf_of n0) (parts i ls)
      ∙ ap (λ x. Known (Struct x)) are.0)

  pub decode_all : (ls : AllNoted) (i p o j : ℕ) (rest : List NodeSpec) → p < i → j ≡ nodes_all ls + i
      → Apart p (entries j rest)
      → entries i (nodes_of_all ls i p o ++ rest) ≡ parts p ls ++ entries j rest
  decode_all NoField i p o j rest lt e a = let e' : j ≡ i = omega arith in ap (λ n. entries n rest) (sym e')
  decode_all (Field id l ls) i p o j rest lt e a =
      let r = entries j rest in
      let more = decode_all ls (i + nodes l) p (o + inline l) j rest (omega arith) (omega arith) a in
      let apart : Apart i (entries (i + nodes l)
      (nodes_of_all ls (i + nodes l) p (o + inline l) ++ rest)) = subst (Apart i) (sym more)
      (parts_apart p i ls r lt a) in
      ap (entries i) (append_assoc (nodes_of l kinds.Struct i p id o)
      (nodes_of_all ls (i + nodes l) p (o + inline l)) rest)
      ∙ decode l kinds.Struct tt i p id o (i + nodes l)
      (nodes_of_all ls (i + nodes l) p (o + inline l) ++ rest) (omega arith) apart
      ∙ ap (λ x. entry p id (Known l) ∷ x) more

-- a tree is the one that its nodes list
pub tree_again : (t : Noted) → tree_of (all_nodes t) ≡ t
unfolding tree_of
tree_again t =
    let all : entries 0 (all_nodes t ++ []) ≡ entry 0 0 (Known t)
    ∷ [] = decode t kinds.Struct tt 0 0 0 0 (nodes t + 0) [] refl tt in
    ap (λ ns. first_tree (entries 0 ns)) (sym (append-nil (all_nodes t))) ∙ ap first_tree all
