-- What is behind a node in a list that is shown, by the calls that read it.
use Rattle.std.proofs.Common.{◌≡◌, ◌⊎◌, inl, inr, ℕ, zero, suc, ◌+◌, ◌-◌, ◌<◌, ◌≤◌, Bool, if◌then◌else◌, false, true, ◌==◌, List, [], ◌∷◌, ◌++◌, arith, refl, ap, sym, ◌∙◌, subst, length, map, drop, slice_get, Some, length-append}
use Rattle.std.proofs.lemmas.List.{map-append, length-map, drop-drop}
use Rattle.std.proofs.Math.Seq.{drop-append_seam, drop-append-add}
use Rattle.std.proofs.lemmas.Bool.Decides.{nat_tests}
use Rattle.frozen_model.specs.Trees.{Text, Binary, AList, ASet, AMap, Leaf, ByteRange, ItemRange, Optional, Struct, nodes, Part}
use Rattle.frozen_model.specs.Values.{NoValue, And, count}
use Rattle.typed_tree.specs.Spots.{pair}
use Rattle.layout_tree.specs.declared.layouts.Layouts.{Layouts}
use Rattle.layout_tree.specs.declared.node.NodeSpec.{NodeSpec}
use Rattle.layout_tree.specs.declared.node.Kind.{Kind}
use Rattle.layout_tree.specs.declared.node.Kind.TheVariants as kinds
use Rattle.layout_tree.specs.Listing.{Noted, nodes_of, all_nodes, sub, version_of}
use Rattle.layout_tree.specs.Given.{shown}
use Rattle.layout_tree.specs.Nodes.{noted_in, IsNode, IsNumber, at, listed}
use Rattle.layout_tree.specs.Segments.{IsStructKind, head_node, rest_nodes}
use Rattle.layout_tree.proofs.Settling.{split_nodes}
use Rattle.layout_tree.proofs.Subs.{sub_is}
use Rattle.layout_tree.proofs.Place.{place, length_nodes}
use Rattle.layout_tree.proofs.Numbers.{IsLone}
use Rattle.layout_tree.proofs.Readings.{same_nodes}
use Rattle.layout_schema.specs.Schemas.{number, child_value, children_of}
use Rattle.layout_schema.proofs.Spots.{Childless, Spot, PartOf, spot_in, nodes_below}

-- ---- lists

pub shown_childless : (n : ℕ) (xs : List NodeSpec) → Childless n xs → Childless n (map shown xs)
shown_childless n [] h = tt
shown_childless n (x ∷ xs) h = (h.0, shown_childless n xs h.1)

pub other_test : (m n : ℕ) → (m ≡ n → ⊥) → (m == n) ≡ false
other_test m n h = grind (arith, nat_tests)

pub same_test : (m n : ℕ) → m ≡ n → (m == n) ≡ true
same_test m n h = grind (arith, nat_tests)

pub children_past : (p n : ℕ) (xs rest : List NodeSpec) → Childless p xs → children_of p n (xs ++ rest) ≡ children_of p (n + length xs) rest
children_past p n [] rest h = let e : n ≡ n + 0 = omega arith in ap (λ k. children_of p k rest) e
children_past p n (x ∷ xs) rest h =
    let t = other_test x.parent p h.0 in
    let e : suc n + length xs ≡ n + suc (length xs) = omega arith in
    rw t (children_past p (suc n) xs rest h.1 ∙ ap (λ k. children_of p k rest) e)

pub children_none : (p n : ℕ) (xs : List NodeSpec) → Childless p xs → children_of p n xs ≡ NoValue
children_none p n [] h = refl
children_none p n (x ∷ xs) h = let t = other_test x.parent p h.0 in rw t (children_none p (suc n) xs h.1)

pub few_children : (p n : ℕ) (xs : List NodeSpec) → count (children_of p n xs) ≤ length xs
few_children p n [] = omega arith
few_children p n (x ∷ xs) = go (x.parent == p) (few_children p (suc n) xs)
  where
    go : (b : Bool) → count (children_of p (suc n) xs) ≤ length xs
        → count (if b then And (pair (number x.field) (child_value n x)) (children_of p (suc n) xs) else children_of p (suc n) xs) ≤ suc (length xs)
    go true h = omega (arith, h)
    go false h = omega (arith, h)

pub drop_get : {A : Type 0} (xs : List A) (n : ℕ) (x : A) → slice_get xs n ≡ Some x → drop n xs ≡ x ∷ drop (suc n) xs
drop_get [] n x e = absurd cc
drop_get (y ∷ ys) zero x e = cc
drop_get (y ∷ ys) (suc n) x e = drop_get ys n x e

-- ---- behind a node

-- the nodes from the number n on: the node, those below it, and from the number past on those behind
pub record Behind (xs : List NodeSpec) (n past : ℕ) : Type 0 where
  pub node : NodeSpec
  pub inside : List NodeSpec
  pub post : List NodeSpec
  pub here : drop n xs ≡ node ∷ (inside ++ post)
  pub later : drop past xs ≡ post
  pub ends : past ≡ suc n + length inside
  pub within : past ≤ length xs
  pub below : (m : ℕ) → m < n → Childless m inside
  pub apart : Childless n post

behind_spot : {R : Noted → Type 0} (ns : List NodeSpec) (n past : ℕ) (s : Spot R ns 0 n) → past ≡ n + suc (length s.inside) → Behind (map shown ns) n past
behind_spot ns n past s e =
    let pre = map shown s.pre in
    let inside = map shown s.inside in
    let post = map shown s.post in
    let whole : map shown ns ≡ pre ++ (shown s.node ∷ (inside ++ post)) =
    ap (map shown) s.whole ∙ map-append shown s.pre (s.node ∷ (s.inside ++ s.post)) ∙ ap (λ r. pre ++ (shown s.node ∷ r)) (map-append shown s.inside s.post) in
    let long : length pre ≡ n = omega (arith, length-map s.pre shown, s.long) in
    let wide : length inside ≡ length s.inside = length-map s.inside shown in
    let front : length (shown s.node ∷ inside) ≡ suc (length s.inside) = omega (arith, wide) in
    let there : past ≡ length pre + length (shown s.node ∷ inside) = omega (arith, e, long, front) in
    record {
      node = shown s.node;
      inside = inside;
      post = post;
      here = ap (λ k. drop k (map shown ns)) (sym long) ∙ ap (drop (length pre)) whole ∙ drop-append_seam pre (shown s.node ∷ (inside ++ post));
      later = ap (λ k. drop k (map shown ns)) there ∙ ap (drop (length pre + length (shown s.node ∷ inside))) whole
          ∙ drop-append-add pre (shown s.node ∷ (inside ++ post)) (length (shown s.node ∷ inside))
          ∙ drop-append_seam (shown s.node ∷ inside) post;
      ends = omega (arith, e, wide);
      within = omega (arith, ap length whole, length-append pre (shown s.node ∷ (inside ++ post)), length-append inside post, there, front, wide);
      below = λ m lt. shown_childless m s.inside (s.below m lt);
      apart = shown_childless n s.post s.apart;
    }

-- ---- the number past a node

lone_struct : (k : Kind) → IsStructKind k → IsLone k → ⊥
lone_struct kinds.Struct h l = l
lone_struct kinds.Pair h l = l
lone_struct kinds.Flag h l = h
lone_struct kinds.I8 h l = h
lone_struct kinds.I16 h l = h
lone_struct kinds.I32 h l = h
lone_struct kinds.I64 h l = h
lone_struct kinds.Text h l = h
lone_struct kinds.Bytes h l = h
lone_struct kinds.List h l = h
lone_struct kinds.Set h l = h
lone_struct kinds.Map h l = h
lone_struct kinds.Optional h l = h
lone_struct kinds.Size h l = h

lone_size : (s : Noted) (k : Kind) (n p f o : ℕ) → IsStructKind k → IsLone (head_node s k n p f o).kind → nodes s ≡ 1
lone_size (Leaf j c) k n p f o h l = refl
lone_size (ByteRange Text d c) k n p f o h l = absurd l
lone_size (ByteRange Binary d c) k n p f o h l = absurd l
lone_size (ItemRange AList d c m) k n p f o h l = absurd l
lone_size (ItemRange ASet d c m) k n p f o h l = absurd l
lone_size (ItemRange AMap d c m) k n p f o h l = absurd l
lone_size (Optional w m) k n p f o h l = absurd l
lone_size (Struct ls) k n p f o h l = absurd (lone_struct k h l)

-- a part whose first node is such is that node alone
lone_part : {R : Noted → Type 0} (t s : Noted) (n : ℕ) (x : Spot R (all_nodes t) 0 n) → IsLone x.node.kind → Part t 0 s n → nodes s ≡ 1
lone_part t s n x lone p =
    let a = place p kinds.Struct tt 0 0 0 in
    let mine = nodes_of s a.kind n a.parent a.field a.offset in
    let h = head_node s a.kind n a.parent a.field a.offset in
    let ea : length a.pre ≡ n = omega (arith, a.long) in
    let ex : length x.pre ≡ n = omega (arith, x.long) in
    let one : drop n (all_nodes t) ≡ h ∷ (rest_nodes s n ++ a.post) =
    ap (λ k. drop k (all_nodes t)) (sym ea) ∙ ap (drop (length a.pre)) a.whole ∙ drop-append_seam a.pre (mine ++ a.post)
    ∙ ap (λ r. r ++ a.post) (split_nodes s a.kind n a.parent a.field a.offset) in
    let two : drop n (all_nodes t) ≡ x.node ∷ (x.inside ++ x.post) =
    ap (λ k. drop k (all_nodes t)) (sym ex) ∙ ap (drop (length x.pre)) x.whole ∙ drop-append_seam x.pre (x.node ∷ (x.inside ++ x.post)) in
    let same : x.node ≡ h = cc in
    lone_size s a.kind n a.parent a.field a.offset a.struct (subst (λ (y : NodeSpec). IsLone y.kind) same lone)

same_or : (m n : ℕ) → (m ≡ n) ⊎ (m ≡ n → ⊥)
same_or zero zero = inl refl
same_or zero (suc n) = inr (λ e. omega arith)
same_or (suc m) zero = inr (λ e. omega arith)
same_or (suc m) (suc n) = elim (same_or m n) [ inl e ↦ inl (ap suc e) | inr h ↦ inr (λ e. h (omega arith)) ]

-- what `past` says of a number
past_spot : (l : Layouts) (n past : ℕ) (s : Spot (λ (x : Noted). Part (noted_in l) 0 x n) (all_nodes (noted_in l)) 0 n)
    → (IsNode l n → past ≡ n + nodes (at l n)) → ((IsNode l n → ⊥) → past ≡ n + 1) → past ≡ n + suc (length s.inside)
past_spot l n past s part other = go s.part
  where
    go : PartOf (λ (x : Noted). Part (noted_in l) 0 x n) n s.inside ⊎ (IsLone s.node.kind × (s.inside ≡ [])) → past ≡ n + suc (length s.inside)
    go (inl h) =
        let e = sub_is h.is in
        part (subst (λ (x : Noted). Part (noted_in l) 0 x n) (sym e) h.is)
        ∙ ap (λ m. n + m) (same_nodes (version_of l.version) (sub (noted_in l) n) ∙ ap nodes e ∙ nodes_below h.here n ∙ ap (λ r. suc (length r)) (sym h.rest))
    go (inr h) =
        let one : n + 1 ≡ n + suc (length s.inside) = omega (arith, ap length h.1) in
        elim (same_or past (n + 1)) [
          | inl e ↦ e ∙ one
          | inr ne ↦ other (λ q. ne (part q ∙ ap (λ m. n + m) (same_nodes (version_of l.version) (sub (noted_in l) n) ∙ lone_part (noted_in l) (sub (noted_in l) n) n s h.0 q))) ∙ one
        ]

-- what is behind a number, where past is what `past` gives
pub behind : (l : Layouts) (n past : ℕ) → IsNumber l n
    → (IsNode l n → past ≡ n + nodes (at l n)) → ((IsNode l n → ⊥) → past ≡ n + 1) → Behind (listed l) n past
behind l n past lt part other =
    let s = spot_in (noted_in l) n lt in
    behind_spot (all_nodes (noted_in l)) n past s (past_spot l n past s part other)

-- ---- steps from child to child

childless_drop : (n k : ℕ) (xs : List NodeSpec) → Childless n xs → Childless n (drop k xs)
childless_drop n zero xs h = h
childless_drop n (suc k) [] h = tt
childless_drop n (suc k) (x ∷ xs) h = childless_drop n k xs h.1

-- no children are behind the nodes below a node
pub no_more : (xs : List NodeSpec) (n past k : ℕ) → Behind xs n past → past ≤ k → children_of n k (drop k xs) ≡ NoValue
no_more xs n past k b le =
    let e : k ≡ past + (k - past) = omega arith in
    children_none n k (drop k xs)
    (subst (Childless n) (ap (drop (k - past)) (sym b.later) ∙ drop-drop (k - past) past xs ∙ ap (λ m. drop m xs) (sym e)) (childless_drop n (k - past) b.post b.apart))

module _ (xs : List NodeSpec) (n c past : ℕ) (b : Behind xs c past) (lt : n < c) (x : NodeSpec) (is : slice_get xs c ≡ Some x) where
  first : drop c xs ≡ x ∷ (b.inside ++ b.post)
  first = let e = drop_get xs c x is in let h = b.here in let same : x ≡ b.node = cc in b.here ∙ ap (λ y. y ∷ (b.inside ++ b.post)) (sym same)

  rest : children_of n (suc c) (b.inside ++ b.post) ≡ children_of n past (drop past xs)
  rest =
      children_past n (suc c) b.inside b.post (b.below n lt) ∙ ap (λ k. children_of n k b.post) (sym b.ends) ∙ ap (children_of n past) (sym b.later)

  pub mine : x.parent ≡ n → children_of n c (drop c xs) ≡ And (pair (number x.field) (child_value c x)) (children_of n past (drop past xs))
  mine e = let t = same_test x.parent n e in ap (children_of n c) first ∙ rw t (ap (And (pair (number x.field) (child_value c x))) rest)

  pub theirs : (x.parent ≡ n → ⊥) → children_of n c (drop c xs) ≡ children_of n past (drop past xs)
  theirs e = let t = other_test x.parent n e in ap (children_of n c) first ∙ rw t rest

pub listed_length : (l : Layouts) → length (listed l) ≡ nodes (noted_in l)
listed_length l = length-map (all_nodes (noted_in l)) shown ∙ length_nodes (noted_in l) kinds.Struct 0 0 0 0
