-- The children of a node stand by rising field.
use Rattle.std.proofs.Common.{◌≡◌, ◌⊎◌, inl, inr, ℕ, suc, ◌+◌, ◌<◌, ℤ, pos, Bool, true, false, ◌==◌, if◌then◌else◌, List, [], ◌∷◌, ◌++◌, Option, Some, None, arith, refl, ap, sym, ◌∙◌, subst, map, drop, length, length-append, append_assoc}
use Rattle.std.specs.Prelude.{int_lt, option_map}
use Rattle.std.proofs.lemmas.Int.{ints}
use Rattle.std.proofs.lemmas.List.{append-nil, map-append, length-map}
use Rattle.std.proofs.Math.Seq.{drop-append_seam}
use Rattle.frozen_model.specs.Trees.{AMap, Leaf, ByteRange, ItemRange, Optional, Struct, NoField, Field, nodes, IsFormed, Rising, ids_of, Part}
use Rattle.frozen_model.specs.Values.{And, Rises}
use Rattle.typed_tree.specs.Spots.{pair}
use Rattle.layout_tree.specs.declared.node.NodeSpec.{NodeSpec}
use Rattle.layout_tree.specs.declared.node.Kind.{Kind}
use Rattle.layout_tree.specs.declared.node.Kind.TheVariants as kinds
use Rattle.layout_tree.specs.Listing.{Noted, AllNoted, inline, item_struct, nodes_of, nodes_of_all, all_nodes}
use Rattle.layout_tree.specs.Given.{shown}
use Rattle.layout_tree.specs.Segments.{head_node, rest_nodes}
use Rattle.layout_tree.proofs.Readings.{formed_part}
use Rattle.layout_tree.proofs.Settling.{split_nodes}
use Rattle.layout_tree.proofs.Numbers.{IsLone}
use Rattle.layout_schema.specs.Schemas.{number, child_value, children_of}
use Rattle.layout_schema.proofs.Spots.{Childless, Spot, PartOf, spot_in, below_others}
use Rattle.layout_schema.proofs.Places.{other_test, same_test}

-- ---- the fields of the children

-- the fields of the nodes with the parent p
abbrev pub fields_under : ℕ → List NodeSpec → List ℤ
fields_under p [] = []
fields_under p (s ∷ ss) = if s.parent == p then s.field ∷ fields_under p ss else fields_under p ss

fields_none : (p : ℕ) (xs : List NodeSpec) → Childless p xs → fields_under p xs ≡ []
fields_none p [] h = refl
fields_none p (x ∷ xs) h = let t = other_test x.parent p h.0 in rw t (fields_none p xs h.1)

fields_append : (p : ℕ) (xs ys : List NodeSpec) → fields_under p (xs ++ ys) ≡ fields_under p xs ++ fields_under p ys
fields_append p [] ys = refl
fields_append p (x ∷ xs) ys = go (x.parent == p) (fields_append p xs ys)
  where
    go : (b : Bool) → fields_under p (xs ++ ys) ≡ fields_under p xs ++ fields_under p ys
        → (if b then x.field ∷ fields_under p (xs ++ ys) else fields_under p (xs ++ ys)) ≡ (if b then x.field ∷ fields_under p xs else fields_under p xs) ++ fields_under p ys
    go true e = ap (λ r. x.field ∷ r) e
    go false e = e

fields_shown : (p : ℕ) (xs : List NodeSpec) → fields_under p (map shown xs) ≡ fields_under p xs
fields_shown p [] = refl
fields_shown p (x ∷ xs) = ap (λ r. if x.parent == p then x.field ∷ r else r) (fields_shown p xs)

-- the first node of a tree has this parent and field
head_is : (t : Noted) (sk : Kind) (i p f o : ℕ) → ((head_node t sk i p f o).parent ≡ p) × ((head_node t sk i p f o).field ≡ pos f)
head_is (Leaf k c) sk i p f o = (refl, refl)
head_is (ByteRange t d c) sk i p f o = (refl, refl)
head_is (ItemRange g d c l) sk i p f o = (refl, refl)
head_is (Optional w l) sk i p f o = (refl, refl)
head_is (Struct ls) sk i p f o = (refl, refl)

fields_of_tree : (t : Noted) (sk : Kind) (i p f o : ℕ) → p < i → fields_under p (nodes_of t sk i p f o) ≡ pos f ∷ []
fields_of_tree t sk i p f o lt =
    let h = head_is t sk i p f o in
    let t1 = same_test (head_node t sk i p f o).parent p h.0 in
    ap (fields_under p) (split_nodes t sk i p f o)
    ∙ rw (t1, h.1) (ap (λ r. pos f ∷ r) (fields_none p (rest_nodes t i) (below_others t i p lt)))

fields_of_all : (ls : AllNoted) (i p o : ℕ) → p < i → fields_under p (nodes_of_all ls i p o) ≡ map pos (ids_of ls)
fields_of_all NoField i p o lt = refl
fields_of_all (Field id l ls) i p o lt =
    fields_append p (nodes_of l kinds.Struct i p id o) (nodes_of_all ls (i + nodes l) p (o + inline l))
    ∙ ap (λ r. r ++ fields_under p (nodes_of_all ls (i + nodes l) p (o + inline l))) (fields_of_tree l kinds.Struct i p id o lt)
    ∙ ap (λ r. pos id ∷ r) (fields_of_all ls (i + nodes l) p (o + inline l) (omega arith))

-- ---- rising

abbrev pub Climbs : Option ℤ → List ℤ → Type 0
Climbs k [] = Unit {0}
Climbs None (z ∷ zs) = Climbs (Some z) zs
Climbs (Some k) (z ∷ zs) = (int_lt k z ≡ true) × Climbs (Some z) zs

pub below_is_less : (a b : ℕ) → a < b → int_lt (pos a) (pos b) ≡ true
below_is_less a b h = grind (arith, ints)

climbs_ids : (before : ℕ) (is : List ℕ) → Rising before is → Climbs (Some (pos before)) (map pos is)
climbs_ids before [] h = tt
climbs_ids before (i ∷ is) h = (below_is_less before i h.0, climbs_ids i is h.2)

climbs_any : (k : ℤ) (zs : List ℤ) → Climbs (Some k) zs → Climbs None zs
climbs_any k [] h = tt
climbs_any k (z ∷ zs) h = h.1

-- the fields below a node
climbs_below : (t : Noted) (n : ℕ) → IsFormed t → Climbs None (fields_under n (rest_nodes t n))
climbs_below (Leaf k c) n h = tt
climbs_below (ByteRange t d c) n h = let e = same_test n n refl in rw e (refl, tt)
climbs_below (ItemRange g d c l) n h =
    let e = same_test n n refl in
    let f = fields_of_tree l (item_struct g) (suc (suc (suc n))) n 3 0 (omega arith) in
    rw (e, f) (refl, (refl, tt))
climbs_below (Optional w l) n h =
    let e = same_test n n refl in
    let f = fields_of_tree l kinds.Struct (suc (suc n)) n 2 w.bits (omega arith) in
    rw (e, f) (refl, tt)
climbs_below (Struct ls) n h = rw (fields_of_all ls (suc n) n 0 (omega arith)) (climbs_any (pos 0) (map pos (ids_of ls)) (climbs_ids 0 (ids_of ls) h.0))

-- the fields of a node's children among those below it
climbs_inside : (t : Noted) (n : ℕ) (s : Spot (λ (s : Noted). Part t 0 s n) (all_nodes t) 0 n) → IsFormed t → Climbs None (fields_under n s.inside)
climbs_inside t n s formed = go s.part
  where
    go : PartOf (λ (s : Noted). Part t 0 s n) n s.inside ⊎ (IsLone s.node.kind × (s.inside ≡ [])) → Climbs None (fields_under n s.inside)
    go (inl h) = subst (λ r. Climbs None (fields_under n r)) (sym h.rest) (climbs_below h.here n (formed_part h.is formed))
    go (inr h) = subst (λ r. Climbs None (fields_under n r)) (sym h.1) tt

-- and among all that are behind it
pub climbs_at : (t : Noted) (n : ℕ) → IsFormed t → n < nodes t → Climbs None (fields_under n (drop (suc n) (map shown (all_nodes t))))
climbs_at t n formed lt =
    let s = spot_in t n lt in
    let front = map shown (s.pre ++ s.node ∷ []) in
    let behind = map shown (s.inside ++ s.post) in
    let whole : map shown (all_nodes t) ≡ front ++ behind =
    ap (map shown) (s.whole ∙ sym (append_assoc s.pre (s.node ∷ []) (s.inside ++ s.post))) ∙ map-append shown (s.pre ++ s.node ∷ []) (s.inside ++ s.post) in
    let long : suc n ≡ length front = omega (arith, length-map (s.pre ++ s.node ∷ []) shown, length-append s.pre (s.node ∷ []), s.long) in
    let left : drop (suc n) (map shown (all_nodes t)) ≡ behind = ap (λ k. drop k (map shown (all_nodes t))) long ∙ ap (drop (length front)) whole ∙ drop-append_seam front behind in
    let fields : fields_under n (drop (suc n) (map shown (all_nodes t))) ≡ fields_under n s.inside =
    ap (fields_under n) left ∙ fields_shown n (s.inside ++ s.post) ∙ fields_append n s.inside s.post
    ∙ ap (λ r. fields_under n s.inside ++ r) (fields_none n s.post s.apart) ∙ append-nil (fields_under n s.inside) in
    subst (Climbs None) (sym fields) (climbs_inside t n s formed)

-- the children by their fields
pub children_rise : (p n : ℕ) (xs : List NodeSpec) (k : Option ℤ) → Climbs k (fields_under p xs) → Rises AMap (option_map number k) (children_of p n xs)
children_rise p n [] k h = tt
children_rise p n (x ∷ xs) k h = go (x.parent == p) k h (children_rise p (suc n) xs)
  where
    go : (b : Bool) (k : Option ℤ) → Climbs k (if b then x.field ∷ fields_under p xs else fields_under p xs)
        → ((j : Option ℤ) → Climbs j (fields_under p xs) → Rises AMap (option_map number j) (children_of p (suc n) xs))
        → Rises AMap (option_map number k) (if b then And (pair (number x.field) (child_value n x)) (children_of p (suc n) xs) else children_of p (suc n) xs)
    go true None h ih = (refl, ih (Some x.field) h)
    go true (Some j) h ih = (h.0, ih (Some x.field) h.1)
    go false k h ih = ih k h
