-- The trees on a stack, as nodes and what they refer to grow.
use Rattle.std.proofs.Common.{◌≡◌, ℕ, ◌+◌, ◌-◌, ◌<◌, ◌≤◌, zero, suc, List, [], ◌∷◌, ◌++◌, true, nat_lt, length, take, drop, map, get_or, refl, sym, ap, ◌∙◌, subst, arith, length-append, length-drop}
use Rattle.std.specs.List.{list_all}
use Rattle.std.proofs.Math.ListN.{get_or-append}
use Rattle.std.proofs.Math.Seq.{get_or-append_seam, take-length}
use Rattle.std.proofs.lemmas.Bool.{and_parts, and_from, le-leb}
use Rattle.std.proofs.lemmas.Bool.Decides.{nat_tests}
use Rattle.std.proofs.lemmas.List.{map-append, length-map, take-map, drop-map}
use Rattle.std.proofs.lemmas.List.Folds.{list_all-append, list_all-map}
use Rattle.frozen_model.specs.Values.{Value, Absent, And}
use Rattle.typed_tree.specs.declared.spot.Spot.{Spot}
use Rattle.typed_tree.specs.declared.spot.Spot.TheVariants as s
use Rattle.typed_tree.specs.declared.tree.TreeKind.{TreeKind}
use Rattle.typed_tree.specs.References.{spot_kind}
use Rattle.typed_tree.specs.declared.spot.Run.{Run}
use Rattle.typed_tree.specs.Spots.{Store, linked, all_linked, item_link, pick, value_of, values, fits}
use Rattle.typed_tree.specs.Pools.{Grows}
use Rattle.key_order.specs.InOrder.{row}
use Rattle.typed_tree.specs.Trees.{trees_in, last, but_last}
use Rattle.typed_tree.proofs.Grow.{below-true, length-known, known-more, known-stays}

-- each number is below this one
abbrev pub below : ℕ → List ℕ → Type 0
below n ks = list_all (λ k. nat_lt k n) ks ≡ true

pub lt-test : (m n : ℕ) → m < n → nat_lt m n ≡ true
lt-test m n h = grind (arith, nat_tests)

pub below-wider : (n m : ℕ) (ks : List ℕ) → n ≤ m → below n ks → below m ks
below-wider n m [] le h = refl
below-wider n m (k ∷ ks) le h =
    let p = and_parts (nat_lt k n) (list_all (λ k. nat_lt k n) ks) h in
    and_from _ _ (lt-test k m (omega (arith, below-true k n p.0))) (below-wider n m ks le p.1)

pub below-put : (n : ℕ) (ks : List ℕ) (k : ℕ) → k < n → below n ks → below n (ks ++ k ∷ [])
below-put n ks k lt h = list_all-append (λ j. nat_lt j n) ks (k ∷ []) ∙ and_from _ _ h (and_from _ _ (lt-test k n lt) refl)

pub below-take : (n : ℕ) (i : ℕ) (ks : List ℕ) → below n ks → below n (take i ks)
below-take n zero ks h = refl
below-take n (suc i) [] h = refl
below-take n (suc i) (k ∷ ks) h = let p = and_parts (nat_lt k n) (list_all (λ k. nat_lt k n) ks) h in and_from _ _ p.0 (below-take n i ks p.1)

pub below-drop : (n : ℕ) (i : ℕ) (ks : List ℕ) → below n ks → below n (drop i ks)
below-drop n zero ks h = h
below-drop n (suc i) [] h = refl
below-drop n (suc i) (k ∷ ks) h = below-drop n i ks (and_parts (nat_lt k n) (list_all (λ k. nat_lt k n) ks) h).1

-- other numbers from a place on
pub below-replaced : (n base : ℕ) (ks js zs : List ℕ) → below n ks → below n js → zs ≡ take base ks ++ js → below n zs
below-replaced n base ks js zs h g e = ap (list_all (λ k. nat_lt k n)) e ∙ list_all-append (λ k. nat_lt k n) (take base ks) js ∙ and_from _ _ (below-take n base ks h) g

-- more nodes leave the trees
pub trees-stay : (vs us : List Value) (ks : List ℕ) → below (length vs) ks → trees_in (vs ++ us) ks ≡ trees_in vs ks
trees-stay vs us [] h = refl
trees-stay vs us (k ∷ ks) h =
    let p = and_parts (nat_lt k (length vs)) (list_all (λ k. nat_lt k (length vs)) ks) h in
    ap (λ v. v ∷ trees_in (vs ++ us) ks) (get_or-append vs us Absent k (below-true k (length vs) p.0)) ∙ ap (λ r. get_or vs k Absent ∷ r) (trees-stay vs us ks p.1)

-- a value more, and its number on the stack
pub push-tree : (vs : List Value) (ks : List ℕ) (v : Value) (n : ℕ) → below (length vs) ks → n ≡ length vs → trees_in (vs ++ v ∷ []) (ks ++ n ∷ []) ≡ trees_in vs ks ++ v ∷ []
push-tree vs ks v n h e =
    map-append (λ k. get_or (vs ++ v ∷ []) k Absent) ks (n ∷ [])
    ∙ ap (λ r. r ++ get_or (vs ++ v ∷ []) n Absent ∷ []) (trees-stay vs (v ∷ []) ks h)
    ∙ ap (λ k. trees_in vs ks ++ get_or (vs ++ v ∷ []) k Absent ∷ []) e
    ∙ ap (λ w. trees_in vs ks ++ w ∷ []) (get_or-append_seam vs v [] Absent)

-- a node more, and its number on the stack
trees-put : (st : Store) (xs : List Spot) (ks : List ℕ) (x : Spot) (n : ℕ) → below (length xs) ks → n ≡ length xs
    → trees_in (values st (xs ++ x ∷ [])) (ks ++ n ∷ []) ≡ trees_in (values st xs) ks ++ value_of st (values st xs) x ∷ []
trees-put st xs ks x n h e =
    let vs = values st xs in
    let len : length vs ≡ length xs = omega (arith, length-known st [] xs) in
    ap (λ (us : List Value). trees_in us (ks ++ n ∷ [])) (known-more st [] xs x) ∙ push-tree vs ks (value_of st vs x) n (ap (λ k. list_all (λ j. nat_lt j k) ks) len ∙ h) (e ∙ sym len)

-- the values that links to trees name
pub pick-items : (vs : List Value) (ks : List ℕ) → pick vs (map item_link ks) ≡ row (trees_in vs ks)
pick-items vs [] = refl
pick-items vs (k ∷ ks) = ap (And (get_or vs k Absent)) (pick-items vs ks)

-- ---- as the code has it

pub trees-put-is : (st st' : Store) (xs xs' : List Spot) (ks ks' : List ℕ) (x : Spot) (n : ℕ) → below (length xs) ks → n ≡ length xs → st' ≡ st → xs' ≡ xs ++ x ∷ [] → ks' ≡ ks ++ n ∷ []
    → trees_in (values st' xs') ks' ≡ trees_in (values st xs) ks ++ value_of st (values st xs) x ∷ []
trees-put-is st st' xs xs' ks ks' x n h e a b c =
    ap (λ (s : Store). trees_in (values s xs') ks') a ∙ ap (λ (zs : List Spot). trees_in (values st zs) ks') b ∙ ap (trees_in (values st (xs ++ x ∷ []))) c ∙ trees-put st xs ks x n h e

pub below-put-is : (xs xs' : List Spot) (ks ks' : List ℕ) (x : Spot) (n : ℕ) → below (length xs) ks → n ≡ length xs → xs' ≡ xs ++ x ∷ [] → ks' ≡ ks ++ n ∷ [] → below (length xs') ks'
below-put-is xs xs' ks ks' x n h e b c =
    let len : length xs' ≡ suc (length xs) = omega (arith, ap (λ (zs : List Spot). length zs) b, length-append xs (x ∷ [])) in
    subst (below (length xs')) (sym c) (below-put (length xs') ks n (omega (arith, len, e)) (below-wider (length xs) (length xs') ks (omega (arith, len)) h))

-- the values of nodes that stayed, where what they refer to grew in between
pub values-stay : (st st' new : Store) (xs xs' xs'' : List Spot) → fits st 0 xs ≡ true → st' ≡ st → xs' ≡ xs → Grows st' new → xs'' ≡ xs' → values new xs'' ≡ values st xs
values-stay st st' new xs xs' xs'' h a b grows d = ap (values new) (d ∙ b) ∙ known-stays st new (subst (λ (s : Store). Grows s new) a grows) [] 0 xs h

-- a tree put on top of those that stayed
pub put-on : (ts us vs : List Value) (v w : Value) → ts ≡ us ++ v ∷ [] → v ≡ w → us ≡ vs → ts ≡ vs ++ w ∷ []
put-on ts us vs v w e f g = cc

-- links to trees on the stack are there, and lead below
pub items-fit : (st : Store) (n : ℕ) (r : Run) (ks : List ℕ) → r.first + r.count ≡ length st.links → linked st r ≡ map item_link ks → below n ks → all_linked st n r ≡ true
items-fit st n r ks e f h =
    and_from _ _ (le-leb (r.first + r.count) (length st.links) (omega (arith, e))) (ap (list_all (λ l. nat_lt l.node n)) f ∙ list_all-map (λ l. nat_lt l.node n) item_link ks ∙ h)

-- the first trees, where nodes stay
pub below-cut-is : (xs xs' : List Spot) (ks ks' : List ℕ) (i : ℕ) → below (length xs) ks → xs' ≡ xs → ks' ≡ take i ks → below (length xs') ks'
below-cut-is xs xs' ks ks' i h e f = ap (λ (zs : List Spot). list_all (λ k. nat_lt k (length zs)) ks') e ∙ ap (list_all (λ k. nat_lt k (length xs))) f ∙ below-take (length xs) i ks h

pub below-rest-is : (xs xs' : List Spot) (ks ks' : List ℕ) (i : ℕ) → below (length xs) ks → xs' ≡ xs → ks' ≡ drop i ks → below (length xs') ks'
below-rest-is xs xs' ks ks' i h e f = ap (λ (zs : List Spot). list_all (λ k. nat_lt k (length zs)) ks') e ∙ ap (list_all (λ k. nat_lt k (length xs))) f ∙ below-drop (length xs) i ks h

-- what `&ks[base..]` gives
pub rest-is : (base : ℕ) (ks : List ℕ) → take (length ks - base) (drop base ks) ≡ drop base ks
rest-is base ks = ap (λ n. take n (drop base ks)) (sym (length-drop base ks)) ∙ take-length (drop base ks)

pub length-rest : (base : ℕ) (ks : List ℕ) → length (take (length ks - base) (drop base ks)) ≡ length ks - base
length-rest base ks = ap (λ zs. length zs) (rest-is base ks) ∙ length-drop base ks

-- the last n trees and those before them, by their numbers
module _ (us vs : List Value) (same : us ≡ vs) (ks front back : List ℕ) (base n : ℕ) (front_is : front ≡ take base ks) (back_is : back ≡ drop base ks) (place : base + n ≡ length ks) where
  base-is : base ≡ length (trees_in vs ks) - n
  base-is = omega (arith, length-map ks (λ k. get_or vs k Absent))

  pub trees-front : trees_in us front ≡ but_last n (trees_in vs ks)
  trees-front = ap (λ (zs : List Value). trees_in zs front) same ∙ ap (trees_in vs) front_is ∙ sym (take-map (λ k. get_or vs k Absent) base ks) ∙ ap (λ i. take i (trees_in vs ks)) base-is

  pub trees-back : trees_in us back ≡ last n (trees_in vs ks)
  trees-back = ap (λ (zs : List Value). trees_in zs back) same ∙ ap (trees_in vs) back_is ∙ sym (drop-map (λ k. get_or vs k Absent) base ks) ∙ ap (λ i. drop i (trees_in vs ks)) base-is

-- ---- kinds

-- as what the nodes of these numbers were made
abbrev pub kinds_of : List Spot → List ℕ → List TreeKind
kinds_of xs ks = map (λ k. spot_kind (get_or xs k s.Absent)) ks

kinds-stay : (xs ys : List Spot) (ks : List ℕ) → below (length xs) ks → kinds_of (xs ++ ys) ks ≡ kinds_of xs ks
kinds-stay xs ys [] h = refl
kinds-stay xs ys (k ∷ ks) h =
    let p = and_parts (nat_lt k (length xs)) (list_all (λ k. nat_lt k (length xs)) ks) h in
    ap (λ x. spot_kind x ∷ kinds_of (xs ++ ys) ks) (get_or-append xs ys s.Absent k (below-true k (length xs) p.0)) ∙ ap (λ r. spot_kind (get_or xs k s.Absent) ∷ r) (kinds-stay xs ys ks p.1)

pub kinds-put-is : (xs xs' : List Spot) (ks ks' : List ℕ) (x : Spot) (n : ℕ) → below (length xs) ks → n ≡ length xs → xs' ≡ xs ++ x ∷ [] → ks' ≡ ks ++ n ∷ [] → kinds_of xs' ks' ≡ kinds_of xs ks ++ spot_kind x ∷ []
kinds-put-is xs xs' ks ks' x n h e b c =
    ap (λ (zs : List Spot). kinds_of zs ks') b ∙ ap (kinds_of (xs ++ x ∷ [])) c
    ∙ map-append (λ k. spot_kind (get_or (xs ++ x ∷ []) k s.Absent)) ks (n ∷ [])
    ∙ ap (λ r. r ++ spot_kind (get_or (xs ++ x ∷ []) n s.Absent) ∷ []) (kinds-stay xs (x ∷ []) ks h)
    ∙ ap (λ k. kinds_of xs ks ++ spot_kind (get_or (xs ++ x ∷ []) k s.Absent) ∷ []) e
    ∙ ap (λ y. kinds_of xs ks ++ spot_kind y ∷ []) (get_or-append_seam xs x [] s.Absent)
