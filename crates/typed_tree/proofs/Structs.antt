-- Links to fields by rising id, and the struct of them.
use Rattle.std.proofs.Common.{◌≡◌, ◌≢◌, ℕ, zero, suc, ◌+◌, ◌<◌, length, arith, Bool, true, false, ◌&&◌, ◌++◌, take, drop, is_lt, nat_eq, if◌then◌else◌, List, [], ◌∷◌, nat_lt, map, get_or, IsPermutation, refl, sym, ap, subst, ◌∙◌, zero-le, suc-le-suc}
use Rattle.std.specs.Prelude.{ℤ, pos, negsuc, zip, FitsSigned}
use Rattle.std.specs.Int.{w16}
use Rattle.std.specs.List.{list_all, All, AllByRecursion, AllPairs, IsDistinct}
use Rattle.std.specs.List.Sorted.{IsSortedByKey}
use Rattle.std.specs.Ordering.{nat_cmp, int_eq}
use Rattle.std.proofs.lemmas.Bool.{and_parts, and_from, le-leb}
use Rattle.std.proofs.lemmas.Bool.Decides.{nat_tests, Decides-int_eq}
use Rattle.std.proofs.lemmas.Int.{ints}
use Rattle.std.proofs.Math.Seq.{take-append_seam, drop-append_seam}
use Rattle.std.proofs.lemmas.List.{take-append-drop, take_more, map_push, length-map}
use Rattle.std.proofs.lemmas.List.Elements.{recursion_from_All}
use Rattle.std.proofs.lemmas.Slice.Zip.{get_or-zip, length-zip}
use Rattle.std.proofs.lemmas.List.Sorted.{length_permutation, Contains-permutation, IsPermutation-sym, IsPermutation-trans}
use Rattle.std.proofs.lemmas.Map.Keys.{IsDistinct-head, IsDistinct-tail, IsDistinct-cons, IsDistinct-IsPermutation}
use Rattle.std.proofs.lemmas.Map.Made.{IsDistinct-from_AllPairs}
use Rattle.key_order.proofs.Ranked as ranked
use Rattle.frozen_model.specs.Values.{Value, Absent, Record, And}
use Rattle.typed_tree.specs.declared.spot.Link.{Link}
use Rattle.typed_tree.specs.declared.spot.Run.{Run}
use Rattle.typed_tree.specs.Spots.{Store, linked, all_linked, ids_rise, pick}
use Rattle.key_order.specs.InOrder.{row}
use Rattle.base_lists.specs.InOrder.{insert_by, in_order}
use Rattle.base_lists.proofs.Insertion.{in_order_moves}
use Rattle.typed_tree.specs.Fields.{record_of, id_number, id_numbers, field_link}
use Rattle.typed_tree.specs.Trees.{trees_in}
use Rattle.typed_tree.proofs.Grow.{below-true}
use Rattle.typed_tree.proofs.Stack.{below, lt-test}

nat_eq-flips : (x y : ℕ) → nat_eq x y ≡ nat_eq y x
nat_eq-flips x y = grind (arith, nat_tests)

abbrev id : Link → ℕ
id l = l.id

abbrev Before : Link → Link → Type 0
Before l k = l.id < k.id

one_way : (l k : Link) → Before l k → Before k l → ⊥
one_way l k h g = omega (arith, h, g)

abbrev AreRanked : List Link → Type 0
AreRanked = ranked.AreRanked Before one_way

-- each of these has another id
abbrev Apart : Link → List Link → Type 0
Apart l = AllByRecursion (λ k. nat_eq l.id k.id ≡ false)

abbrev same_id : Link → Link → Bool
same_id l k = nat_eq l.id k.id

abbrev pub Differ : List Link → Type 0
Differ ls = IsDistinct same_id ls

before-all : (l k : Link) (ls : List Link) → Before l k → AllByRecursion (Before k) ls → AllByRecursion (Before l) ls
before-all l k [] h g = tt
before-all l k (x ∷ xs) h g = (omega (arith, h, g.0), before-all l k xs h g.1)

all-inserted : (P : Link → Type 0) (l : Link) (ls : List Link) → P l → AllByRecursion P ls → AllByRecursion P (insert_by nat_lt id l ls)
all-inserted P l [] h g = (h, tt)
all-inserted P l (k ∷ ks) h g = by (all-inserted P l ks h g.1) (nat_lt k.id l.id)
  where
    by : AllByRecursion P (insert_by nat_lt id l ks) → (b : Bool) → AllByRecursion P (if b then k ∷ insert_by nat_lt id l ks else l ∷ k ∷ ks)
    by rest true = (g.0, rest)
    by rest false = (h, g)

pub all-in_order : (P : Link → Type 0) (ls : List Link) → AllByRecursion P ls → AllByRecursion P (in_order nat_lt id ls)
all-in_order P [] h = tt
all-in_order P (l ∷ ls) h = all-inserted P l (in_order nat_lt id ls) h.0 (all-in_order P ls h.1)

ranked-inserted : (l : Link) (ls : List Link) → AreRanked ls → Apart l ls → AreRanked (insert_by nat_lt id l ls)
ranked-inserted l [] h g = (tt, tt)
ranked-inserted l (k ∷ ks) h g = by (ranked-inserted l ks h.1 g.1) (nat_lt k.id l.id) refl
  where
    by : AreRanked (insert_by nat_lt id l ks) → (b : Bool) → nat_lt k.id l.id ≡ b → AreRanked (if b then k ∷ insert_by nat_lt id l ks else l ∷ k ∷ ks)
    by rest true e = (all-inserted (Before k) l ks (below-true k.id l.id e) h.0, rest)
    by rest false e =
        let other = g.0 in
        let low : l.id < k.id = grind (arith, nat_tests) in
        ((low, before-all l k ks low h.0), h)

ranked-in_order : (ls : List Link) → Differ ls → AreRanked (in_order nat_lt id ls)
ranked-in_order [] h = tt
ranked-in_order (l ∷ ls) h =
    ranked-inserted l (in_order nat_lt id ls) (ranked-in_order ls (IsDistinct-tail same_id l ls h)) (all-in_order (λ k. nat_eq l.id k.id ≡ false) ls (IsDistinct-head same_id l ls h))

-- ---- a sort by ids that differ

ranked-sorted : (ls : List Link) → IsSortedByKey id nat_cmp ls → Differ ls → AreRanked ls
ranked-sorted [] up h = tt
ranked-sorted (l ∷ []) up h = (tt, tt)
ranked-sorted (l ∷ k ∷ ks) up h =
    let rest = ranked-sorted (k ∷ ks) (λ i d low high. let e : suc i + 1 ≡ suc (i + 1) = omega arith in rw e at (up (suc i) d zero-le (omega arith))) (IsDistinct-tail same_id l (k ∷ ks) h) in
    let first = up zero l zero-le (suc-le-suc (suc-le-suc zero-le)) in
    let other = (IsDistinct-head same_id l (k ∷ ks) h).0 in
    let low : l.id < k.id = by l.id k.id first other in
    ((low, before-all l k ks low rest.0), rest)
  where
    by : (m n : ℕ) → is_lt (nat_cmp n m) ≡ false → nat_eq m n ≡ false → m < n
    by m n g h = grind (arith, nat_tests)

pub sorted-is-in_order : (xs ys : List Link) → Differ xs → IsSortedByKey id nat_cmp ys → IsPermutation xs ys → ys ≡ in_order nat_lt id xs
sorted-is-in_order xs ys differ up moved =
    let back = IsPermutation-sym xs ys moved in
    let order = in_order_moves nat_lt id xs in
    let far = IsPermutation-trans ys xs (in_order nat_lt id xs) back order in
    let still = IsDistinct-IsPermutation same_id (λ x y. nat_eq-flips x.id y.id) xs ys moved differ in
    ranked.ranked_unique Before one_way ys (in_order nat_lt id xs) (ranked-sorted ys up still) (ranked-in_order xs differ)
    (λ l. (Contains-permutation ys (in_order nat_lt id xs) l far, Contains-permutation (in_order nat_lt id xs) ys l (IsPermutation-sym ys (in_order nat_lt id xs) far)))

-- links to fields that were added at the end, and sorted there
pub fields-added : (links : List Link) (first : ℕ) (old new : List Link) (fs : List Link) → first ≡ length links → old ≡ links ++ fs → take first new ≡ take first old → IsSortedByKey id nat_cmp (drop first new) → IsPermutation (drop first old) (drop first new) → Differ fs → new ≡ links ++ in_order nat_lt id fs
fields-added links first old new fs at was kept up moved differ =
    let front = kept ∙ ap (take first) was ∙ ap (λ n. take n (links ++ fs)) at ∙ take-append_seam links fs in
    let back = ap (drop first) was ∙ ap (λ n. drop n (links ++ fs)) at ∙ drop-append_seam links fs in
    let tail = sorted-is-in_order fs (drop first new) differ up (subst (λ zs. IsPermutation zs (drop first new)) back moved) in
    sym (take-append-drop first new) ∙ ap (λ zs. zs ++ drop first new) front ∙ ap (λ zs. links ++ zs) tail

pub length-in_order : (ls : List Link) → length (in_order nat_lt id ls) ≡ length ls
length-in_order ls = length_permutation ls (in_order nat_lt id ls) (in_order_moves nat_lt id ls)

pub length-fields : (ids : List ℕ) (ks : List ℕ) → length ids ≡ length ks → length (map field_link (zip ids ks)) ≡ length ks
length-fields ids ks e = omega (arith, e, length-map (zip ids ks) field_link, length-zip ids ks)

-- one more link to a field
pub more-fields : (ids ks : List ℕ) (i : ℕ) (l : Link) → length ids ≡ length ks → i < length ks → l ≡ field_link (get_or ids i 0, get_or ks i 0)
    → map field_link (take (i + 1) (zip ids ks)) ≡ map field_link (take i (zip ids ks)) ++ l ∷ []
more-fields ids ks i l e lt is =
    let zs = zip ids ks in
    let there : i < length zs = omega (arith, lt, e, length-zip ids ks) in
    let at : get_or zs i (0, 0) ≡ (get_or ids i 0, get_or ks i 0) = get_or-zip ids ks i (0, 0) (omega (arith, e)) lt in
    ap (map field_link) (take_more zs i (0, 0) there) ∙ map_push field_link (take i zs) (get_or zs i (0, 0)) ∙ ap (λ z. map field_link (take i zs) ++ field_link z ∷ []) at ∙ ap (λ z. map field_link (take i zs) ++ z ∷ []) (sym is)

-- the ids of links in order rise
rise-from : (ls : List Link) → AreRanked ls → ids_rise ls ≡ true
rise-from [] h = refl
rise-from (l ∷ ls) h = and_from _ _ (all ls h.0) (rise-from ls h.1)
  where
    all : (ks : List Link) → AllByRecursion (Before l) ks → list_all (λ k. nat_lt l.id k.id) ks ≡ true
    all [] h = refl
    all (k ∷ ks) h = and_from _ _ (lt-test l.id k.id h.0) (all ks h.1)

pub in_order-rise : (ls : List Link) → Differ ls → ids_rise (in_order nat_lt id ls) ≡ true
in_order-rise ls h = rise-from (in_order nat_lt id ls) (ranked-in_order ls h)

-- ---- ids that differ

links-differ : (ids : List ℤ) (ks : List ℕ) → AllByRecursion (FitsSigned w16) ids → IsDistinct int_eq ids → Differ (map field_link (zip (id_numbers ids) ks))
unfolding IsDistinct
links-differ [] ks n h = tt
links-differ (i ∷ ids) [] n h = tt
links-differ (i ∷ ids) (k ∷ ks) n h =
    IsDistinct-cons same_id (field_link (id_number i, k)) (map field_link (zip (id_numbers ids) ks)) (all ids ks n.1 (IsDistinct-head int_eq i ids h)) (links-differ ids ks n.1 (IsDistinct-tail int_eq i ids h))
  where
    other : (i j : ℤ) → FitsSigned w16 i → FitsSigned w16 j → int_eq i j ≡ false → nat_eq (id_number i) (id_number j) ≡ false
    other (pos a) (pos b) g h e = grind (arith, ints, nat_tests)
    other (pos a) (negsuc b) g h e = let low = g.sfits in let high = h.sfits in grind (arith, nat_tests)
    other (negsuc a) (pos b) g h e = let low = h.sfits in let high = g.sfits in grind (arith, nat_tests)
    other (negsuc a) (negsuc b) g h e = let one = g.sfits in let two = h.sfits in grind (arith, ints, nat_tests)

    all : (js : List ℤ) (ks : List ℕ) → AllByRecursion (FitsSigned w16) js → AllByRecursion (λ j. int_eq i j ≡ false) js → AllByRecursion (λ l. nat_eq (id_number i) l.id ≡ false) (map field_link (zip (id_numbers js) ks))
    all [] ks m h = tt
    all (j ∷ js) [] m h = tt
    all (j ∷ js) (k ∷ ks) m h = (other i j n.0 m.0 h.0, all js ks m.1 h.1)

pub fields-differ : (ids : List ℤ) (ks : List ℕ) → All (FitsSigned w16) ids → AllPairs (λ i j. i ≢ j) ids → Differ (map field_link (zip (id_numbers ids) ks))
fields-differ ids ks in_range differ = links-differ ids ks (recursion_from_All (FitsSigned w16) ids in_range) (IsDistinct-from_AllPairs Decides-int_eq ids differ)

-- ---- what holds of each holds of each in order

all-insert : (p : Link → Bool) (l : Link) (ls : List Link) → p l ≡ true → list_all p ls ≡ true → list_all p (insert_by nat_lt id l ls) ≡ true
all-insert p l [] h g = and_from _ _ h refl
all-insert p l (k ∷ ks) h g = let both = and_parts (p k) (list_all p ks) g in by_test both.0 (all-insert p l ks h both.1) (nat_lt k.id l.id)
  where
    by_test : p k ≡ true → list_all p (insert_by nat_lt id l ks) ≡ true → (b : Bool) → list_all p (if b then k ∷ insert_by nat_lt id l ks else l ∷ k ∷ ks) ≡ true
    by_test head rest true = and_from _ _ head rest
    by_test head rest false = and_from _ _ h g

all-order : (p : Link → Bool) (ls : List Link) → list_all p ls ≡ true → list_all p (in_order nat_lt id ls) ≡ true
all-order p [] h = refl
all-order p (l ∷ ls) h = let both = and_parts (p l) (list_all p ls) h in all-insert p l (in_order nat_lt id ls) both.0 (all-order p ls both.1)

-- ---- fields by id and value

abbrev field : List Value → Link → ℕ × Value
field vs l = (l.id, get_or vs l.node Absent)

abbrev first : ℕ × Value → ℕ
first f = f.0

insert-fields : (vs : List Value) (l : Link) (ls : List Link) → map (field vs) (insert_by nat_lt id l ls) ≡ insert_by nat_lt first (field vs l) (map (field vs) ls)
insert-fields vs l [] = refl
insert-fields vs l (k ∷ ks) = by_test (insert-fields vs l ks) (nat_lt k.id l.id)
  where
    by_test : map (field vs) (insert_by nat_lt id l ks) ≡ insert_by nat_lt first (field vs l) (map (field vs) ks) → (b : Bool)
        → map (field vs) (if b then k ∷ insert_by nat_lt id l ks else l ∷ k ∷ ks) ≡ (if b then field vs k ∷ insert_by nat_lt first (field vs l) (map (field vs) ks) else field vs l ∷ field vs k ∷ map (field vs) ks)
    by_test e true = ap (λ zs. field vs k ∷ zs) e
    by_test e false = refl

order-fields : (vs : List Value) (ls : List Link) → map (field vs) (in_order nat_lt id ls) ≡ in_order nat_lt first (map (field vs) ls)
order-fields vs [] = refl
order-fields vs (l ∷ ls) = insert-fields vs l (in_order nat_lt id ls) ∙ ap (insert_by nat_lt first (field vs l)) (order-fields vs ls)

links-fields : (vs : List Value) (ids ks : List ℕ) → map (field vs) (map field_link (zip ids ks)) ≡ zip ids (trees_in vs ks)
links-fields vs [] ks = refl
links-fields vs (i ∷ ids) [] = refl
links-fields vs (i ∷ ids) (k ∷ ks) = ap (λ fs. (i, get_or vs k Absent) ∷ fs) (links-fields vs ids ks)

record-is : (vs : List Value) (ls : List Link) → Record (map id ls) (pick vs ls) ≡ Record (map first (map (field vs) ls)) (row (map (λ f. f.1) (map (field vs) ls)))
record-is vs ls = ap (λ is. Record is (pick vs ls)) (ids ls) ∙ ap (Record (map first (map (field vs) ls))) (values ls)
  where
    ids : (ls : List Link) → map id ls ≡ map first (map (field vs) ls)
    ids [] = refl
    ids (l ∷ ls) = ap (λ is. l.id ∷ is) (ids ls)

    values : (ls : List Link) → pick vs ls ≡ row (map (λ f. f.1) (map (field vs) ls))
    values [] = refl
    values (l ∷ ls) = ap (And (get_or vs l.node Absent)) (values ls)

-- the struct of links to trees under these ids
pub pick-fields : (vs : List Value) (ids ks : List ℕ) (ls : List Link) → ls ≡ in_order nat_lt id (map field_link (zip ids ks)) → Record (map id ls) (pick vs ls) ≡ record_of ids (trees_in vs ks)
pick-fields vs ids ks ls e =
    let fields = ap (map (field vs)) e ∙ order-fields vs (map field_link (zip ids ks)) ∙ ap (in_order nat_lt first) (links-fields vs ids ks) in
    record-is vs ls ∙ ap (λ fs. Record (map first fs) (row (map (λ f. f.1) fs))) fields

pub below-fields : (n : ℕ) (ids ks : List ℕ) → below n ks → list_all (λ l. nat_lt l.node n) (map field_link (zip ids ks)) ≡ true
below-fields n [] ks h = refl
below-fields n (i ∷ ids) [] h = refl
below-fields n (i ∷ ids) (k ∷ ks) h = let both = and_parts (nat_lt k n) (list_all (λ k. nat_lt k n) ks) h in and_from _ _ both.0 (below-fields n ids ks both.1)

-- such links are there, lead below, and rise
pub fields-fit : (st : Store) (n : ℕ) (r : Run) (ids ks : List ℕ) → r.first + r.count ≡ length st.links → linked st r ≡ in_order nat_lt id (map field_link (zip ids ks)) → below n ks → ids_rise (linked st r) ≡ true → (all_linked st n r && ids_rise (linked st r)) ≡ true
fields-fit st n r ids ks e f h rise =
    and_from _ _
    (and_from _ _ (le-leb (r.first + r.count) (length st.links) (omega (arith, e))) (ap (list_all (λ l. nat_lt l.node n)) f ∙ all-order (λ l. nat_lt l.node n) _ (below-fields n ids ks h)))
    rise
