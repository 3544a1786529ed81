-- The parts that nodes refer to.
use Rattle.std.proofs.Common.{◌≡◌, ℕ, zero, suc, ◌+◌, ◌*◌, ◌/◌, ◌<◌, ◌≤◌, List, [], ◌∷◌, Bool, true, false, IsTrue, nat_eq, nat_lt, nat_le, length, drop, get_or, refl, sym, ap, ◌∙◌, arith, rules, ◌⊎◌, inl, inr}
use Rattle.std.specs.List.{list_all}
use Rattle.std.proofs.lemmas.Bool.{and_parts, leb-true}
use Rattle.std.proofs.lemmas.List.{length-drop, length-take-le}
use Rattle.std.proofs.lemmas.Bool.Decides.{nat_tests}
use Rattle.std.specs.Prelude.{map, Some, None}
use Rattle.std.specs.Ordering.{nat_cmp, ordering_index, is_lt}
use Rattle.std.specs.declared.cmp.Ordering.TheVariants.{Less, Equal, Greater}
use Rattle.std.specs.List.Sorted.{IsNonDecreasingBy}
use Rattle.std.proofs.lemmas.List.Sorted.{searchable_from_sorted}
use Rattle.std.proofs.lemmas.Cmp.{nat_cmp_total}
use Rattle.frozen_model.specs.Values.{Value, Absent, Values, NoValue, And, nth, count}
use Rattle.typed_tree.specs.declared.spot.Link.{Link}
use Rattle.typed_tree.specs.Parts.{find_field}
use Rattle.typed_tree.specs.declared.spot.Run.{Run}
use Rattle.typed_tree.specs.Spots.{Store, linked, all_linked, pick, pair, by_twos, ids_rise}
use Rattle.typed_tree.proofs.Grow.{below-true}

ids-same : (m n : ℕ) → m ≡ n → nat_eq m n ≡ true
ids-same m n e = grind (arith, nat_tests)

ids-apart : (m n : ℕ) → (m ≡ n → ⊥) → nat_eq m n ≡ false
ids-apart m n h = by (nat_eq m n) refl
  where
    by : (b : Bool) → nat_eq m n ≡ b → b ≡ false
    by false e = refl
    by true e = absurd (h (grind (arith, nat_tests)))

ids-below : (m n : ℕ) → m < n → nat_eq m n ≡ false
ids-below m n lt = ids-apart m n (λ e. omega (arith, lt, e))

pub count-pick : (vs : List Value) (ls : List Link) → count (pick vs ls) ≡ length ls
count-pick vs [] = refl
count-pick vs (l ∷ ls) = ap suc (count-pick vs ls)

pub nth-pick : (vs : List Value) (ls : List Link) (i : ℕ) (d : Link) → i < length ls → nth (pick vs ls) i ≡ get_or vs (get_or ls i d).node Absent
nth-pick vs [] i d h = absurd (omega arith)
nth-pick vs (l ∷ ls) zero d h = refl
nth-pick vs (l ∷ ls) (suc i) d h = nth-pick vs ls i d (omega arith)

-- the number of items is that of their links
pub count-links : (vs : List Value) (ls : List Link) (us : Values) → pick vs ls ≡ us → length ls ≡ count us
count-links vs ls us e = sym (count-pick vs ls) ∙ ap count e

-- each link leads below the number
pub below-there : (n : ℕ) (ls : List Link) (i : ℕ) (d : Link) → list_all (λ l. nat_lt l.node n) ls ≡ true → i < length ls → (get_or ls i d).node < n
below-there n [] i d h l = absurd (omega arith)
below-there n (x ∷ xs) zero d h l = below-true x.node n (and_parts (nat_lt x.node n) (list_all (λ l. nat_lt l.node n) xs) h).0
below-there n (x ∷ xs) (suc i) d h l = below-there n xs i d (and_parts (nat_lt x.node n) (list_all (λ l. nat_lt l.node n) xs) h).1 (omega arith)

-- a run has as many links as it says
pub linked-many : (st : Store) (n : ℕ) (r : Run) → all_linked st n r ≡ true → length (linked st r) ≡ r.count
linked-many st n r h =
    let there = leb-true (r.first + r.count) (length st.links) (and_parts (nat_le (r.first + r.count) (length st.links)) (list_all (λ l. nat_lt l.node n) (linked st r)) h).0 in
    length-take-le r.count (drop r.first st.links) (omega (arith, there, length-drop r.first st.links))

pub count-run : (st : Store) (vs : List Value) (n : ℕ) (r : Run) (us : Values) → all_linked st n r ≡ true → us ≡ pick vs (linked st r) → r.count ≡ count us
count-run st vs n r us h e = sym (linked-many st n r h) ∙ sym (count-pick vs (linked st r)) ∙ ap count (sym e)

-- ---- pairs

twice : (p : ℕ) → 2 * suc p ≡ suc (suc (2 * p))
twice p = omega arith

pub count-pairs : (vs : List Value) (ls : List Link) → count (by_twos (pick vs ls)) ≡ length ls / 2
count-pairs vs [] = refl
count-pairs vs (l ∷ []) = refl
count-pairs vs (l ∷ k ∷ ls) = omega (arith, count-pairs vs ls)

pub count-run-pairs : (st : Store) (vs : List Value) (n : ℕ) (r : Run) (us : Values) → all_linked st n r ≡ true → us ≡ by_twos (pick vs (linked st r)) → r.count / 2 ≡ count us
count-run-pairs st vs n r us h e = ap (λ m. m / 2) (sym (linked-many st n r h)) ∙ sym (count-pairs vs (linked st r)) ∙ ap count (sym e)

pub nth-pairs : (vs : List Value) (ls : List Link) (i : ℕ) (d : Link) → 2 * i + 1 < length ls
    → nth (by_twos (pick vs ls)) i ≡ pair (get_or vs (get_or ls (2 * i) d).node Absent) (get_or vs (get_or ls (2 * i + 1) d).node Absent)
nth-pairs vs [] i d h = absurd (omega (arith, h))
nth-pairs vs (l ∷ []) i d h = absurd (omega (arith, h))
nth-pairs vs (l ∷ k ∷ ls) zero d h = refl
nth-pairs vs (l ∷ k ∷ ls) (suc i) d h =
    let a : 2 * suc i + 1 ≡ suc (suc (2 * i + 1)) = omega arith in
    rw (a, twice i) (nth-pairs vs ls i d (omega (arith, h)))

pub same-pair : (k l v w : Value) → k ≡ l → v ≡ w → pair l w ≡ pair k v
same-pair k l v w e f = ap (λ u. pair u w) (sym e) ∙ ap (pair k) (sym f)

-- both links of a pair are there
pub there-pairs : (vs : List Value) (ls : List Link) (i : ℕ) (us : Values) → by_twos (pick vs ls) ≡ us → i < count us → 2 * i + 1 < length ls
there-pairs vs ls i us e h = let many = sym (count-pairs vs ls) ∙ ap count e in omega (arith, h, many)

pub none-counted : (us : Values) (n : ℕ) → n ≡ count us → (IsTrue (nat_eq n 0) → us ≡ NoValue) × (us ≡ NoValue → IsTrue (nat_eq n 0))
none-counted NoValue n e = (λ h. refl, λ h. let z : nat_eq n 0 ≡ true = grind (arith, nat_tests) in search rules)
none-counted (And u us) n e = (λ h. let z : nat_eq n 0 ≡ false = grind (arith, nat_tests) in absurd (search rules), λ h. cc)

-- ---- a field by halving

pub first-of-rising : (l k : Link) (ls : List Link) (i : ℕ) (d : Link) → ids_rise (l ∷ ls) ≡ true → i < length ls → l.id < (get_or ls i d).id
first-of-rising l k ls i d h lt = by ls i (and_parts (list_all (λ k. nat_lt l.id k.id) ls) (ids_rise ls) h).0 lt
  where
    by : (ks : List Link) (i : ℕ) → list_all (λ k. nat_lt l.id k.id) ks ≡ true → i < length ks → l.id < (get_or ks i d).id
    by [] i h lt = absurd (omega arith)
    by (x ∷ xs) zero h lt = below-true l.id x.id (and_parts (nat_lt l.id x.id) (list_all (λ k. nat_lt l.id k.id) xs) h).0
    by (x ∷ xs) (suc i) h lt = by xs i (and_parts (nat_lt l.id x.id) (list_all (λ k. nat_lt l.id k.id) xs) h).1 (omega arith)

-- the field that stands at a place is the one that its id names
pub field-at : (vs : List Value) (ls : List Link) (i : ℕ) (d : Link) (id : ℕ) → ids_rise ls ≡ true → i < length ls → (get_or ls i d).id ≡ id
    → find_field (map (λ l. l.id) ls) (pick vs ls) id ≡ Some (get_or vs (get_or ls i d).node Absent)
field-at vs [] i d id h lt e = absurd (omega arith)
field-at vs (l ∷ ls) zero d id h lt e = let same : nat_eq l.id id ≡ true = ids-same l.id id e in rw same refl
field-at vs (l ∷ ls) (suc i) d id h lt e =
    let low = first-of-rising l d ls i d h (omega arith) in
    let other : nat_eq l.id id ≡ false = ids-below l.id id (omega (arith, low, e)) in
    rw other (field-at vs ls i d id (and_parts (list_all (λ k. nat_lt l.id k.id) ls) (ids_rise ls) h).1 (omega arith) e)

-- there is none where no link has the id
pub field-none : (vs : List Value) (ls : List Link) (id : ℕ) → ((i : ℕ) (d : Link) → i < length ls → (get_or ls i d).id ≡ id → ⊥)
    → find_field (map (λ l. l.id) ls) (pick vs ls) id ≡ None
field-none vs [] id h = refl
field-none vs (l ∷ ls) id h =
    let other : nat_eq l.id id ≡ false = ids-apart l.id id (h zero l (omega arith)) in
    rw other (field-none vs ls id (λ i d lt e. h (suc i) d (omega arith) e))

-- later links have greater ids
rising-at : (ls : List Link) (i j : ℕ) (d : Link) → ids_rise ls ≡ true → i < j → j < length ls → (get_or ls i d).id < (get_or ls j d).id
rising-at [] i j d h lt there = absurd (omega (arith, there))
rising-at (l ∷ ls) zero zero d h lt there = absurd (omega (arith, lt))
rising-at (l ∷ ls) zero (suc j) d h lt there = first-of-rising l l ls j d h (omega (arith, there))
rising-at (l ∷ ls) (suc i) zero d h lt there = absurd (omega (arith, lt))
rising-at (l ∷ ls) (suc i) (suc j) d h lt there = rising-at ls i j d (and_parts (list_all (λ k. nat_lt l.id k.id) ls) (ids_rise ls) h).1 (omega (arith, lt)) (omega (arith, there))

not-less : (m n : ℕ) → m < n → is_lt (nat_cmp n m) ≡ false
not-less m n h = grind (arith, nat_tests)

-- so they may be halved
pub rising-searchable : (ls : List Link) (id : ℕ) → ids_rise ls ≡ true → IsNonDecreasingBy (λ l. ordering_index (nat_cmp l.id id)) ls
rising-searchable ls id h = searchable_from_sorted nat_cmp_total (λ (l : Link). l.id) ls id (λ k d low high. not-less _ _ (rising-at ls k (k + 1) d h (omega arith) high))

pub equal-ids : (m n : ℕ) → nat_cmp m n ≡ Equal → m ≡ n
equal-ids m n h = grind (arith, nat_tests)

pub other-less : (m n : ℕ) → nat_cmp m n ≡ Less → m ≡ n → ⊥
other-less m n h e = grind (arith, nat_tests)

pub other-greater : (m n : ℕ) → nat_cmp m n ≡ Greater → m ≡ n → ⊥
other-greater m n h e = grind (arith, nat_tests)

pub le-or-lt : (i n : ℕ) → (i < n) ⊎ (n ≤ i)
le-or-lt i n = by (nat_lt i n) refl
  where
    by : (b : Bool) → nat_lt i n ≡ b → (i < n) ⊎ (n ≤ i)
    by true e = inl (below-true i n e)
    by false e = inr (grind (arith, nat_tests))

-- what is found among fields is found among those of the value
pub same-fields : (ids is : List ℕ) (vs us : Values) (id : ℕ) → ids ≡ is → vs ≡ us → find_field ids vs id ≡ find_field is us id
same-fields ids is vs us id e f = ap (λ js. find_field js vs id) e ∙ ap (λ ws. find_field is ws id) f
