-- Keys on a stack, and the nodes at the places of entries.
use Rattle.std.proofs.Common.{◌≡◌, ◌≢◌, ℕ, true, suc, ◌+◌, ◌-◌, ◌<◌, List, [], ◌∷◌, ◌++◌, nat_lt, length, map, get_or, take, drop, refl, sym, ap, ◌∙◌, subst, arith, zero-add}
use Rattle.std.specs.List.{AllAdjacentBelow, All, AllByRecursion, AllPairs, Contains, enumerate_from}
use Rattle.std.proofs.Math.ListN.{drop_of_length-le}
use Rattle.std.proofs.Math.Seq.{take-length}
use Rattle.std.proofs.lemmas.Bool.{and_from}
use Rattle.std.proofs.lemmas.List.{append-nil, get_or-map, length-map, ext_get_or}
use Rattle.std.proofs.lemmas.List.Elements.{recursion_from_All, Contains-get_or}
use Rattle.std.proofs.lemmas.List.FromFn.{length-enumerate_from, get_or-enumerate_from}
use Rattle.std.proofs.lemmas.List.Sorted.{All-permutation, all_adjacent_more, IsPermutation-refl, length_permutation}
use Rattle.std.proofs.lemmas.List.Sums.{AllPass-from_list_all}
use Rattle.frozen_model.specs.Values.{Value, One, Bytes, Items, Absent, Present, Record, key_of, key_less}
use Rattle.key_order.specs.declared.repeats.PlacedKey.{PlacedKey}
use Rattle.key_order.specs.Keys.{value_of, IsOneKind, AreOneKind, AreRising}
use Rattle.key_order.specs.Entries.{places, placed}
use Rattle.key_order.specs.InOrder.{in_order}
use Rattle.key_order.proofs.Items.{entries_are_in_order}
use Rattle.key_order.proofs.Numbered.{numbered_places_differ}
use Rattle.key_order.proofs.Insertion.{order_moves, rising_keys_are_in_order}
use Rattle.key_order.proofs.Rising.{rising_keys_differ}
use Rattle.key_order.proofs.Sorted.{at}
use Rattle.typed_tree.specs.Tables.{AreTaken, AreSorted, AreOrdered, picked}
use Rattle.typed_tree.specs.Trees.{trees_in}
use Rattle.typed_tree.proofs.Grow.{below-true}
use Rattle.typed_tree.proofs.Stack.{below, lt-test}

pub below-at : (n : ℕ) (ks : List ℕ) (i d : ℕ) → below n ks → i < length ks → get_or ks i d < n
below-at n ks i d h lt = below-true (get_or ks i d) n (AllPass-from_list_all (λ k. nat_lt k n) ks h i d lt)

pub tree-at : (vs : List Value) (ks : List ℕ) (i d : ℕ) → i < length ks → get_or (trees_in vs ks) i Absent ≡ get_or vs (get_or ks i d) Absent
tree-at vs ks i d lt = get_or-map (λ k. get_or vs k Absent) ks i d Absent lt

-- any two of them are of one kind
pub one-kind-at : (vs : List Value) (ks : List ℕ) (i j d : ℕ) → AreOneKind (trees_in vs ks) → i < length ks → j < length ks → IsOneKind (get_or vs (get_or ks i d) Absent) (get_or vs (get_or ks j d) Absent)
one-kind-at vs ks i j d kind at_i at_j =
    let ts = trees_in vs ks in
    let many = length-map ks (λ k. get_or vs k Absent) in
    rw (sym (tree-at vs ks i d at_i), sym (tree-at vs ks j d at_j))
    (kind (get_or ts i Absent) (get_or ts j Absent) (Contains-get_or ts i Absent (omega (arith, at_i, many))) (Contains-get_or ts j Absent (omega (arith, at_j, many))))

-- one key more that is above the one before
pub rising-more : (vs : List Value) (ks : List ℕ) (i d : ℕ) → 0 < i → i < length ks → AllAdjacentBelow (λ k l. key_less k l ≡ true) (trees_in vs ks) i → key_less (get_or vs (get_or ks (i - 1) d) Absent) (get_or vs (get_or ks i d) Absent) ≡ true
    → AllAdjacentBelow (λ k l. key_less k l ≡ true) (trees_in vs ks) (i + 1)
rising-more vs ks i d some lt up less =
    all_adjacent_more (trees_in vs ks) (λ k l. key_less k l ≡ true) i some up (λ e.
    let f = λ (k : ℕ). get_or vs k Absent in
    let here = get_or-map f ks i d e lt in
    let before = get_or-map f ks (i - 1) d e (omega (arith, lt)) in
    rw (before, here) less)

-- ---- keys

own-key : (v : Value) → IsOneKind v v → key_of v ≡ v
own-key (One x) h = refl
own-key (Bytes bs) h = refl
own-key (Items g vs) h = refl
own-key Absent h = refl
own-key (Present v) h = refl
own-key (Record ids vs) h = absurd h

-- each key is its own key
own-keys : (vs : List Value) → AreOneKind vs → map key_of vs ≡ vs
own-keys [] kind = refl
own-keys (v ∷ vs) kind =
    let first : Contains (v ∷ vs) v = (0, omega arith, refl) in
    let behind : (k : Value) → Contains vs k → Contains (v ∷ vs) k = λ k c. (suc c.0, omega (arith, c.1), c.2) in
    ap (λ k. k ∷ map key_of vs) (own-key v (kind v v first first)) ∙ ap (λ ks. v ∷ ks) (own-keys vs (λ k l a b. kind k l (behind k a) (behind l b)))

-- ---- entries that number the keys of values

module _ (us ks : List Value) (es : List PlacedKey) (keyed : map key_of us ≡ ks) (numbers : placed es ≡ enumerate_from 0 ks) where
  as-many : length es ≡ length us
  as-many =
      let same = ap (λ ps. length ps) numbers in
      let more = ap (λ zs. length zs) keyed in
      omega (arith, same, more, length-map {B = ℕ × Value} es (λ (e : PlacedKey). (e.place, value_of e.key)), length-enumerate_from 0 ks, length-map us key_of)

  entry-at : (i : ℕ) (d : PlacedKey) → i < length es → (get_or es i d).place ≡ i × value_of (get_or es i d).key ≡ key_of (get_or us i Absent)
  entry-at i d lt =
      let in_us : i < length us = omega (arith, lt, as-many) in
      let in_ks : i < length ks = omega (arith, in_us, ap (λ zs. length zs) keyed, length-map us key_of) in
      let e : ◌≡◌ {A = ℕ × Value} ((get_or es i d).place, value_of (get_or es i d).key) (0 + i, get_or ks i Absent) =
      sym (get_or-map {Y = ℕ × Value} (λ (e : PlacedKey). (e.place, value_of e.key)) es i d (0, Absent) lt) ∙ ap (λ ps. get_or ps i (0, Absent)) numbers ∙ get_or-enumerate_from 0 ks i (0, Absent) in_ks in
      (ap (λ (p : ℕ × Value). p.0) e ∙ zero-add i, ap (λ (p : ℕ × Value). p.1) e ∙ ap (λ zs. get_or zs i Absent) (sym keyed) ∙ get_or-map key_of us i Absent Absent in_us)

  items-are : map (λ e. get_or us e.place Absent) es ≡ us
  items-are =
      let many = length-map es (λ (e : PlacedKey). get_or us e.place Absent) in
      ext_get_or Absent _ us (many ∙ as-many) (λ i lt.
      let there : i < length es = omega (arith, lt, many) in
      get_or-map (λ (e : PlacedKey). get_or us e.place Absent) es i (at es i) Absent there ∙ ap (λ n. get_or us n Absent) (entry-at i (at es i) there).0)

  named : All (λ e. key_of (get_or us e.place Absent) ≡ value_of e.key) es
  named i d lt = let e = entry-at i d lt in ap (λ n. key_of (get_or us n Absent)) e.0 ∙ sym e.1

  inside : All (λ e. e.place < length us) es
  inside i d lt = omega (arith, lt, as-many, (entry-at i d lt).0)

-- ---- sorted entries

module _ (us ks : List Value) (es : List PlacedKey) (keyed : map key_of us ≡ ks) (sorted : AreSorted ks es) where
  places-inside : All (λ e. e.place < length us) es
  places-inside = All-permutation (λ e. e.place < length us) sorted.numbered es sorted.moved (inside us ks sorted.numbered keyed sorted.numbers)

  items-in-order : AreOneKind ks → map (λ e. get_or us e.place Absent) es ≡ in_order us
  items-in-order kind =
      let old = sorted.numbered in
      let of_keys = numbered_places_differ ks old sorted.numbers in
      entries_are_in_order (λ p. get_or us p Absent) old es (named us ks old keyed sorted.numbers) (subst AreOneKind (sym of_keys.0) kind) sorted.moved sorted.rising
      ∙ ap in_order (items-are us ks old keyed sorted.numbers)

-- ---- nodes at the places of entries

module _ (ks : List ℕ) where
  abbrev pub nodes-at : List PlacedKey → List ℕ
  nodes-at es = map (λ e. get_or ks e.place 0) es

  trees-each : (vs : List Value) (es : List PlacedKey) → AllByRecursion (λ e. e.place < length ks) es → trees_in vs (nodes-at es) ≡ map (λ e. get_or (trees_in vs ks) e.place Absent) es
  trees-each vs [] h = refl
  trees-each vs (e ∷ es) h =
      ap (λ v. v ∷ trees_in vs (nodes-at es)) (sym (tree-at vs ks e.place 0 h.0)) ∙ ap (λ us. get_or (trees_in vs ks) e.place Absent ∷ us) (trees-each vs es h.1)

  below-each : (n : ℕ) (es : List PlacedKey) → AllByRecursion (λ e. e.place < length ks) es → below n ks → below n (nodes-at es)
  below-each n [] h b = refl
  below-each n (e ∷ es) h b = and_from _ _ (lt-test (get_or ks e.place 0) n (below-at n ks e.place 0 b h.0)) (below-each n es h.1 b)

  trees-at : (vs : List Value) (es : List PlacedKey) → All (λ e. e.place < length ks) es → trees_in vs (nodes-at es) ≡ map (λ e. get_or (trees_in vs ks) e.place Absent) es
  trees-at vs es h = trees-each vs es (recursion_from_All (λ e. e.place < length ks) es h)

  pub below-places : (n : ℕ) (es : List PlacedKey) → All (λ e. e.place < length ks) es → below n ks → below n (nodes-at es)
  below-places n es h = below-each n es (recursion_from_All (λ e. e.place < length ks) es h)

-- ---- the places of sorted entries

picked-each : (us : List Value) (es : List PlacedKey) → picked us (places es) ≡ map (λ e. get_or us e.place Absent) es
picked-each us [] = refl
picked-each us (e ∷ es) = ap (λ vs. get_or us e.place Absent ∷ vs) (picked-each us es)

pub places-ordered : (ks : List Value) (es : List PlacedKey) → AreOneKind ks → AreSorted ks es → AreOrdered ks (places es)
places-ordered ks es kind sorted = record {
  inside =
      let low = places-inside ks ks es (own-keys ks kind) sorted in
      λ i d lt.
      let there : i < length es = omega (arith, lt, length-map es (λ (e : PlacedKey). e.place)) in
      subst (λ (p : ℕ). p < length ks) (sym (get_or-map (λ (e : PlacedKey). e.place) es i (at es i) d there)) (low i (at es i) there);
  in_turn = λ us keyed. picked-each us es ∙ items-in-order us ks es keyed sorted kind;
}

-- ---- the nodes of a set

module _ (vs : List Value) (ks : List ℕ) (es : List PlacedKey) (kind : AreOneKind (trees_in vs ks)) (sorted : AreSorted (trees_in vs ks) es) where
  pub set-inside : All (λ e. e.place < length ks) es
  set-inside i d lt = omega (arith, places-inside (trees_in vs ks) (trees_in vs ks) es (own-keys (trees_in vs ks) kind) sorted i d lt, length-map ks (λ k. get_or vs k Absent))

  pub set-in-order : trees_in vs (nodes-at ks es) ≡ in_order (trees_in vs ks)
  set-in-order = trees-at ks vs es set-inside ∙ items-in-order (trees_in vs ks) (trees_in vs ks) es (own-keys (trees_in vs ks) kind) sorted kind

-- what a sort of all elements leaves
pub all-back : {A : Type 0} (new old : List A) (len : ℕ) → len ≡ length old → length new ≡ length old → take len (new ++ drop (length new) old) ≡ new
all-back new old len e f =
    ap (λ zs. take len (new ++ zs)) (drop_of_length-le old (omega (arith, f))) ∙ ap (take len) (append-nil new) ∙ ap (λ n. take n new) (e ∙ sym f) ∙ take-length new

-- ---- values that rise as they stand

pub rising-stay : (us : List Value) → AreOneKind (map key_of us) → AreRising (map key_of us) → us ≡ in_order us
rising-stay us kind up = rising_keys_are_in_order us us kind (IsPermutation-refl us) up

-- keys are their own keys
pub rising-keys-stay : (ks : List Value) → AreOneKind ks → AreRising ks → ks ≡ in_order ks
rising-keys-stay ks kind up = let own = own-keys ks kind in rising-stay ks (subst AreOneKind (sym own) kind) (subst AreRising (sym own) up)

pub rising-differ : (ks : List Value) → AreOneKind ks → AreRising ks → AllPairs (λ k l. k ≢ l) ks
rising-differ ks kind up = let own = own-keys ks kind in subst (λ (ls : List Value). AllPairs (λ k l. k ≢ l) ls) own (rising_keys_differ ks (subst AreRising (sym own) up))

pub length-in_order : (us : List Value) → length (in_order us) ≡ length us
length-in_order us = length_permutation us (in_order us) (order_moves us)

-- the nodes of a set are among those that were given
pub taken-places : (ks js : List ℕ) (es : List PlacedKey) → js ≡ nodes-at ks es → All (λ e. e.place < length ks) es → AreTaken ks js
taken-places ks js es is inside = (places es, is ∙ each es, low es (recursion_from_All (λ e. e.place < length ks) es inside))
  where
    each : (es : List PlacedKey) → nodes-at ks es ≡ map (λ p. get_or ks p 0) (places es)
    each [] = refl
    each (e ∷ es) = ap (λ ns. get_or ks e.place 0 ∷ ns) (each es)

    low : (es : List PlacedKey) → AllByRecursion (λ e. e.place < length ks) es → AllByRecursion (λ p. p < length ks) (places es)
    low [] h = tt
    low (e ∷ es) h = (h.0, low es h.1)
