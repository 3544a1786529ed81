-- The least repeat of entries in order, and of the same entries in any order.
use Rattle.std.proofs.Common.{◌≡◌, ◌≢◌, ℕ, ◌+◌, ◌-◌, ◌<◌, ◌≤◌, List, length, get_or, nat_eq, Option, Some, None, sym, ap, ◌∙◌, subst, arith, ◌⊎◌, inl, inr}
use Rattle.std.specs.List.{AllPairs, Contains}
use Rattle.std.specs.List.Sorted.{IsPermutation, IsSorted}
use Rattle.std.specs.Option.{MatchOption, IfNone}
use Rattle.std.proofs.lemmas.Bool.{cases_lt}
use Rattle.std.proofs.lemmas.Bool.Decides.{Decides-eqb, nat_tests}
use Rattle.std.proofs.lemmas.List.{get_or-map, length-map}
use Rattle.std.proofs.lemmas.List.Sorted.{Contains-permutation, IsPermutation-sym, IsPermutation-map}
use Rattle.std.proofs.lemmas.Map.Keys.{IsDistinct-IsPermutation}
use Rattle.std.proofs.lemmas.Map.Made.{AllPairs-from_IsDistinct, IsDistinct-from_AllPairs}
use Rattle.frozen_model.specs.Values.{Value}
use Rattle.key_order.specs.contracts.repeats.PlacedKeyOrd.TheImpl.{ghosts}
use Rattle.key_order.specs.declared.repeats.PlacedKey.{PlacedKey}
use Rattle.key_order.specs.declared.repeats.Repeat.{Repeat}
use Rattle.key_order.specs.Keys.{value_of, AreOneKind, AreRising}
use Rattle.key_order.specs.Entries.{keys, places, placed}
use Rattle.key_order.specs.Neighbours.{HaveOneKey, IsLeastNeighbour}
use Rattle.key_order.specs.Repeats.{IsRepeat, HasNoRepeat, IsLeastRepeat}
use Rattle.key_order.proofs.Sorted.{at, place_at, one_key, one_key-same, between, places_rise, rising}

abbrev pub TellsLeastRepeat : List (ℕ × Value) → Option Repeat → Type 0
TellsLeastRepeat ks r = MatchOption r (HasNoRepeat ks) (λ r. IsLeastRepeat ks r.first r.second)

abbrev Apart : List PlacedKey → Type 0
Apart es = AllPairs (λ p q. p ≢ q) (places es)

-- ---- the order of the list plays no part

repeat_moved : (ks ls : List (ℕ × Value)) (f s : ℕ) → IsPermutation ks ls → IsRepeat ks f s → IsRepeat ls f s
repeat_moved ks ls f s p r = record {
  key = r.key;
  at_first = Contains-permutation ks ls (f, r.key) p r.at_first;
  at_second = Contains-permutation ks ls (s, r.key) p r.at_second;
  before = r.before;
}

answers_moved : (ks ls : List (ℕ × Value)) (r : Option Repeat) → IsPermutation ks ls → TellsLeastRepeat ls r → TellsLeastRepeat ks r
answers_moved ks ls None p a = λ f s h. a f s (repeat_moved ks ls f s p h)
answers_moved ks ls (Some r) p a = record {
  repeats = repeat_moved ls ks r.first r.second (IsPermutation-sym ks ls p) a.repeats;
  least = λ f s h. a.least f s (repeat_moved ks ls f s p h);
  only = λ f h. a.only f (repeat_moved ks ls f r.second p h);
}

apart_moved : (es fs : List PlacedKey) → IsPermutation es fs → Apart es → Apart fs
apart_moved es fs p h =
    let moved = IsPermutation-map (λ (e : PlacedKey). e.place) es fs p in
    AllPairs-from_IsDistinct (λ a b. Decides-eqb a b) (places fs) (IsDistinct-IsPermutation nat_eq (λ x y. grind (arith, nat_tests)) (places es) (places fs) moved (IsDistinct-from_AllPairs (λ a b. Decides-eqb a b) (places es) h))

-- ---- a key and its place by index

placed_at : (es : List PlacedKey) (i : ℕ) (d : ℕ × Value) → i < length es → get_or (placed es) i d ≡ ((at es i).place, value_of (at es i).key)
placed_at es i d h = get_or-map (λ (e : PlacedKey). (e.place, value_of e.key)) es i _ d h

there : (es : List PlacedKey) (i : ℕ) → i < length es → Contains (placed es) ((at es i).place, value_of (at es i).key)
there es i h = (i, omega (arith, length-map {B = ℕ × Value} es (λ e. (e.place, value_of e.key))), placed_at es i _ h)

found : (es : List PlacedKey) (k : Value) (p : ℕ) → Contains (placed es) (p, k) → (i : ℕ) × (i < length es) × (value_of (at es i).key ≡ k) × ((at es i).place ≡ p)
found es k p (i, h, e) =
    let l : i < length es = omega (arith, length-map {B = ℕ × Value} es (λ e. (e.place, value_of e.key))) in
    let is = sym (placed_at es i (p, k) l) ∙ e in
    (i, l, ap (λ (x : ℕ × Value). x.1) is, ap (λ (x : ℕ × Value). x.0) is)

-- ---- where places differ, each has one key

module _ (es : List PlacedKey) (apart : Apart es) where
  same_index : (i j : ℕ) → i < length es → j < length es → (at es i).place ≡ (at es j).place → i ≡ j
  same_index i j h l same = by (cases_lt i j) (cases_lt j i)
    where
      clash : (i j : ℕ) → i < j → j < length es → (at es i).place ≡ (at es j).place → ⊥
      clash i j h l same = apart i j 0 h (omega (arith, length-map es (λ (e : PlacedKey). e.place))) (place_at es i 0 (omega arith) ∙ same ∙ sym (place_at es j 0 l))

      by : (i < j) ⊎ (j ≤ i) → (j < i) ⊎ (i ≤ j) → i ≡ j
      by (inl lt) q = absurd (clash i j lt l same)
      by (inr le) (inl lt) = absurd (clash j i lt h (sym same))
      by (inr le) (inr ge) = omega arith

  one_key_at : (k l : Value) (p : ℕ) → Contains (placed es) (p, k) → Contains (placed es) (p, l) → k ≡ l
  one_key_at k l p a b =
      let (i, h, key_i, place_i) = found es k p a in
      let (j, m, key_j, place_j) = found es l p b in
      let e = same_index i j h m (place_i ∙ sym place_j) in
      sym key_i ∙ ap (λ n. value_of (at es n).key) e ∙ key_j

  only_first : (first second : ℕ) → IsRepeat (placed es) first second → ((f s : ℕ) → IsRepeat (placed es) f s → second ≤ s) → (f : ℕ) → IsRepeat (placed es) f second → f ≡ first
  only_first first second r least f s = by (cases_lt f first) (cases_lt first f)
    where
      key_is : s.key ≡ r.key
      key_is = one_key_at s.key r.key second s.at_second r.at_second

      at_f : Contains (placed es) (f, r.key)
      at_f = subst (λ k. Contains (placed es) (f, k)) key_is s.at_first

      by : (f < first) ⊎ (first ≤ f) → (first < f) ⊎ (f ≤ first) → f ≡ first
      by (inl lt) q = absurd (let h = least f first (record { key = r.key; at_first = at_f; at_second = r.at_first; before = lt }) in omega (arith, h, r.before))
      by (inr le) (inl lt) = absurd (let h = least first f (record { key = r.key; at_first = r.at_first; at_second = at_f; before = lt }) in omega (arith, h, s.before))
      by (inr le) (inr ge) = omega arith

-- ---- entries in order

module _ (es : List PlacedKey) (up : IsSorted ghosts.cmp es) where
  -- what repeats stands right behind an entry of its key
  behind : (f s : ℕ) → IsRepeat (placed es) f s → (k : ℕ) × (k + 1 < length es) × HaveOneKey es k × ((at es (k + 1)).place ≡ s)
  behind f s r =
      let (i, h, key_i, place_i) = found es r.key f r.at_first in
      let (j, l, key_j, place_j) = found es r.key s r.at_second in
      by i j h l (key_i ∙ sym key_j) place_i place_j (cases_lt i j)
    where
      by : (i j : ℕ) → i < length es → j < length es → value_of (at es i).key ≡ value_of (at es j).key → (at es i).place ≡ f → (at es j).place ≡ s → (i < j) ⊎ (j ≤ i) → (k : ℕ) × (k + 1 < length es) × HaveOneKey es k × ((at es (k + 1)).place ≡ s)
      by i j h l same place_i place_j (inl lt) =
          let e : j - 1 + 1 ≡ j = omega arith in
          let in_es : j - 1 + 1 < length es = omega (arith, l) in
          let one : value_of (at es (j - 1)).key ≡ value_of (at es (j - 1 + 1)).key = between es up i (j - 1) j (omega arith) (omega arith) l same ∙ ap (λ n. value_of (at es n).key) (sym e) in
          (j - 1, in_es, one_key es (j - 1) in_es one, ap (λ n. (at es n).place) e ∙ place_j)
      by i j h l same place_i place_j (inr le) = absurd (let rise = places_rise es up j i le h (sym same) in omega (arith, rise, place_i, place_j, r.before))

  answers : (r : Option Repeat) → Apart es → IsLeastNeighbour es (length es) r → TellsLeastRepeat (placed es) r
  answers None apart n = λ f s r. let b = behind f s r in n b.0 b.1 b.2
  answers (Some r) apart n =
      let (k, h, one, is) = n.0 in
      let m : k < length es = omega (arith, h) in
      let key_is = one_key-same es k h one in
      let first_is : (at es k).place ≡ r.first = sym (ap (λ (p : Repeat). p.first) is ∙ place_at es k 0 m) in
      let second_is : (at es (k + 1)).place ≡ r.second = sym (ap (λ (p : Repeat). p.second) is ∙ place_at es (k + 1) 0 h) in
      let rise = places_rise es up k (k + 1) (omega arith) h key_is in
      let differ : (at es k).place ≡ (at es (k + 1)).place → ⊥ = λ same. let e = same_index es apart k (k + 1) m h same in omega arith in
      let repeats : IsRepeat (placed es) r.first r.second = record {
        key = value_of (at es k).key;
        at_first = subst (λ p. Contains (placed es) (p, value_of (at es k).key)) first_is (there es k m);
        at_second = subst (λ p. Contains (placed es) (p, value_of (at es k).key)) second_is (subst (λ v. Contains (placed es) ((at es (k + 1)).place, v)) (sym key_is) (there es (k + 1) h));
        before = omega (arith, rise, differ, first_is, second_is);
      } in
      let least : (f s : ℕ) → IsRepeat (placed es) f s → r.second ≤ s = λ f s q. let b = behind f s q in let le = n.1 b.0 b.1 b.2 in omega (arith, le, b.3, place_at es (b.0 + 1) 0 b.1) in
      record { repeats = repeats; least = least; only = only_first es apart r.first r.second repeats least }

-- ---- what the sort leaves

module _ (old new : List PlacedKey) (moved : IsPermutation old new) (up : IsSorted ghosts.cmp new) where
  pub least_from_neighbours : (r : Option Repeat) → Apart old → IsLeastNeighbour new (length new) r → TellsLeastRepeat (placed old) r
  least_from_neighbours r apart n = answers_moved (placed old) (placed new) r (IsPermutation-map (λ (e : PlacedKey). (e.place, value_of e.key)) old new moved) (answers new up r (apart_moved old new moved apart) n)

  pub rising_from_neighbours : (r : Option Repeat) → IsLeastNeighbour new (length new) r → AreOneKind (keys old) → IfNone r (AreRising (keys new))
  rising_from_neighbours None n kind =
      let back = IsPermutation-sym (keys old) (keys new) (IsPermutation-map (λ (e : PlacedKey). value_of e.key) old new moved) in
      rising new up n (λ k l a b. kind k l (Contains-permutation (keys new) (keys old) k back a) (Contains-permutation (keys new) (keys old) l back b))
  rising_from_neighbours (Some r) n kind = tt
