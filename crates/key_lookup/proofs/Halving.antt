-- Halving a list of keys that rises.
use Rattle.std.proofs.Common.{◌≡◌, ℕ, zero, suc, ◌+◌, ◌-◌, ◌/◌, ◌<◌, ◌≤◌, List, [], ◌∷◌, Bool, true, false, length, get_or, refl, ap, sym, ◌∙◌, subst, arith, min, inl, inr, count_by, cond, Some, slice_get, ◌⊎◌}
use Rattle.std.proofs.lemmas.Bool.{cases_lt}
use Rattle.std.proofs.lemmas.List.{get_or_default}
use Rattle.std.proofs.lemmas.Option.{slice_get-get_or}
use Rattle.std.proofs.lemmas.List.Sums.{sum_by-cons}
use Rattle.std.specs.List.{Contains}
use Rattle.std.specs.declared.cmp.Ordering.{Ordering}
use Rattle.std.specs.declared.cmp.Ordering.TheVariants.{Less, Equal, Greater}
use Rattle.std.specs.Ordering.{is_lt, ordering_reverse}
use Rattle.frozen_model.specs.Bits.{digits}
use Rattle.frozen_model.proofs.Digits.{digits_mono, digits_half}
use Rattle.key_lookup.specs.Order.{IsKeyOrder, IsRising, count_below}

-- the keys below low are below the key, and P says how those from high on stand to it
pub record Halved {K : Type 0} (P : Ordering → Type 0) (order : K → K → Ordering) (ks : List K) (key : K) (low high : ℕ) : Type 0 where
  pub ordered : low ≤ high
  pub within : high ≤ length ks
  pub below : (k : ℕ) (d : K) → k < low → order (get_or ks k d) key ≡ Less
  pub above : (k : ℕ) (d : K) → high ≤ k → k < length ks → P (order (get_or ks k d) key)

abbrev pub IsAbove : Ordering → Type 0
IsAbove o = o ≡ Greater

abbrev pub IsNotBelow : Ordering → Type 0
IsNotBelow o = o ≡ Less → ⊥

pub whole : {K : Type 0} (P : Ordering → Type 0) (order : K → K → Ordering) (ks : List K) (key : K) (n : ℕ) → n ≡ length ks → Halved P order ks key 0 n
whole P order ks key n e = record { ordered = omega arith; within = omega arith; below = λ k d lt. absurd (omega arith); above = λ k d le lt. absurd (omega arith) }

-- a key is below each later one
apart : {K : Type 0} (order : K → K → Ordering) (ks : List K) → IsKeyOrder order → IsRising order ks → (m i : ℕ) (d : K) → i + suc m < length ks
    → order (get_or ks i d) (get_or ks (i + suc m) d) ≡ Less
apart order ks law rise zero i d lt = rise i d lt
apart order ks law rise (suc m) i d lt =
    let e : i + suc (suc m) ≡ (i + suc m) + 1 = omega arith in
    let inner : i + suc m < length ks = omega arith in
    let outer : (i + suc m) + 1 < length ks = omega arith in
    subst (λ z. order (get_or ks i d) (get_or ks z d) ≡ Less) (sym e)
    (law.transitive (get_or ks i d) (get_or ks (i + suc m) d) (get_or ks ((i + suc m) + 1) d) (apart order ks law rise m i d inner) (rise (i + suc m) d outer))

later : {K : Type 0} (order : K → K → Ordering) (ks : List K) → IsKeyOrder order → IsRising order ks → (i j : ℕ) (d : K) → i < j → j < length ks
    → order (get_or ks i d) (get_or ks j d) ≡ Less
later order ks law rise i j d lt inside =
    let e : i + suc (j - suc i) ≡ j = omega arith in
    let at : i + suc (j - suc i) < length ks = omega arith in
    subst (λ z. order (get_or ks i d) (get_or ks z d) ≡ Less) e (apart order ks law rise (j - suc i) i d at)

pub to_the_right : {K : Type 0} (P : Ordering → Type 0) (order : K → K → Ordering) (ks : List K) (key e : K) (low high middle : ℕ) → IsKeyOrder order → IsRising order ks
    → Halved P order ks key low high → middle < high → order (get_or ks middle e) key ≡ Less → Halved P order ks key (middle + 1) high
to_the_right {K} P order ks key e low high middle law rise h lt less = record {
  ordered = omega arith;
  within = h.within;
  below = λ k d under. elim (cases_lt k middle) [
    | inl before ↦ law.transitive (get_or ks k d) (get_or ks middle d) key (later order ks law rise k middle d before inside) (here d)
    | inr after ↦ let same : k ≡ middle = omega arith in subst (λ z. order (get_or ks z d) key ≡ Less) (sym same) (here d)
  ];
  above = h.above;
}
  where
    inside : middle < length ks
    inside = omega (arith, h.within)

    here : (d : K) → order (get_or ks middle d) key ≡ Less
    here d = subst (λ z. order z key ≡ Less) (get_or_default ks middle e d inside) less

-- to the left, where the key at the middle is above
pub to_the_left : {K : Type 0} (order : K → K → Ordering) (ks : List K) (key e : K) (low high middle : ℕ) → IsKeyOrder order → IsRising order ks
    → Halved IsAbove order ks key low high → low ≤ middle → middle < high → order (get_or ks middle e) key ≡ Greater → Halved IsAbove order ks key low middle
to_the_left {K} order ks key e low high middle law rise h le lt greater = record {
  ordered = le;
  within = omega (arith, h.within);
  below = h.below;
  above = λ k d from inside. elim (cases_lt middle k) [
    | inl after ↦
        let mine : order key (get_or ks middle d) ≡ Less = law.exchanged key (get_or ks middle d) ∙ ap ordering_reverse (here d) in
        let far : order key (get_or ks k d) ≡ Less = law.transitive key (get_or ks middle d) (get_or ks k d) mine (later order ks law rise middle k d after inside) in
        law.exchanged (get_or ks k d) key ∙ ap ordering_reverse far
    | inr before ↦ let same : k ≡ middle = omega arith in subst (λ z. order (get_or ks z d) key ≡ Greater) (sym same) (here d)
  ];
}
  where
    within : middle < length ks
    within = omega (arith, h.within)

    here : (d : K) → order (get_or ks middle d) key ≡ Greater
    here d = subst (λ z. order z key ≡ Greater) (get_or_default ks middle e d within) greater

-- to the left, where it is not below
pub to_the_left_from : {K : Type 0} (order : K → K → Ordering) (ks : List K) (key e : K) (low high middle : ℕ) → IsKeyOrder order → IsRising order ks
    → Halved IsNotBelow order ks key low high → low ≤ middle → middle < high → (order (get_or ks middle e) key ≡ Less → ⊥) → Halved IsNotBelow order ks key low middle
to_the_left_from {K} order ks key e low high middle law rise h le lt not_less = record {
  ordered = le;
  within = omega (arith, h.within);
  below = h.below;
  above = λ k d from inside less. elim (cases_lt middle k) [
    | inl after ↦ not_less (here d (law.transitive (get_or ks middle d) (get_or ks k d) key (later order ks law rise middle k d after inside) less))
    | inr before ↦ let same : k ≡ middle = omega arith in not_less (here d (subst (λ z. order (get_or ks z d) key ≡ Less) same less))
  ];
}
  where
    within : middle < length ks
    within = omega (arith, h.within)

    here : (d : K) → order (get_or ks middle d) key ≡ Less → order (get_or ks middle e) key ≡ Less
    here d less = subst (λ z. order z key ≡ Less) (get_or_default ks middle d e within) less

own_reverse : (o : Ordering) → o ≡ ordering_reverse o → o ≡ Equal
own_reverse Less e = absurd (cc)
own_reverse Equal e = refl
own_reverse Greater e = absurd (cc)

same_key : {K : Type 0} (order : K → K → Ordering) (key : K) → IsKeyOrder order → order key key ≡ Equal
same_key order key law = own_reverse (order key key) (law.exchanged key key)

-- a key that is equal in the order is the one that is looked for
pub found : {K : Type 0} (order : K → K → Ordering) (ks : List K) (key : K) (i : ℕ) → IsKeyOrder order → i < length ks → order (get_or ks i key) key ≡ Equal
    → slice_get ks i ≡ Some key
found order ks key i law lt e = slice_get-get_or ks i key lt ∙ ap Some (law.equal (get_or ks i key) key e)

pub not_less : (r o : Ordering) → r ≡ o → (r ≡ Equal) ⊎ (r ≡ Greater) → o ≡ Less → ⊥
not_less r o is (inl e) less = let f : Equal ≡ Less = sym e ∙ is ∙ less in absurd (cc)
not_less r o is (inr e) less = let f : Greater ≡ Less = sym e ∙ is ∙ less in absurd (cc)

-- where nothing is left, the key is not there
pub absent : {K : Type 0} (order : K → K → Ordering) (ks : List K) (key : K) (low high : ℕ) → IsKeyOrder order → Halved IsAbove order ks key low high → high ≤ low
    → Contains ks key → ⊥
absent order ks key low high law h done there =
    let k : ℕ = there.0 in
    let own : order (get_or ks k key) key ≡ Equal = subst (λ z. order z key ≡ Equal) (sym there.2) (same_key order key law) in
    elim (cases_lt k low) [
      | inl lt ↦ let e : order (get_or ks k key) key ≡ Less = h.below k key lt in absurd (cc)
      | inr le ↦ let e : order (get_or ks k key) key ≡ Greater = h.above k key (omega arith) there.1 in absurd (cc)
    ]

-- and the keys below it are the first ones
counted : {K : Type 0} (p : K → Bool) (ks : List K) (n : ℕ) → n ≤ length ks → ((k : ℕ) (d : K) → k < n → p (get_or ks k d) ≡ true)
    → ((k : ℕ) (d : K) → n ≤ k → k < length ks → p (get_or ks k d) ≡ false) → count_by p ks ≡ n
counted p [] n le first rest = omega arith
counted p (x ∷ ks) zero le first rest =
    let here : p x ≡ false = rest 0 x (omega arith) (omega arith) in
    let more : count_by p ks ≡ 0 = counted p ks 0 (omega arith) (λ k d lt. absurd (omega arith)) (λ k d from lt. rest (suc k) d (omega arith) (omega arith)) in
    let one : cond {A = ℕ} (p x) 1 0 ≡ 0 = ap (λ b. cond {A = ℕ} b 1 0) here in
    let sum : count_by p (x ∷ ks) ≡ cond {A = ℕ} (p x) 1 0 + count_by p ks = sum_by-cons (λ y. cond {A = ℕ} (p y) 1 0) x ks in
    omega (arith, one, more, sum)
counted p (x ∷ ks) (suc n) le first rest =
    let here : p x ≡ true = first 0 x (omega arith) in
    let more : count_by p ks ≡ n = counted p ks n (omega arith) (λ k d lt. first (suc k) d (omega arith)) (λ k d from lt. rest (suc k) d (omega arith) (omega arith)) in
    let one : cond {A = ℕ} (p x) 1 0 ≡ 1 = ap (λ b. cond {A = ℕ} b 1 0) here in
    let sum : count_by p (x ∷ ks) ≡ cond {A = ℕ} (p x) 1 0 + count_by p ks = sum_by-cons (λ y. cond {A = ℕ} (p y) 1 0) x ks in
    omega (arith, one, more, sum)

not_less_is : (o : Ordering) → (o ≡ Less → ⊥) → is_lt o ≡ false
not_less_is Less h = absurd (h refl)
not_less_is Equal h = refl
not_less_is Greater h = refl

pub bound_is : {K : Type 0} (order : K → K → Ordering) (ks : List K) (key : K) (low high : ℕ) → Halved IsNotBelow order ks key low high → high ≤ low
    → low ≡ count_below order ks key
bound_is order ks key low high h done =
    sym (counted (λ k. is_lt (order k key)) ks low (omega (arith, h.ordered, h.within)) (λ k d lt. ap is_lt (h.below k d lt))
    (λ k d from lt. not_less_is (order (get_or ks k d) key) (h.above k d (omega (arith, h.ordered)) lt)))

-- ---- steps

-- a comparison that leaves at most half costs a digit
pub step_costs : (old new n m spent all : ℕ) → old + digits n ≤ all → new ≡ min (old + 1) spent → 0 < n → m ≤ n / 2 → new + digits m ≤ all
step_costs old new n m spent all before tick some half = omega (arith, digits_half n some, digits_mono m (n / 2) half)
