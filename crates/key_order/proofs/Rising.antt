-- Values ranked by their keys: each key is below all later ones. There is one such list of the same members.
use Rattle.std.proofs.Common.{◌≡◌, ◌≢◌, ◌↔◌, zero, suc, ◌+◌, List, [], ◌∷◌, map, true, Some, None, Less, refl, sym, ap, ◌∙◌, subst, arith, ◌⊎◌, inl, inr}
use Rattle.std.specs.List.{AllByRecursion, AllPairs, Contains}
use Rattle.std.proofs.lemmas.Cmp.{tied_itself}
use Rattle.std.proofs.lemmas.List.Elements.{All-from_recursion}
use Rattle.std.proofs.lemmas.List.Kept.{AllPairs-cons}
use Rattle.frozen_model.specs.Trees.{Holder, AList, ASet, AMap}
use Rattle.frozen_model.specs.Values.{Value, key_less, key_of, Rises}
use Rattle.key_order.specs.Keys.{AreOneKind, AreRising, IsOneKind}
use Rattle.key_order.specs.InOrder.{row, HaveSameMembers}
use Rattle.key_order.proofs.Order.{value_cmp, value_total, Less_from_key_less, key_less_from_Less, Equal_from_same}
use Rattle.key_order.proofs.Ranked as ranked

-- ---- keys that rise, one after another

rising-cons : (k l : Value) (ls : List Value) → key_less k l ≡ true → AreRising (l ∷ ls) → AreRising (k ∷ l ∷ ls)
rising-cons k l ls less h zero d lt = less
rising-cons k l ls less h (suc i) d lt = let e : suc i + 1 ≡ suc (i + 1) = omega arith in rw e (h i d (omega arith))

rising-head : (k l : Value) (ls : List Value) → AreRising (k ∷ l ∷ ls) → key_less k l ≡ true
rising-head k l ls h = h 0 k (omega arith)

rising-tail : (k l : Value) (ls : List Value) → AreRising (k ∷ l ∷ ls) → AreRising (l ∷ ls)
rising-tail k l ls h i d lt = let e : suc i + 1 ≡ suc (i + 1) = omega arith in rw e at (h (suc i) d (omega arith))

rising-one : (k : Value) → AreRising (k ∷ [])
rising-one k i d lt = absurd (omega (arith, lt))

rises-after : (h : Holder) (k : Value) (vs : List Value) → h ≢ AList → Rises h (Some k) (row vs) ↔ AreRising (k ∷ map key_of vs)
rises-after AList k vs held = absurd (held refl)
rises-after ASet k [] held = (λ r. rising-one k, λ r. tt)
rises-after AMap k [] held = (λ r. rising-one k, λ r. tt)
rises-after ASet k (v ∷ vs) held =
    let rest = rises-after ASet (key_of v) vs held in
    (λ r. rising-cons k (key_of v) (map key_of vs) r.0 (rest.0 r.1), λ r. (rising-head k (key_of v) (map key_of vs) r, rest.1 (rising-tail k (key_of v) (map key_of vs) r)))
rises-after AMap k (v ∷ vs) held =
    let rest = rises-after AMap (key_of v) vs held in
    (λ r. rising-cons k (key_of v) (map key_of vs) r.0 (rest.0 r.1), λ r. (rising-head k (key_of v) (map key_of vs) r, rest.1 (rising-tail k (key_of v) (map key_of vs) r)))

pub rises_by_keys : (h : Holder) (vs : List Value) → h ≢ AList → Rises h None (row vs) ↔ AreRising (map key_of vs)
rises_by_keys AList vs held = absurd (held refl)
rises_by_keys ASet [] held = (λ r i d lt. absurd (omega (arith, lt)), λ r. tt)
rises_by_keys AMap [] held = (λ r i d lt. absurd (omega (arith, lt)), λ r. tt)
rises_by_keys ASet (v ∷ vs) held = let rest = rises-after ASet (key_of v) vs held in (λ r. rest.0 r.1, λ r. (refl, rest.1 r))
rises_by_keys AMap (v ∷ vs) held = let rest = rises-after AMap (key_of v) vs held in (λ r. rest.0 r.1, λ r. (refl, rest.1 r))

-- ---- each key below all later ones

abbrev pub Below : Value → Value → Type 0
Below v u = value_cmp (key_of v) (key_of u) ≡ Less

pub both_below : (v u : Value) → Below v u → Below u v → ⊥
both_below v u h g = let less = value_total.trans (key_of v) (key_of u) (key_of v) h g in let same = tied_itself value_total (key_of v) in cc

abbrev pub AreRanked : List Value → Type 0
AreRanked = ranked.AreRanked Below both_below

pub below_all : (v u : Value) (us : List Value) → Below v u → AllByRecursion (Below u) us → AllByRecursion (Below v) us
below_all v u [] less h = tt
below_all v u (w ∷ us) less h = (value_total.trans (key_of v) (key_of u) (key_of w) less h.0, below_all v u us less h.1)

pub ranked_from_rising : (vs : List Value) → AreRising (map key_of vs) → AreRanked vs
ranked_from_rising [] h = tt
ranked_from_rising (v ∷ []) h = (tt, tt)
ranked_from_rising (v ∷ u ∷ us) h =
    let rest = ranked_from_rising (u ∷ us) (rising-tail (key_of v) (key_of u) (map key_of us) h) in
    let less = Less_from_key_less (key_of v) (key_of u) (rising-head (key_of v) (key_of u) (map key_of us) h) in
    ((less, below_all v u us less rest.0), rest)

pub rising_from_ranked : (vs : List Value) → AreOneKind (map key_of vs) → AreRanked vs → AreRising (map key_of vs)
rising_from_ranked [] kind h = λ i d lt. absurd (omega (arith, lt))
rising_from_ranked (v ∷ []) kind h = rising-one (key_of v)
rising_from_ranked (v ∷ u ∷ us) kind h =
    let one : IsOneKind (key_of v) (key_of u) = kind (key_of v) (key_of u) (0, omega arith, refl) (1, omega arith, refl) in
    let behind : (k : Value) → Contains (map key_of (u ∷ us)) k → Contains (map key_of (v ∷ u ∷ us)) k = λ k c. (suc c.0, omega (arith, c.1), c.2) in
    let rest = rising_from_ranked (u ∷ us) (λ k l a b. kind k l (behind k a) (behind l b)) h.1 in
    rising-cons (key_of v) (key_of u) (map key_of us) (key_less_from_Less (key_of v) (key_of u) one h.0.0) rest

pub ranked_unique : (vs us : List Value) → AreRanked vs → AreRanked us → HaveSameMembers vs us → vs ≡ us
ranked_unique = ranked.ranked_unique Below both_below

-- the keys of such values differ
pub ranked_keys_differ : (vs : List Value) → AreRanked vs → AllPairs (λ k l. k ≢ l) (map key_of vs)
ranked_keys_differ [] h = λ i j d lt there. absurd (omega (arith, there))
ranked_keys_differ (v ∷ vs) h =
    let other = All-from_recursion (λ k. key_of v ≢ k) (map key_of vs) (apart vs h.0) in
    AllPairs-cons (λ k l. k ≢ l) (key_of v) (map key_of vs) other (ranked_keys_differ vs h.1)
  where
    apart : (us : List Value) → AllByRecursion (Below v) us → AllByRecursion (λ k. key_of v ≢ k) (map key_of us)
    apart [] g = tt
    apart (u ∷ us) g = (λ e. let same = Equal_from_same (key_of v) (key_of u) e in let less = g.0 in cc, apart us g.1)

pub rising_keys_differ : (vs : List Value) → AreRising (map key_of vs) → AllPairs (λ k l. k ≢ l) (map key_of vs)
rising_keys_differ vs h = ranked_keys_differ vs (ranked_from_rising vs h)
