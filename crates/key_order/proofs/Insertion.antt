-- Insertion by key ranks values whose keys are of one kind and differ.
use Rattle.std.proofs.Common.{◌≡◌, ◌≢◌, ℕ, suc, ◌<◌, List, [], ◌∷◌, length, map, get_or, Bool, true, false, if◌then◌else◌, Ordering, Less, Equal, Greater, Option, Some, None, IsPermutation, refl, sym, ap, ◌∙◌, arith}
use Rattle.std.specs.List.{All, AllByRecursion, AllPairs, Contains, IsDistinct}
use Rattle.std.specs.Ordering.{is_eq, eq_by_cmp}
use Rattle.std.proofs.lemmas.Cmp.{eq_by_cmp_equiv}
use Rattle.std.proofs.lemmas.List.{get_or-map, length-map}
use Rattle.std.proofs.lemmas.List.Elements.{All-from_recursion, recursion_from_All, Contains-get_or}
use Rattle.std.proofs.lemmas.List.Sorted.{All-permutation, Contains-permutation, IsPermutation-refl, IsPermutation-sym, IsPermutation-trans, IsPermutation-cons, IsPermutation-map, IsPermutation-middle}
use Rattle.std.proofs.lemmas.Map.Keys.{IsDistinct-head, IsDistinct-tail, IsDistinct-cons, IsDistinct-from_apart, IsDistinct-IsPermutation}
use Rattle.frozen_model.specs.Trees.{Holder, AList, ASet, AMap}
use Rattle.frozen_model.specs.Values.{Value, key_less, key_of, Rises}
use Rattle.key_order.specs.Keys.{AreOneKind, AreRising, IsOneKind}
use Rattle.base_lists.proofs.Insertion.{in_order_moves}
use Rattle.key_order.specs.InOrder.{row, insert, in_order, HaveSameMembers}
use Rattle.key_order.proofs.Order.{value_cmp, value_total, Less_from_key_less, key_less_from_Greater, same_from_Equal}
use Rattle.key_order.proofs.Rising.{Below, AreRanked, below_all, ranked_from_rising, rising_from_ranked, ranked_unique, rises_by_keys}

-- ---- the same values

pub order_moves : (vs : List Value) → IsPermutation vs (in_order vs)
order_moves vs = in_order_moves key_less key_of vs

-- ---- each insertion keeps the rank

-- the order of their keys tells the two apart
abbrev Differs : Value → Value → Bool
Differs v u = eq_by_cmp value_cmp (key_of v) (key_of u)

abbrev Fits : Value → Value → Type 0
Fits v u = IsOneKind (key_of v) (key_of u) × (Differs v u ≡ false)

below : (v u : Value) → Fits v u → key_less (key_of u) (key_of v) ≡ false → Below v u
below v u fits less = by (value_cmp (key_of v) (key_of u)) refl
  where
    by : (o : Ordering) → value_cmp (key_of v) (key_of u) ≡ o → Below v u
    by Less e = e
    by Equal e = absurd (let same = ap is_eq e in let other = fits.1 in cc)
    by Greater e = absurd (let more = key_less_from_Greater (key_of v) (key_of u) fits.0 e in cc)

below_inserted : (w v : Value) (us : List Value) → Below w v → AllByRecursion (Below w) us → AllByRecursion (Below w) (insert v us)
below_inserted w v [] less h = (less, tt)
below_inserted w v (u ∷ us) less h = by (below_inserted w v us less h.1) (key_less (key_of u) (key_of v))
  where
    by : AllByRecursion (Below w) (insert v us) → (b : Bool) → AllByRecursion (Below w) (if b then u ∷ insert v us else v ∷ u ∷ us)
    by rest true = (h.0, rest)
    by rest false = (less, h)

ranked-insert : (v : Value) (us : List Value) → AllByRecursion (Fits v) us → AreRanked us → AreRanked (insert v us)
ranked-insert v [] fits h = (tt, tt)
ranked-insert v (u ∷ us) fits h = by (ranked-insert v us fits.1 h.1) (key_less (key_of u) (key_of v)) refl
  where
    by : AreRanked (insert v us) → (b : Bool) → key_less (key_of u) (key_of v) ≡ b → AreRanked (if b then u ∷ insert v us else v ∷ u ∷ us)
    by rest true less = (below_inserted u v us (Less_from_key_less (key_of u) (key_of v) less) h.0, rest)
    by rest false less = let first = below v u fits.0 less in ((first, below_all v u us first h.0), h)

abbrev OneKind : List Value → Type 0
OneKind vs = (v u : Value) → Contains vs v → Contains vs u → IsOneKind (key_of v) (key_of u)

ranked-in_order : (vs : List Value) → OneKind vs → IsDistinct Differs vs → AreRanked (in_order vs)
ranked-in_order [] kind apart = tt
ranked-in_order (v ∷ vs) kind apart =
    let behind : (w : Value) → Contains vs w → Contains (v ∷ vs) w = λ w c. (suc c.0, omega (arith, c.1), c.2) in
    let fits : All (Fits v) vs = λ k d h. (kind v (get_or vs k d) (0, omega arith, refl) (behind (get_or vs k d) (Contains-get_or vs k d h)), All-from_recursion (λ u. Differs v u ≡ false) vs (IsDistinct-head Differs v vs apart) k d h) in
    let rest = ranked-in_order vs (λ w u a b. kind w u (behind w a) (behind u b)) (IsDistinct-tail Differs v vs apart) in
    ranked-insert v (in_order vs) (recursion_from_All (Fits v) (in_order vs) (All-permutation (Fits v) vs (in_order vs) (order_moves vs) fits)) rest

-- ---- from the keys to the values

key_in : (vs : List Value) (v : Value) → Contains vs v → Contains (map key_of vs) (key_of v)
key_in vs v (k, h, e) = (k, omega (arith, length-map vs key_of), get_or-map key_of vs k v (key_of v) h ∙ ap key_of e)

one_kind : (vs : List Value) → AreOneKind (map key_of vs) → OneKind vs
one_kind vs kind v u a b = kind (key_of v) (key_of u) (key_in vs v a) (key_in vs u b)

distinct_keys : (vs : List Value) → OneKind vs → AllPairs (λ k l. k ≢ l) (map key_of vs) → IsDistinct Differs vs
distinct_keys vs kind apart = IsDistinct-from_apart Differs vs (λ i j d lt h. by i j d lt h (value_cmp (key_of (get_or vs i d)) (key_of (get_or vs j d))) refl)
  where
    by : (i j : ℕ) (d : Value) → i < j → j < length vs → (o : Ordering) → value_cmp (key_of (get_or vs i d)) (key_of (get_or vs j d)) ≡ o → Differs (get_or vs i d) (get_or vs j d) ≡ false
    by i j d lt h Less e = ap is_eq e
    by i j d lt h Greater e = ap is_eq e
    by i j d lt h Equal e =
        let m : i < length vs = omega arith in
        let one = kind (get_or vs i d) (get_or vs j d) (Contains-get_or vs i d m) (Contains-get_or vs j d h) in
        let same = same_from_Equal (key_of (get_or vs i d)) (key_of (get_or vs j d)) one e in
        absurd (apart i j (key_of d) lt (omega (arith, length-map vs key_of)) (get_or-map key_of vs i d (key_of d) m ∙ same ∙ sym (get_or-map key_of vs j d (key_of d) h)))

distinct_ranked : (vs : List Value) → AreRanked vs → IsDistinct Differs vs
unfolding IsDistinct
distinct_ranked [] h = tt
distinct_ranked (v ∷ vs) h = IsDistinct-cons Differs v vs (apart vs h.0) (distinct_ranked vs h.1)
  where
    apart : (us : List Value) → AllByRecursion (Below v) us → AllByRecursion (λ u. Differs v u ≡ false) us
    apart [] h = tt
    apart (u ∷ us) h = (ap is_eq h.0, apart us h.1)

one_kind_moved : (vs us : List Value) → IsPermutation vs us → AreOneKind (map key_of vs) → AreOneKind (map key_of us)
one_kind_moved vs us p kind k l a b =
    let back = IsPermutation-sym (map key_of vs) (map key_of us) (IsPermutation-map key_of vs us p) in
    kind k l (Contains-permutation (map key_of us) (map key_of vs) k back a) (Contains-permutation (map key_of us) (map key_of vs) l back b)

-- ---- the laws

rises_anyway : (k : Option Value) (vs : List Value) → Rises AList k (row vs)
rises_anyway k [] = tt
rises_anyway k (v ∷ vs) = (refl, rises_anyway (Some (key_of v)) vs)

pub order_rises : (h : Holder) (vs : List Value) → AreOneKind (map key_of vs) → AllPairs (λ k l. k ≢ l) (map key_of vs) → Rises h None (row (in_order vs))
order_rises h vs kind apart = by h
  where
    ranked : AreRanked (in_order vs)
    ranked = ranked-in_order vs (one_kind vs kind) (distinct_keys vs (one_kind vs kind) apart)

    rising : AreRising (map key_of (in_order vs))
    rising = rising_from_ranked (in_order vs) (one_kind_moved vs (in_order vs) (order_moves vs) kind) ranked

    by : (h : Holder) → Rises h None (row (in_order vs))
    by AList = rises_anyway None (in_order vs)
    by ASet = (rises_by_keys ASet (in_order vs) (λ e. cc)).1 rising
    by AMap = (rises_by_keys AMap (in_order vs) (λ e. cc)).1 rising

pub rising_is_unique : (h : Holder) (vs us : List Value) → h ≢ AList → Rises h None (row vs) → Rises h None (row us) → HaveSameMembers vs us → vs ≡ us
rising_is_unique h vs us keyed r s same = ranked_unique vs us (ranked_from_rising vs ((rises_by_keys h vs keyed).0 r)) (ranked_from_rising us ((rises_by_keys h us keyed).0 s)) same

pub rising_keys_are_in_order : (vs us : List Value) → AreOneKind (map key_of vs) → IsPermutation vs us → AreRising (map key_of us) → us ≡ in_order vs
rising_keys_are_in_order vs us kind p rising =
    let ranked = ranked_from_rising us rising in
    let back = IsPermutation-sym vs us p in
    let apart = IsDistinct-IsPermutation Differs (λ v u. (eq_by_cmp_equiv value_total).symm (key_of v) (key_of u)) us vs back (distinct_ranked us ranked) in
    let moved = IsPermutation-trans us vs (in_order vs) back (order_moves vs) in
    let same : HaveSameMembers us (in_order vs) = λ v. (Contains-permutation us (in_order vs) v moved, Contains-permutation (in_order vs) us v (IsPermutation-sym us (in_order vs) moved)) in
    ranked_unique us (in_order vs) ranked (ranked-in_order vs (one_kind vs kind) apart) same
