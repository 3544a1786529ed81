-- The first item whose key a literal is, among keys that rise.
use Rattle.std.proofs.Common.{◌≡◌, ◌≢◌, ℕ, zero, suc, ◌+◌, ◌<◌, Bool, true, false, List, ◌∷◌, length}
use Rattle.std.proofs.Common.{get_or, slice_get}
use Rattle.std.proofs.Common.{refl, sym, ap, subst, ◌∙◌, arith, Option, Some, None, Less, Equal}
use Rattle.std.specs.Prelude.{if◌then◌else◌}
use Rattle.std.specs.List.{Contains}
use Rattle.std.proofs.lemmas.Bool.Decides.{Decides-int_eq}
use Rattle.std.proofs.lemmas.Slice.Eq.{bytes_eq-Decides}
use Rattle.std.proofs.lemmas.Cmp.{tied_itself}
use Rattle.frozen_model.specs.Trees.{Holder, AList, ASet, AMap}
use Rattle.frozen_model.specs.Values.{Truth, Number, Value, One, Bytes, Values, NoValue, And, count, nth}
use Rattle.frozen_model.specs.Values.{key_less, key_of}
use Rattle.frozen_model.specs.Values.{Rises}
use Rattle.key_lookup.specs.Order.{IsRising}
use Rattle.key_order.proofs.Order.{value_total, Less_from_key_less}
use Rattle.path_text.specs.Steps.{PathKey, int_key, flag_key, text_key, bytes_key}
use Rattle.evolve.specs.Parts.{is_key, item_with}
use Rattle.lens_lookup.specs.Sought.{SoughtKey, sought_number, sought_bytes, sought, as_key, value_of_key}
use Rattle.lens_lookup.specs.Sought.{keys_in, sought_cmp}
use Rattle.lens_lookup.specs.SoughtOrder.{sought_order}

-- ---- a literal is a key exactly where both are the same to a search

is_key_from : (key : PathKey) (v : Value) → as_key v ≡ sought key → is_key key v ≡ true
is_key_from (int_key z) (One (Number x)) e = let same : z ≡ x = cc in (Decides-int_eq z x).1 same
is_key_from (flag_key true) (One (Truth true)) e = refl
is_key_from (flag_key true) (One (Truth false)) e = absurd cc
is_key_from (flag_key false) (One (Truth false)) e = refl
is_key_from (flag_key false) (One (Truth true)) e = absurd cc
is_key_from (text_key s) (Bytes bs) e = let same : s ≡ bs = cc in (bytes_eq-Decides s bs).1 same
is_key_from (bytes_key s) (Bytes bs) e = let same : s ≡ bs = cc in (bytes_eq-Decides s bs).1 same
is_key_from (text_key s) (One (Truth b)) e = absurd cc
is_key_from (text_key s) (One (Number x)) e = absurd cc
is_key_from (bytes_key s) (One (Truth b)) e = absurd cc
is_key_from (bytes_key s) (One (Number x)) e = absurd cc
is_key_from key v e = absurd cc

same_to_search : (key : PathKey) (v : Value) → is_key key v ≡ true → as_key v ≡ sought key
same_to_search (int_key z) (One (Number x)) e = ap sought_number (sym ((Decides-int_eq z x).0 e))
same_to_search (flag_key true) (One (Truth true)) e = refl
same_to_search (flag_key true) (One (Truth false)) e = absurd cc
same_to_search (flag_key false) (One (Truth false)) e = refl
same_to_search (flag_key false) (One (Truth true)) e = absurd cc
same_to_search (text_key s) (Bytes bs) e = ap sought_bytes (sym ((bytes_eq-Decides s bs).0 e))
same_to_search (bytes_key s) (Bytes bs) e = ap sought_bytes (sym ((bytes_eq-Decides s bs).0 e))
same_to_search key v e = absurd cc

is_other : (key : PathKey) (v : Value) → (as_key v ≡ sought key → ⊥) → is_key key v ≡ false
is_other key v n = by (is_key key v) refl
  where
    by : (b : Bool) → is_key key v ≡ b → is_key key v ≡ false
    by true e = absurd (n (same_to_search key v e))
    by false e = e

-- ---- keys that rise

less_keys : (k l : Value) → key_less k l ≡ true → sought_cmp (as_key k) (as_key l) ≡ Less
less_keys (One (Truth false)) (One (Truth true)) h = refl
less_keys (One (Truth true)) _ h = absurd cc
less_keys (One (Number x)) (One (Number y)) h = Less_from_key_less (One (Number x)) (One (Number y)) h
less_keys (Bytes a) (Bytes b) h = Less_from_key_less (Bytes a) (Bytes b) h
less_keys _ _ h = absurd cc

above_first : (h : Holder) (k v : Value) (vs : Values) → h ≢ AList → Rises h (Some k) (And v vs)
    → sought_cmp (as_key k) (as_key (key_of v)) ≡ Less
above_first AList k v vs n r = absurd (n refl)
above_first ASet k v vs n r = less_keys k (key_of v) r.0
above_first AMap k v vs n r = less_keys k (key_of v) r.0

-- a key is below each that stands behind it
below : (h : Holder) (k : Value) (vs : Values) (i : ℕ) (m : SoughtKey) → h ≢ AList → Rises h (Some k) vs
    → slice_get (keys_in vs) i ≡ Some m → sought_cmp (as_key k) m ≡ Less
below h k NoValue i m n r e = absurd cc
below h k (And v vs) zero m n r e =
    let same : as_key (key_of v) ≡ m = cc in
    subst (λ z. sought_cmp (as_key k) z ≡ Less) same (above_first h k v vs n r)
below h k (And v vs) (suc i) m n r e =
    sought_order.transitive (as_key k) (as_key (key_of v)) m (above_first h k v vs n r)
    (below h (key_of v) vs i m n r.1 e)

not_below_itself : (a : SoughtKey) → sought_cmp a a ≡ Less → ⊥
not_below_itself a less = let same : sought_cmp a a ≡ Equal = tied_itself value_total (value_of_key a) in cc

rising-cons : (a b : SoughtKey) (ks : List SoughtKey) → sought_cmp a b ≡ Less → IsRising sought_cmp (b ∷ ks)
    → IsRising sought_cmp (a ∷ b ∷ ks)
rising-cons a b ks less h zero d lt = less
rising-cons a b ks less h (suc i) d lt =
    let e : suc i + 1 ≡ suc (i + 1) = omega arith in rw e (h i d (omega arith))

rising_after : (h : Holder) (k : Value) (vs : Values) → h ≢ AList → Rises h (Some k) vs
    → IsRising sought_cmp (as_key k ∷ keys_in vs)
rising_after h k NoValue n r = λ i d lt. absurd (omega (arith, lt))
rising_after h k (And v vs) n r =
    rising-cons (as_key k) (as_key (key_of v)) (keys_in vs) (above_first h k v vs n r)
    (rising_after h (key_of v) vs n r.1)

pub keys_rise : (h : Holder) (vs : Values) → h ≢ AList → Rises h None vs → IsRising sought_cmp (keys_in vs)
keys_rise h NoValue n r = λ i d lt. absurd (omega (arith, lt))
keys_rise h (And v vs) n r = rising_after h (key_of v) vs n r.1

-- ---- what a search finds

-- where the key stands at a place, the item there is the first with this key
pub found : (h : Holder) (key : PathKey) (k : Option Value) (vs : Values) (i : ℕ) → h ≢ AList → Rises h k vs
    → slice_get (keys_in vs) i ≡ Some (sought key) → item_with key vs ≡ Some (nth vs i)
found h key k NoValue i n r e = absurd cc
found h key k (And v vs) zero n r e =
    let same : as_key (key_of v) ≡ sought key = cc in
    ap (λ b. if b then Some v else item_with key vs) (is_key_from key (key_of v) same)
found h key k (And v vs) (suc i) n r e =
    let less = below h (key_of v) vs i (sought key) n r.1 e in
    let other = is_other key (key_of v)
    (λ s. not_below_itself (sought key) (subst (λ z. sought_cmp z (sought key) ≡ Less) s less)) in
    ap (λ b. if b then Some v else item_with key vs) other ∙ found h key (Some (key_of v)) vs i n r.1 e

pub lacking : (key : PathKey) (vs : Values) → (Contains (keys_in vs) (sought key) → ⊥)
    → item_with key vs ≡ None
lacking key NoValue n = refl
lacking key (And v vs) n =
    ap (λ b. if b then Some v else item_with key vs) (is_other key (key_of v) (λ s. n (0, omega arith, s)))
    ∙ lacking key vs (λ c. n (suc c.0, omega (arith, c.1), c.2))

-- ---- the list of keys

pub key_within : (vs : Values) (i : ℕ) (m : SoughtKey) → slice_get (keys_in vs) i ≡ Some m → i < count vs
key_within NoValue i m e = absurd cc
key_within (And v vs) zero m e = omega arith
key_within (And v vs) (suc i) m e = omega (arith, key_within vs i m e)

pub keys_counted : (vs : Values) → length (keys_in vs) ≡ count vs
keys_counted NoValue = refl
keys_counted (And v vs) = ap suc (keys_counted vs)

pub key_at : (vs : Values) (i : ℕ) (d : SoughtKey) → i < count vs
    → get_or (keys_in vs) i d ≡ as_key (key_of (nth vs i))
key_at NoValue i d lt = absurd (omega (arith, lt))
key_at (And v vs) zero d lt = refl
key_at (And v vs) (suc i) d lt = key_at vs i d (omega (arith, lt))
