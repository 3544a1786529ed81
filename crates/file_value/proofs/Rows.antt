-- The values of a row as a list, and the keys of a set or a map.
use Rattle.std.proofs.Common.{◌≡◌, ◌≢◌, ℕ, zero, suc, ◌≤◌, ◌<◌, List, ◌∷◌, length, map, get_or, None}
use Rattle.std.proofs.Common.{refl, sym, ap, ◌∙◌, subst, arith, Bool, ℤ, Option, Some}
use Rattle.std.specs.List.{AllPairs, Contains}
use Rattle.std.proofs.lemmas.List.{length-map}
use Rattle.std.proofs.Props.{props}
use Rattle.frozen_model.specs.Trees.{Holder, AList, ASet, AMap}
use Rattle.frozen_model.specs.Values.{Value, Values, One, Bytes, Items, Record, Absent, Present, NoValue, And}
use Rattle.frozen_model.specs.Values.{Truth, Number, key_of, Rises, count, nth}
use Rattle.key_order.specs.Keys.{kind_rank, IsOneKind, AreOneKind, AreRising}
use Rattle.key_order.specs.InOrder.{row, in_order}
use Rattle.key_order.proofs.Rising.{rises_by_keys, rising_keys_differ}
use Rattle.typed_tree.specs.Parts.{IsSet, IsMap, items_of}
use Rattle.compact_codec.proofs.Listed.{row-listed, rising-in_order}
use Rattle.file_value.specs.Putting.{listed}

pub length_listed : (vs : Values) → length (listed vs) ≡ count vs
length_listed NoValue = refl
length_listed (And v vs) = omega (arith, length_listed vs)

pub listed_at : (vs : Values) (i : ℕ) (d : Value) → i < count vs → get_or (listed vs) i d ≡ nth vs i
listed_at NoValue i d lt = absurd (omega (arith, lt))
listed_at (And v vs) zero d lt = refl
listed_at (And v vs) (suc i) d lt = listed_at vs i d (omega (arith, lt))

-- ---- what kind a key is of

flags : (a : Bool) (v : Value) → 1 ≡ kind_rank v → IsOneKind (One (Truth a)) v
flags a (One (Truth b)) e = tt
flags a (One (Number z)) e = absurd (omega (arith, e))
flags a (Bytes bs) e = absurd (omega (arith, e))
flags a (Items g vs) e = absurd (omega (arith, e))
flags a Absent e = absurd (omega (arith, e))
flags a (Present v) e = absurd (omega (arith, e))
flags a (Record ids vs) e = absurd (omega (arith, e))

numbers : (a : ℤ) (v : Value) → 0 ≡ kind_rank v → IsOneKind (One (Number a)) v
numbers a (One (Number z)) e = tt
numbers a (One (Truth b)) e = absurd (omega (arith, e))
numbers a (Bytes bs) e = absurd (omega (arith, e))
numbers a (Items g vs) e = absurd (omega (arith, e))
numbers a Absent e = absurd (omega (arith, e))
numbers a (Present v) e = absurd (omega (arith, e))
numbers a (Record ids vs) e = absurd (omega (arith, e))

strings : (a : List ℕ) (v : Value) → 2 ≡ kind_rank v → IsOneKind (Bytes a) v
strings a (Bytes bs) e = tt
strings a (One (Truth b)) e = absurd (omega (arith, e))
strings a (One (Number z)) e = absurd (omega (arith, e))
strings a (Items g vs) e = absurd (omega (arith, e))
strings a Absent e = absurd (omega (arith, e))
strings a (Present v) e = absurd (omega (arith, e))
strings a (Record ids vs) e = absurd (omega (arith, e))

one_kind : (u v : Value) → kind_rank u ≡ kind_rank v → kind_rank u ≤ 2 → IsOneKind u v
one_kind (One (Truth a)) v e low = flags a v e
one_kind (One (Number a)) v e low = numbers a v e
one_kind (Bytes a) v e low = strings a v e
one_kind (Items g vs) v e low = absurd (omega (arith, low))
one_kind Absent v e low = absurd (omega (arith, low))
one_kind (Present u) v e low = absurd (omega (arith, low))
one_kind (Record ids vs) v e low = absurd (omega (arith, low))

key_self : (v : Value) → kind_rank v ≤ 2 → key_of v ≡ v
key_self (One x) low = refl
key_self (Bytes bs) low = refl
key_self (Items g vs) low = absurd (omega (arith, low))
key_self Absent low = absurd (omega (arith, low))
key_self (Present u) low = absurd (omega (arith, low))
key_self (Record ids vs) low = absurd (omega (arith, low))

-- ---- lists of keys

key_at : (vs : Values) (i : ℕ) (d : Value) → i < count vs
    → get_or (map key_of (listed vs)) i d ≡ key_of (nth vs i)
key_at NoValue i d lt = absurd (omega (arith, lt))
key_at (And v vs) zero d lt = refl
key_at (And v vs) (suc i) d lt = key_at vs i d (omega (arith, lt))

own_keys : (vs : Values) → ((i : ℕ) → i < count vs → kind_rank (nth vs i) ≤ 2)
    → map key_of (listed vs) ≡ listed vs
own_keys NoValue h = refl
own_keys (And v vs) h =
    ap (λ x. x ∷ map key_of (listed vs)) (key_self v (h 0 (omega arith)))
    ∙ ap (λ xs. v ∷ xs) (own_keys vs (λ i lt. h (suc i) (omega (arith, lt))))

-- all keys have this rank
abbrev AreOf : Values → ℕ → Type 0
AreOf vs r = (i : ℕ) → i < count vs → kind_rank (key_of (nth vs i)) ≡ r

rank_in : (vs : Values) (r : ℕ) (u : Value) → AreOf vs r → Contains (map key_of (listed vs)) u
    → kind_rank u ≡ r
rank_in vs r u h c =
    let lt : c.0 < count vs = omega (arith, c.1, length-map (listed vs) key_of, length_listed vs) in
    ap kind_rank (sym (sym (key_at vs c.0 u lt) ∙ c.2)) ∙ h c.0 lt

kinds_agree : (vs : Values) (r : ℕ) → AreOf vs r → r ≤ 2 → AreOneKind (map key_of (listed vs))
kinds_agree vs r h low u v c d =
    let e = rank_in vs r u h c in
    one_kind u v (e ∙ sym (rank_in vs r v h d)) (omega (arith, e, low))

rising : (h : Holder) (vs : Values) → h ≢ AList → Rises h None vs → AreRising (map key_of (listed vs))
rising h vs keyed r = (rises_by_keys h (listed vs) keyed).0 (subst (Rises h None) (sym (row-listed vs)) r)

set_keyed : ASet ≢ AList
set_keyed e = cc

map_keyed : AMap ≢ AList
map_keyed e = cc

pub rises_prop : (h : Holder) (b : Option Value) (vs : Values) → IsProp (Rises h b vs)
rises_prop h b NoValue = hlevel props
rises_prop h b (And v vs) = hlevel (props, rises_prop h (Some (key_of v)) vs)

-- ---- sets

set_is : (v : Value) → IsSet v → Items ASet (items_of v) ≡ v
set_is (Items ASet vs) h = refl
set_is v h = absurd h

-- the items of a set are keys of one kind, they differ, and in order they are the set
pub record SetKeys (v : Value) : Type 0 where
  pub kind : AreOneKind (listed (items_of v))
  pub differ : AllPairs (λ a b. a ≢ b) (listed (items_of v))
  pub whole : Items ASet (row (in_order (listed (items_of v)))) ≡ v

-- a set is so where its items are keys of one kind that rise
pub keys_of_set : (v : Value) (r : ℕ) → r ≤ 2 → IsSet v
    → ((i : ℕ) → i < count (items_of v) → kind_rank (nth (items_of v) i) ≡ r)
    → Rises ASet None (items_of v) → SetKeys v
keys_of_set v r low s ranks rises =
    let vs = items_of v in
    let own = own_keys vs (λ i lt. omega (arith, ranks i lt, low)) in
    let keyed : AreOf vs r =
    λ i lt. ap kind_rank (key_self (nth vs i) (omega (arith, ranks i lt, low))) ∙ ranks i lt in record {
      kind = subst AreOneKind own (kinds_agree vs r keyed low);
      differ = subst (AllPairs (λ a b. a ≢ b)) own
          (rising_keys_differ (listed vs) (rising ASet vs set_keyed rises));
      whole = ap (Items ASet) (rising-in_order ASet vs set_keyed rises) ∙ set_is v s;
    }

-- ---- maps

map_is : (v : Value) → IsMap v → Items AMap (items_of v) ≡ v
map_is (Items AMap vs) h = refl
map_is v h = absurd h

-- the keys of a map are of one kind, they differ, and its pairs by their order are the map
pub record MapKeys (v : Value) : Type 0 where
  pub kind : AreOneKind (map key_of (listed (items_of v)))
  pub differ : AllPairs (λ a b. a ≢ b) (map key_of (listed (items_of v)))
  pub whole : Items AMap (row (in_order (listed (items_of v)))) ≡ v

-- a map is so where its pairs have keys of one kind that rise
pub keys_of_map : (v : Value) (r : ℕ) → r ≤ 2 → IsMap v
    → ((i : ℕ) → i < count (items_of v) → kind_rank (key_of (nth (items_of v) i)) ≡ r)
    → Rises AMap None (items_of v) → MapKeys v
keys_of_map v r low s ranks rises =
    let vs = items_of v in record {
      kind = kinds_agree vs r ranks low;
      differ = rising_keys_differ (listed vs) (rising AMap vs map_keyed rises);
      whole = ap (Items AMap) (rising-in_order AMap vs map_keyed rises) ∙ map_is v s;
    }
