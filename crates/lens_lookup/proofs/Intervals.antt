-- The items whose keys lie in an interval are those from one place up to another.
use Rattle.std.proofs.Common.{◌≡◌, ◌≢◌, ℕ, zero, suc, ◌+◌, ◌≤◌, ◌⊎◌, inl, inr, Bool, true, false, cond, length}
use Rattle.std.proofs.Common.{refl, sym, ap, subst, ◌∙◌, arith, Option, Some, None, Ordering, Less, Equal, Greater}
use Rattle.std.proofs.Common.{is_lt, Ok, Err}
use Rattle.std.specs.Prelude.{if◌then◌else◌}
use Rattle.std.proofs.Math.Logic.{∥∥₁_elim}
use Rattle.std.proofs.Math.Bool.{Bool-set}
use Rattle.std.proofs.lemmas.List.Sums.{sum_by-cons}
use Rattle.idl_profile.specs.declared.kinds.TypeKind.{TypeKind}
use Rattle.idl_profile.specs.declared.kinds.TypeKind.TheVariants as kinds
use Rattle.idl_profile.specs.Types.{TypeTree, set_of, map_of, kind_of}
use Rattle.frozen_model.specs.Trees.{Tree, Holder, AList, ASet, AMap, Struct, Field, NoField}
use Rattle.frozen_model.specs.Values as is
use Rattle.frozen_model.specs.Values.{Truth, Number, Value, One, Bytes, Values, NoValue, And, count}
use Rattle.frozen_model.specs.Values.{key_less, key_of, Rises, Of, OfEach, none, more, record_of, part}
use Rattle.type_kinds.specs.KindsOf.{kinds_of}
use Rattle.typed_tree.specs.Parts.{IsItems, items_of}
use Rattle.path_text.specs.declared.fault.PathFault.{PathFault}
use Rattle.path_text.specs.declared.fault.PathFault.TheVariants.{BadKey}
use Rattle.path_text.specs.Steps.{PathKey, int_key, flag_key, text_key, bytes_key, key_step}
use Rattle.path_text.specs.Fitting.{is_key_of, step_to}
use Rattle.key_lookup.specs.Order.{count_below}
use Rattle.key_order.specs.Keys.{IsOneKind}
use Rattle.key_order.proofs.Order.{value_cmp, value_total, one_kind_from_less, one_kind-trans}
use Rattle.key_order.proofs.Order.{Less_from_key_less, key_less_from_Less}
use Rattle.evolve.specs.declared.lens.Lens.{Lens}
use Rattle.evolve.specs.Lenses.{type_of_lens, value_of_lens, HasForm}
use Rattle.evolve.specs.LensItems.{from_to}
use Rattle.evolve.proofs.Walking.{none_left}
use Rattle.evolve.proofs.Known.{lens_value}
use Rattle.evolve.proofs.Shaped.{formed}
use Rattle.lens_lookup.specs.Sought.{sought, as_key, value_of_key, keys_in, sought_cmp}
use Rattle.lens_lookup.specs.KeySorts.{is_keyed}
use Rattle.lens_lookup.specs.Intervals.{HasKeys, is_key_in, is_below, items_between}
use Rattle.lens_lookup.proofs.KeyForms.{holder, no_list, lens_held, held_items, lens_rises}

-- ---- the order of keys as a test

-- of keys of one kind
less_is : (v u : Value) → IsOneKind v u → key_less v u ≡ is_lt (value_cmp v u)
less_is v u k = by (key_less v u) (value_cmp v u) refl refl
  where
    by : (b : Bool) (o : Ordering) → key_less v u ≡ b → value_cmp v u ≡ o → b ≡ is_lt o
    by true o e f = ap is_lt (sym (Less_from_key_less v u e) ∙ f)
    by false Less e f = sym e ∙ key_less_from_Less v u k f
    by false Equal e f = refl
    by false Greater e f = refl

less_trans : (v u w : Value) → key_less v u ≡ true → key_less u w ≡ true → key_less v w ≡ true
less_trans v u w a b =
    key_less_from_Less v w (one_kind-trans v u w (one_kind_from_less v u a) (one_kind_from_less u w b))
    (value_total.trans v u w (Less_from_key_less v u a) (Less_from_key_less u w b))

-- ---- how many keys are below

abbrev pub counted : PathKey → Values → ℕ
counted key NoValue = 0
counted key (And v vs) = if is_below key (key_of v) then suc (counted key vs) else counted key vs

-- a literal stands to a key as what is sought does
abbrev pub Stands : PathKey → Value → Type 0
Stands key v = is_below key v ≡ is_lt (sought_cmp (as_key v) (sought key))

abbrev pub StandsToEach : PathKey → Values → Type 0
StandsToEach key NoValue = Unit {0}
StandsToEach key (And v vs) = Stands key (key_of v) × StandsToEach key vs

suc_if : (b : Bool) (m n : ℕ) → m ≡ n → cond b 1 0 + m ≡ (if b then suc n else n)
suc_if true m n e = omega (arith, e)
suc_if false m n e = omega (arith, e)

pub below_counted : (key : PathKey) (vs : Values) → StandsToEach key vs
    → count_below sought_cmp (keys_in vs) (sought key) ≡ counted key vs
below_counted key NoValue a = refl
below_counted key (And v vs) a =
    sum_by-cons (λ k. cond {A = ℕ} (is_lt (sought_cmp k (sought key))) 1 0) (as_key (key_of v)) (keys_in vs)
    ∙ suc_if (is_lt (sought_cmp (as_key (key_of v)) (sought key))) _ (counted key vs) (below_counted key vs a.1)
    ∙ ap (λ b. if b then suc (counted key vs) else counted key vs) (sym a.0)

-- ---- behind a key that is not below stands none that is

above_first : (h : Holder) (k v : Value) (vs : Values) → h ≢ AList → Rises h (Some k) (And v vs)
    → key_less k (key_of v) ≡ true
above_first AList k v vs n r = absurd (n refl)
above_first ASet k v vs n r = r.0
above_first AMap k v vs n r = r.0

not_below : (key : PathKey) (k l : Value) → key_less k l ≡ true → is_below key k ≡ false → is_below key l ≡ false
not_below key k l less e = by (is_below key l) refl
  where
    by : (b : Bool) → is_below key l ≡ b → b ≡ false
    by true f = sym (less_trans k l (value_of_key (sought key)) less f) ∙ e
    by false f = refl

none_behind : (h : Holder) (key : PathKey) (k : Value) (vs : Values) → h ≢ AList → Rises h (Some k) vs
    → is_below key k ≡ false → counted key vs ≡ 0
none_behind h key k NoValue n r e = refl
none_behind h key k (And v vs) n r e =
    let f = not_below key k (key_of v) (above_first h k v vs n r) e in
    ap (λ b. if b then suc (counted key vs) else counted key vs) f ∙ none_behind h key (key_of v) vs n r.1 f

-- ---- the interval

step : (x y : Bool) (v : Value) (vs rest : Values) (a b : ℕ) → from_to vs a b ≡ rest → (x ≡ false → a ≡ 0)
    → (y ≡ false → b ≡ 0)
    → from_to (And v vs) (if x then suc a else a) (if y then suc b else b)
    ≡ (if (if x then false else y) then And v rest else rest)
step true true v vs rest a b e p q = e
step true false v vs rest a b e p q =
    ap (from_to (And v vs) (suc a)) (q refl) ∙ sym (none_left vs a 0 (omega arith))
    ∙ ap (from_to vs a) (sym (q refl)) ∙ e
step false true v vs rest a b e p q =
    ap (λ n. from_to (And v vs) n (suc b)) (p refl)
    ∙ ap (λ us. And v us) (ap (λ n. from_to vs n b) (sym (p refl)) ∙ e)
step false false v vs rest a b e p q =
    ap (from_to (And v vs) a) (q refl) ∙ ap (λ n. from_to (And v vs) n 0) (p refl)
    ∙ sym (none_left vs a 0 (omega arith)) ∙ ap (from_to vs a) (sym (q refl)) ∙ e

pub interval : (h : Holder) (low high : PathKey) (k : Option Value) (vs : Values) → h ≢ AList → Rises h k vs
    → from_to vs (counted low vs) (counted high vs) ≡ items_between low high vs
interval h low high k NoValue n r = refl
interval h low high k (And v vs) n r =
    step (is_below low (key_of v)) (is_below high (key_of v)) v vs (items_between low high vs) (counted low vs)
    (counted high vs) (interval h low high (Some (key_of v)) vs n r.1)
    (none_behind h low (key_of v) vs n r.1) (none_behind h high (key_of v) vs n r.1)

-- ---- how a literal stands to the keys of its type

-- a value of a type of keys is its own key, and a literal of the type stands to it as what is sought does
stands : (kind : TypeKind) (key : PathKey) (v : Value) → is_key_of kind key ≡ true → HasForm kind v
    → (key_of v ≡ v) × Stands key v
stands kinds.Flag (flag_key b) (One (Truth a)) e f = (refl, less_is (One (Truth a)) (One (Truth b)) tt)
stands kinds.I8 (int_key z) (One (Number x)) e f = (refl, less_is (One (Number x)) (One (Number z)) tt)
stands kinds.I16 (int_key z) (One (Number x)) e f = (refl, less_is (One (Number x)) (One (Number z)) tt)
stands kinds.I32 (int_key z) (One (Number x)) e f = (refl, less_is (One (Number x)) (One (Number z)) tt)
stands kinds.I64 (int_key z) (One (Number x)) e f = (refl, less_is (One (Number x)) (One (Number z)) tt)
stands kinds.Enum (int_key z) (One (Number x)) e f = (refl, less_is (One (Number x)) (One (Number z)) tt)
stands kinds.Text (text_key s) (Bytes bs) e f = (refl, less_is (Bytes bs) (Bytes s) tt)
stands kinds.Bytes (bytes_key s) (Bytes bs) e f = (refl, less_is (Bytes bs) (Bytes s) tt)
stands kinds.Flag (flag_key b) v e f = absurd f
stands kinds.I8 (int_key z) v e f = absurd f
stands kinds.I16 (int_key z) v e f = absurd f
stands kinds.I32 (int_key z) v e f = absurd f
stands kinds.I64 (int_key z) v e f = absurd f
stands kinds.Enum (int_key z) v e f = absurd f
stands kinds.Text (text_key s) v e f = absurd f
stands kinds.Bytes (bytes_key s) v e f = absurd f
stands kind key v e f = absurd cc

each_stands : {A B : Type 0} (l : Tree A B) (key : PathKey) {vs : Values}
    → ((v : Value) → Of l v → Stands key (key_of v)) → OfEach l vs → StandsToEach key vs
each_stands l key p none = tt
each_stands l key p (more {v = v} o os) = (p v o, each_stands l key p os)

set_stands : (x : TypeTree) (key : PathKey) → is_key_of (kind_of x) key ≡ true → (v : Value) → Of (kinds_of x) v
    → Stands key (key_of v)
set_stands x key e v o =
    let s = stands (kind_of x) key v e (formed x v ∣ o ∣₁) in subst (Stands key) (sym s.0) s.1

pair_stands : (x y : TypeTree) (key : PathKey) → is_key_of (kind_of x) key ≡ true → (v : Value)
    → Of (Struct (Field 1 (kinds_of x) (Field 2 (kinds_of y) NoField))) v → Stands key (key_of v)
pair_stands x y key e v (record_of i (part {v = k} o os)) = (stands (kind_of x) key k e (formed x k ∣ o ∣₁)).1

of_stands : (t : TypeTree) (key : PathKey) {v : Value} → is_key_in t key ≡ true → Of (kinds_of t) v
    → StandsToEach key (items_of v)
of_stands (set_of x) key e (is.items n r hs) = each_stands (kinds_of x) key (set_stands x key e) hs
of_stands (map_of x y) key e (is.items n r hs) = each_stands _ key (pair_stands x y key e) hs
of_stands t key e o = absurd cc

stands_prop : (key : PathKey) (vs : Values) → IsProp (StandsToEach key vs)
stands_prop key NoValue = hlevel
stands_prop key (And v vs) = hlevel (Bool-set, stands_prop key vs)

lens_stands : (l : Lens) (key : PathKey) → is_key_in (type_of_lens l) key ≡ true
    → StandsToEach key (items_of (value_of_lens l))
lens_stands l key e =
    ∥∥₁_elim (lens_value l) (stands_prop key (items_of (value_of_lens l)))
    (λ o. of_stands (type_of_lens l) key e o)

-- ---- sets and maps

set_or_map : (t : TypeTree) (key : PathKey) → is_key_in t key ≡ true
    → (is_keyed false (kind_of t) ≡ true) ⊎ (is_keyed true (kind_of t) ≡ true)
set_or_map (set_of x) key e = inl refl
set_or_map (map_of x y) key e = inr refl
set_or_map t key e = absurd cc

pub has_keys : (t : TypeTree) (key : PathKey) → is_key_in t key ≡ true → HasKeys (kind_of t)
has_keys (set_of x) key e = tt
has_keys (map_of x y) key e = tt
has_keys t key e = absurd cc

pub no_keys : (k : TypeKind) → HasKeys k → (k ≡ kinds.Set → ⊥) → (k ≡ kinds.Map → ⊥) → ⊥
no_keys kinds.Set h n m = n refl
no_keys kinds.Map h n m = m refl
no_keys k h n m = h

pub lens_items : (l : Lens) (key : PathKey) → is_key_in (type_of_lens l) key ≡ true → IsItems (value_of_lens l)
lens_items l key e = elim (set_or_map (type_of_lens l) key e) [
  | inl s ↦ held_items false (value_of_lens l) (lens_held false l s)
  | inr m ↦ held_items true (value_of_lens l) (lens_held true l m)
]

pub lens_below : (l : Lens) (key : PathKey) → is_key_in (type_of_lens l) key ≡ true
    → let vs = items_of (value_of_lens l) in count_below sought_cmp (keys_in vs) (sought key) ≡ counted key vs
lens_below l key e = below_counted key (items_of (value_of_lens l)) (lens_stands l key e)

pub lens_interval : (l : Lens) (low high : PathKey) → is_key_in (type_of_lens l) low ≡ true
    → let vs = items_of (value_of_lens l) in
    from_to vs (counted low vs) (counted high vs) ≡ items_between low high vs
lens_interval l low high e = elim (set_or_map (type_of_lens l) low e) [
  | inl s ↦ interval (holder false) low high None (items_of (value_of_lens l)) (no_list false) (lens_rises false l s)
  | inr m ↦ interval (holder true) low high None (items_of (value_of_lens l)) (no_list true) (lens_rises true l m)
]

-- ---- a key literal that fits as a step is one of the keys

fits_if : (c : Bool) (x y : TypeTree) (e : PathFault) → cond c (Ok x) (Err e) ≡ Ok y → c ≡ true
fits_if true x y e h = refl
fits_if false x y e h = absurd cc

pub key_fits : (n : ℕ) (key : PathKey) (t u : TypeTree) → step_to n (key_step key) t ≡ Ok u → is_key_in t key ≡ true
key_fits n key (set_of x) u e = fits_if (is_key_of (kind_of x) key) x u (BadKey n) e
key_fits n key (map_of x y) u e = fits_if (is_key_of (kind_of x) key) y u (BadKey n) e
key_fits n key t u e = absurd cc
