-- The wire tree of a value of a type has no fault under the type, and means the value.
use Rattle.std.proofs.Common.{◌≡◌, ◌≢◌, ℕ, suc, ◌+◌, ◌<◌, ◌≤◌, nat_eq, ◌&&◌, not, append-nil, List, [], ◌∷◌, ◌++◌, Bool, true, false, cond, ◌||◌, map, Some, None, Less, refl, sym, ap, ◌∙◌, subst, arith}
use Rattle.std.specs.Prelude.{ℤ, nat_abs, find, option_map}
use Rattle.std.specs.Ordering.{int_eq}
use Rattle.std.specs.Str.{IsUtf8}
use Rattle.std.specs.List.{AllByRecursion}
use Rattle.std.proofs.lemmas.Str.{is_utf8-from_IsUtf8}
use Rattle.std.proofs.lemmas.Bool.Decides.{nat_tests, Decides-int_eq}
use Rattle.idl_profile.specs.declared.kinds.Need.{Need}
use Rattle.idl_profile.specs.declared.kinds.Need.TheVariants.{Plain, Required, Optional}
use Rattle.idl_profile.specs.Types as types
use Rattle.idl_profile.specs.Types.{TypeTree, scalar, text, bytes, list_of, set_of, map_of, named, Named, enum_of, struct_of, DefField, field_list}
use Rattle.frozen_model.specs.Trees.{KindTree, Rising, AList, ASet, AMap}
use Rattle.frozen_model.specs.Values as is
use Rattle.frozen_model.specs.Values.{Value, Values, Truth, Number, Items, Present, Absent, Record, NoValue, And, Of, OfEach, none, more, OfAll, no_part, part, record_of, key_of}
use Rattle.type_kinds.specs.KindsOf.{kinds_of, kinds_of_fields}
use Rattle.type_kinds.specs.Accepted.{IsAccepted, AreAccepted, IsKeyType}
use Rattle.type_kinds.specs.Defaults.{ids_of_fields}
use Rattle.type_kinds.specs.Laws.{Any}
use Rattle.key_order.specs.InOrder.{row, in_order}
use Rattle.key_order.proofs.Order.{value_cmp, Equal_from_same}
use Rattle.key_order.proofs.Rising.{AreRanked}
use Rattle.typed_tree.specs.Ranges.{pair_kinds}
use Rattle.typed_tree.specs.Spots as spots
use Rattle.typed_tree.specs.Filled.{natural_ids}
use Rattle.typed_tree.specs.Sizes.{default_value}
use Rattle.compact_wire.specs.Node as node
use Rattle.compact_wire.specs.Node.{Node, Nodes, no_nodes, Pairs, no_pairs, pair, Fields, no_fields, field}
use Rattle.wire_scan.specs.Sizes.{size}
use Rattle.typed_reading.specs.Codes.{code, row_fits}
use Rattle.typed_reading.specs.Keys.{key_value, keys_in, keys_in_pairs, same_key}
use Rattle.typed_reading.specs.Faults.{has_id, type_of_field, type_in, of_field, is_among, ids_after, missing, all_here, if_here, is_key_among, repeats, faults, faults_in, faults_in_pairs, faults_in_fields}
use Rattle.typed_reading.specs.Meaning.{given, under, field_value, reading, readings, meaning, meanings, meanings_of_pairs, Typed}
use Rattle.typed_reading.specs.declared.fault.NodeFault.TheVariants.{MissingRequired, WrongType, BadText, RepeatedKey}
use Rattle.typed_reading.proofs.Keyed.{same_is}
use Rattle.typed_reading.proofs.Valued.{ids_are}
use Rattle.compact_codec.specs.Wire.{wire, wire_of_fields, each, each_pair, map_with}
use Rattle.compact_codec.proofs.Listed.{listed, row-listed, ranked-listed, rising-in_order}

-- ---- codes of elements

code-fits : (n : ℕ) → nat_eq n n ≡ true
code-fits n = grind (arith, nat_tests)

row-fits : (x : TypeTree) (xs : Nodes) → row_fits (list_of x) (code x) xs ≡ true
row-fits x no_nodes = refl
row-fits x (node.node y ys) = code-fits (code x)

set-fits : (x : TypeTree) (xs : Nodes) → row_fits (set_of x) (code x) xs ≡ true
set-fits x no_nodes = refl
set-fits x (node.node y ys) = code-fits (code x)

-- ---- keys

key-is : (t : TypeTree) (v : Value) → IsKeyType t → Of (kinds_of t) v → (key_value (wire t v) ≡ v) × (key_of v ≡ v)
key-is (scalar types.flag) _ a (is.one {x = Truth b} h) = (refl, refl)
key-is (scalar types.flag) _ a (is.one {x = Number z} h) = absurd h
key-is (scalar types.i8) _ a (is.one {x = Number z} h) = (refl, refl)
key-is (scalar types.i8) _ a (is.one {x = Truth b} h) = absurd h
key-is (scalar types.i16) _ a (is.one {x = Number z} h) = (refl, refl)
key-is (scalar types.i16) _ a (is.one {x = Truth b} h) = absurd h
key-is (scalar types.i32) _ a (is.one {x = Number z} h) = (refl, refl)
key-is (scalar types.i32) _ a (is.one {x = Truth b} h) = absurd h
key-is (scalar types.i64) _ a (is.one {x = Number z} h) = (refl, refl)
key-is (scalar types.i64) _ a (is.one {x = Truth b} h) = absurd h
key-is text _ a (is.bytes n b u) = (refl, refl)
key-is bytes _ a (is.bytes n b u) = (refl, refl)
key-is (named (enum_of w ms)) _ a (is.one {x = Number z} h) = (refl, refl)
key-is (named (enum_of w ms)) _ a (is.one {x = Truth b} h) = absurd h
key-is (list_of x) v a h = absurd a
key-is (set_of x) v a h = absurd a
key-is (map_of x y) v a h = absurd a
key-is (named (struct_of w fs)) v a h = absurd a

-- a key that all of these are below is not among them
not-among : (k : Value) (before : List Value) → AllByRecursion (λ b. value_cmp b k ≡ Less) before → is_key_among k before ≡ false
not-among k [] h = refl
not-among k (b ∷ bs) h = by (not-among k bs h.1) (same_key k b) refl
  where
    by : is_key_among k bs ≡ false → (c : Bool) → same_key k b ≡ c → is_key_among k (b ∷ bs) ≡ false
    by rest false e = ap (λ d. d || is_key_among k bs) e ∙ rest
    by rest true e = let same = Equal_from_same b k (sym (same_is k b e)) in let less = h.0 in absurd (cc)

-- each of these is below the keys of all those
abbrev AreBelow : List Value → List Value → Type 0
AreBelow before vs = AllByRecursion (λ b. AllByRecursion (λ v. value_cmp b (key_of v) ≡ Less) vs) before

heads-below : (before : List Value) (v : Value) (vs : List Value) → AreBelow before (v ∷ vs) → AllByRecursion (λ b. value_cmp b (key_of v) ≡ Less) before
heads-below [] v vs h = tt
heads-below (b ∷ bs) v vs h = (h.0.0, heads-below bs v vs h.1)

tails-below : (before : List Value) (v : Value) (vs : List Value) → AreBelow before (v ∷ vs) → AreBelow before vs
tails-below [] v vs h = tt
tails-below (b ∷ bs) v vs h = (h.0.1, tails-below bs v vs h.1)

abbrev keys_of : List (ℕ × Value) → List Value
keys_of ks = map (λ k. k.1) ks

-- keys that rise do not repeat
none-repeats : (ks : List (ℕ × Value)) (vs before : List Value) → keys_of ks ≡ map key_of vs → AreRanked vs → AreBelow before vs → repeats ks before ≡ []
none-repeats [] vs before e r b = refl
none-repeats (k ∷ ks) [] before e r b = absurd (cc)
none-repeats (k ∷ ks) (v ∷ vs) before e r b =
    let head : k.1 ≡ key_of v = cc in
    let tail : keys_of ks ≡ map key_of vs = cc in
    let low = subst (λ u. AllByRecursion (λ w. value_cmp w u ≡ Less) before) (sym head) (heads-below before v vs b) in
    let high = subst (λ u. AllByRecursion (λ w. value_cmp u (key_of w) ≡ Less) vs) (sym head) r.0 in
    ap (λ c. if_here c k.0 RepeatedKey ++ repeats ks (k.1 ∷ before)) (not-among k.1 before low) ∙ none-repeats ks vs (k.1 ∷ before) tail r.1 (high, tails-below before v vs b)

-- what is so of a type's values as keys
abbrev AreKeys : TypeTree → KindTree → Type 0
AreKeys x k = (v : Value) → Of k v → (key_value (wire x v) ≡ v) × (key_of v ≡ v)

set-keys : (x : TypeTree) (k : KindTree) (vs : Values) (at : ℕ) → AreKeys x k → OfEach k vs → keys_of (keys_in (each (wire x) vs) at) ≡ map key_of (listed vs)
set-keys x k _ at key none = refl
set-keys x k _ at key (more {v = v} {vs = vs} h hs) =
    let is_key = key v h in
    ap (λ u. u ∷ keys_of (keys_in (each (wire x) vs) (at + size (wire x v)))) (is_key.0 ∙ sym is_key.1) ∙ ap (λ us. key_of v ∷ us) (set-keys x k vs (at + size (wire x v)) key hs)

map-keys : (x y : TypeTree) (k l : KindTree) (vs : Values) (at : ℕ) → AreKeys x k → OfEach (pair_kinds k l) vs → keys_of (keys_in_pairs (each_pair (wire x) (wire y) vs) at) ≡ map key_of (listed vs)
map-keys x y k l _ at key none = refl
map-keys x y k l _ at key (more {vs = vs} (record_of e (part {v = p} h (part {v = q} g no_part))) hs) =
    let rest = at + size (wire x p) + size (wire y q) in
    ap (λ u. u ∷ keys_of (keys_in_pairs (each_pair (wire x) (wire y) vs) rest)) (key p h).0 ∙ ap (λ us. p ∷ us) (map-keys x y k l vs rest key hs)

-- ---- no faults in containers

list-clean : (x : TypeTree) (xs : Nodes) (at : ℕ) → faults_in xs x (suc at) ≡ [] → faults (node.list (code x) xs) (list_of x) at ≡ []
list-clean x xs at h =
    let below = faults_in xs x (suc at) in
    ap (λ c. cond c below [] ++ all_here at (cond c [] (WrongType ∷ []))) (row-fits x xs) ∙ append-nil below ∙ h

set-clean : (x : TypeTree) (xs : Nodes) (at : ℕ) → faults_in xs x (suc at) ≡ [] → repeats (keys_in xs (suc at)) [] ≡ [] → faults (node.set (code x) xs) (set_of x) at ≡ []
set-clean x xs at h g =
    let again = repeats (keys_in xs (suc at)) [] in
    let below = faults_in xs x (suc at) ++ again in
    ap (λ c. cond c below [] ++ all_here at (cond c [] (WrongType ∷ []))) (set-fits x xs) ∙ append-nil below ∙ ap (λ fs. fs ++ again) h ∙ g

map-clean : (x y : TypeTree) (xs : Pairs) (at : ℕ) → faults_in_pairs xs x y (suc at) ≡ [] → repeats (keys_in_pairs xs (suc at)) [] ≡ [] → faults (map_with (code x) (code y) xs) (map_of x y) at ≡ []
map-clean x y no_pairs at h g = refl
map-clean x y (pair u w xs) at h g =
    let all = pair u w xs in
    let again = repeats (keys_in_pairs all (suc at)) [] in
    let below = faults_in_pairs all x y (suc at) ++ again in
    ap (λ c. cond (c && nat_eq (code y) (code y)) below [] ++ all_here at (cond (c && nat_eq (code y) (code y)) [] (WrongType ∷ []))) (code-fits (code x))
    ∙ ap (λ c. cond c below [] ++ all_here at (cond c [] (WrongType ∷ []))) (code-fits (code y)) ∙ append-nil below ∙ ap (λ fs. fs ++ again) h ∙ g

-- values of this kind have no fault as this type
abbrev AreClean : TypeTree → KindTree → Type 0
AreClean x k = (v : Value) (at : ℕ) → Of k v → faults (wire x v) x at ≡ []

each-clean : (x : TypeTree) (k : KindTree) (vs : Values) (at : ℕ) → AreClean x k → OfEach k vs → faults_in (each (wire x) vs) x at ≡ []
each-clean x k _ at one none = refl
each-clean x k _ at one (more {v = v} {vs = vs} h hs) =
    let next = at + size (wire x v) in
    ap (λ fs. fs ++ faults_in (each (wire x) vs) x next) (one v at h) ∙ each-clean x k vs next one hs

pairs-clean : (x y : TypeTree) (k l : KindTree) (vs : Values) (at : ℕ) → AreClean x k → AreClean y l → OfEach (pair_kinds k l) vs → faults_in_pairs (each_pair (wire x) (wire y) vs) x y at ≡ []
pairs-clean x y k l _ at key value none = refl
pairs-clean x y k l _ at key value (more {vs = vs} (record_of e (part {v = p} h (part {v = q} g no_part))) hs) =
    let mid = at + size (wire x p) in
    let next = mid + size (wire y q) in
    let rest = faults_in_pairs (each_pair (wire x) (wire y) vs) x y next in
    ap (λ fs. fs ++ (faults (wire y q) y mid ++ rest)) (key p at h) ∙ ap (λ fs. fs ++ rest) (value q mid g) ∙ pairs-clean x y k l vs next key value hs

-- ---- fields

apart : (i j : ℤ) → nat_abs i ≢ nat_abs j → int_eq i j ≡ false
apart i j ne = by (int_eq i j) refl
  where
    by : (c : Bool) → int_eq i j ≡ c → int_eq i j ≡ false
    by false e = e
    by true e = absurd (ne (ap nat_abs ((Decides-int_eq i j).0 e)))

same-id : (i : ℤ) → int_eq i i ≡ true
same-id i = (Decides-int_eq i i).1 refl

abbrev as_field : ℤ → List ℕ → Need → TypeTree → types.Default → DefField
as_field i w n t d = record { id = i; name = w; need = n; type = t; default = d }

-- a field of an id above the lowest is one of those that are left
abbrev Known : ℕ → types.Fields → List DefField → Type 0
Known low fs all = (id : ℤ) → low < nat_abs id → find (has_id id) all ≡ find (has_id id) (field_list fs)

-- and its id did not stand
abbrev Unseen : ℕ → List ℤ → Type 0
Unseen low before = (id : ℤ) → low < nat_abs id → is_among id before ≡ false

known-next : (low : ℕ) (i : ℤ) (w : List ℕ) (n : Need) (t : TypeTree) (d : types.Default) (fs : types.Fields) (all : List DefField) → low < nat_abs i → Known low (types.field i w n t d fs) all → Known (nat_abs i) fs all
known-next low i w n t d fs all lt known id above =
    known id (omega (arith, lt, above)) ∙ ap (λ c. cond c (Some (as_field i w n t d)) (find (has_id id) (field_list fs))) (apart i id (λ e. omega (arith, e, above)))

known-type : (low : ℕ) (i : ℤ) (w : List ℕ) (n : Need) (t : TypeTree) (d : types.Default) (fs : types.Fields) (all : List DefField) → low < nat_abs i → Known low (types.field i w n t d fs) all → type_in all i ≡ Some t
known-type low i w n t d fs all lt known =
    ap (option_map type_of_field) (known i lt ∙ ap (λ c. cond c (Some (as_field i w n t d)) (find (has_id i) (field_list fs))) (same-id i))

unseen-next : (low : ℕ) (i : ℤ) (before : List ℤ) → low < nat_abs i → Unseen low before → Unseen (nat_abs i) (i ∷ before)
unseen-next low i before lt unseen id above = ap (λ c. c || is_among id before) (apart id i (λ e. omega (arith, e, above))) ∙ unseen id (omega (arith, lt, above))

unseen-on : (low top : ℕ) (before : List ℤ) → low < top → Unseen low before → Unseen top before
unseen-on low top before lt unseen id above = unseen id (omega (arith, lt, above))

field-clean : (low : ℕ) (i : ℤ) (w : List ℕ) (n : Need) (t : TypeTree) (d : types.Default) (fs : types.Fields) (all : List DefField) (before : List ℤ) (at : ℕ) (x : Node) (xs : Fields) → low < nat_abs i → Known low (types.field i w n t d fs) all → Unseen low before
    → faults x t at ≡ [] → faults_in_fields xs all (i ∷ before) (at + size x) ≡ [] → faults_in_fields (field i x xs) all before at ≡ []
field-clean low i w n t d fs all before at x xs lt known unseen one others =
    let rest = faults_in_fields xs all (i ∷ before) (at + size x) in
    ap (λ o. of_field o (is_among i before) x (λ s. faults x s at) at ++ rest) (known-type low i w n t d fs all lt known)
    ∙ ap (λ c. of_field (Some t) c x (λ s. faults x s at) at ++ rest) (unseen i lt) ∙ ap (λ gs. gs ++ rest) one ∙ others

-- ---- no required field is missing

still-among : (id : ℤ) (xs : Fields) (before : List ℤ) → is_among id before ≡ true → is_among id (ids_after xs before) ≡ true
still-among id no_fields before e = e
still-among id (field i x xs) before e = still-among id xs (i ∷ before) (by (int_eq id i))
  where
    by : (c : Bool) → (c || is_among id before) ≡ true
    by true = refl
    by false = e

none-missing : (fs : types.Fields) (vs : Values) (before : List ℤ) → OfAll (kinds_of_fields fs) vs → missing (field_list fs) (ids_after (wire_of_fields fs vs) before) ≡ []
none-missing types.no_fields _ before no_part = refl
none-missing (types.field i w Plain t d fs) _ before (part {vs = vs} h hs) = none-missing fs vs (i ∷ before) hs
none-missing (types.field i w Required t d fs) _ before (part {vs = vs} h hs) =
    let ids = ids_after (wire_of_fields fs vs) (i ∷ before) in
    let there = still-among i (wire_of_fields fs vs) (i ∷ before) (ap (λ c. c || is_among i before) (same-id i)) in
    ap (λ c. cond (not c) (MissingRequired i ∷ []) (missing (field_list fs) ids)) there ∙ none-missing fs vs (i ∷ before) hs
none-missing (types.field i w Optional t d fs) _ before (part {vs = vs} is.absent hs) = none-missing fs vs before hs
none-missing (types.field i w Optional t d fs) _ before (part {vs = vs} (is.present h) hs) = none-missing fs vs (i ∷ before) hs

struct-clean : (w : List ℕ) (fs : types.Fields) (xs : Fields) (at : ℕ) → faults_in_fields xs (field_list fs) [] (suc at) ≡ [] → missing (field_list fs) (ids_after xs []) ≡ [] → faults (node.structure xs) (named (struct_of w fs)) at ≡ []
struct-clean w fs xs at h g = ap (λ below. below ++ all_here at (missing (field_list fs) (ids_after xs []))) h ∙ ap (all_here at) g

-- ---- no faults

text-clean : (bs : List ℕ) (at : ℕ) → IsUtf8 bs → faults (node.binary bs) text at ≡ []
text-clean bs at u = ap (λ c. all_here at (cond c [] (BadText ∷ []))) (is_utf8-from_IsUtf8 bs u)

mutual
  pub clean : (t : TypeTree) (v : Value) (at : ℕ) → IsAccepted Any t → Of (kinds_of t) v → faults (wire t v) t at ≡ []
  clean (scalar types.flag) _ at a (is.one {x = Truth b} h) = refl
  clean (scalar types.flag) _ at a (is.one {x = Number z} h) = absurd h
  clean (scalar types.i8) _ at a (is.one h) = refl
  clean (scalar types.i16) _ at a (is.one h) = refl
  clean (scalar types.i32) _ at a (is.one h) = refl
  clean (scalar types.i64) _ at a (is.one h) = refl
  clean text _ at a (is.bytes {bs = bs} n b u) = text-clean bs at u
  clean bytes _ at a (is.bytes n b u) = refl
  clean (list_of x) _ at a (is.items {vs = vs} n r hs) = list-clean x (each (wire x) vs) at (each-clean x (kinds_of x) vs (suc at) (λ v i h. clean x v i a h) hs)
  clean (set_of x) _ at a (is.items {vs = vs} n r hs) =
      set-clean x (each (wire x) vs) at (each-clean x (kinds_of x) vs (suc at) (λ v i h. clean x v i a.1 h) hs)
      (none-repeats (keys_in (each (wire x) vs) (suc at)) (listed vs) [] (set-keys x (kinds_of x) vs (suc at) (λ v h. key-is x v a.0 h) hs) (ranked-listed ASet vs (λ e. cc) r) tt)
  clean (map_of x y) _ at a (is.items {vs = vs} n r hs) =
      map-clean x y (each_pair (wire x) (wire y) vs) at (pairs-clean x y (kinds_of x) (kinds_of y) vs (suc at) (λ v i h. clean x v i a.1 h) (λ v i h. clean y v i a.2 h) hs)
      (none-repeats (keys_in_pairs (each_pair (wire x) (wire y) vs) (suc at)) (listed vs) [] (map-keys x y (kinds_of x) (kinds_of y) vs (suc at) (λ v h. key-is x v a.0 h) hs) (ranked-listed AMap vs (λ e. cc) r) tt)
  clean (named n) v at a h = named-clean n v at a h

  named-clean : (n : Named) (v : Value) (at : ℕ) → IsAccepted Any (named n) → Of (kinds_of (named n)) v → faults (wire (named n) v) (named n) at ≡ []
  named-clean (enum_of w ms) _ at a (is.one h) = refl
  named-clean (struct_of w fs) _ at a (record_of {vs = vs} e hs) =
      struct-clean w fs (wire_of_fields fs vs) at (fields-clean 0 fs (field_list fs) vs [] (suc at) a.2 a.0 hs (λ id lt. refl) (λ id lt. refl)) (none-missing fs vs [] hs)

  fields-clean : (low : ℕ) (fs : types.Fields) (all : List DefField) (vs : Values) (before : List ℤ) (at : ℕ) → AreAccepted Any fs → Rising low (ids_of_fields fs) → OfAll (kinds_of_fields fs) vs → Known low fs all → Unseen low before
      → faults_in_fields (wire_of_fields fs vs) all before at ≡ []
  fields-clean low types.no_fields all _ before at a r no_part known unseen = refl
  fields-clean low (types.field i w Plain t d fs) all _ before at a r (part {v = v} {vs = vs} h hs) known unseen =
      field-clean low i w Plain t d fs all before at (wire t v) (wire_of_fields fs vs) r.0 known unseen (clean t v at a.0 h)
      (fields-clean (nat_abs i) fs all vs (i ∷ before) (at + size (wire t v)) a.2 r.2 hs (known-next low i w Plain t d fs all r.0 known) (unseen-next low i before r.0 unseen))
  fields-clean low (types.field i w Required t d fs) all _ before at a r (part {v = v} {vs = vs} h hs) known unseen =
      field-clean low i w Required t d fs all before at (wire t v) (wire_of_fields fs vs) r.0 known unseen (clean t v at a.0 h)
      (fields-clean (nat_abs i) fs all vs (i ∷ before) (at + size (wire t v)) a.2 r.2 hs (known-next low i w Required t d fs all r.0 known) (unseen-next low i before r.0 unseen))
  fields-clean low (types.field i w Optional t d fs) all _ before at a r (part {vs = vs} is.absent hs) known unseen =
      fields-clean (nat_abs i) fs all vs before at a.2 r.2 hs (known-next low i w Optional t d fs all r.0 known) (unseen-on low (nat_abs i) before r.0 unseen)
  fields-clean low (types.field i w Optional t d fs) all _ before at a r (part {vs = vs} (is.present {v = v} h) hs) known unseen =
      field-clean low i w Optional t d fs all before at (wire t v) (wire_of_fields fs vs) r.0 known unseen (clean t v at a.0 h)
      (fields-clean (nat_abs i) fs all vs (i ∷ before) (at + size (wire t v)) a.2 r.2 hs (known-next low i w Optional t d fs all r.0 known) (unseen-next low i before r.0 unseen))

-- ---- what it means

-- values of this kind are read back as this type
abbrev AreBack : TypeTree → KindTree → Type 0
AreBack x k = (v : Value) → Of k v → meaning (wire x v) x ≡ v

each-means : (x : TypeTree) (k : KindTree) (vs : Values) → AreBack x k → OfEach k vs → meanings (each (wire x) vs) x ≡ listed vs
each-means x k _ one none = refl
each-means x k _ one (more {v = v} {vs = vs} h hs) = ap (λ u. u ∷ meanings (each (wire x) vs) x) (one v h) ∙ ap (λ us. v ∷ us) (each-means x k vs one hs)

pairs-mean : (x y : TypeTree) (k l : KindTree) (vs : Values) → AreBack x k → AreBack y l → OfEach (pair_kinds k l) vs → meanings_of_pairs (each_pair (wire x) (wire y) vs) x y ≡ listed vs
pairs-mean x y k l _ key value none = refl
pairs-mean x y k l _ key value (more {vs = vs} (record_of {ids = ids} e (part {v = p} h (part {v = q} g no_part))) hs) =
    let rest = meanings_of_pairs (each_pair (wire x) (wire y) vs) x y in
    ap (λ u. spots.pair u (meaning (wire y q) y) ∷ rest) (key p h) ∙ ap (λ u. spots.pair p u ∷ rest) (value q g) ∙ ap (λ us. spots.pair p q ∷ us) (pairs-mean x y k l vs key value hs)
    ∙ ap (λ is. Record is (And p (And q NoValue)) ∷ listed vs) (sym e)

map-means : (x y : TypeTree) (a b : ℕ) (xs : Pairs) → meaning (map_with a b xs) (map_of x y) ≡ Items AMap (row (in_order (meanings_of_pairs xs x y)))
map-means x y a b no_pairs = refl
map-means x y a b (pair u w xs) = refl

-- the values of the fields that stand, by their ids
abbrev standing : Need → ℤ → Value → List (ℤ × Value) → List (ℤ × Value)
standing Plain id v rs = (id, v) ∷ rs
standing Required id v rs = (id, v) ∷ rs
standing Optional id (Present v) rs = (id, v) ∷ rs
standing Optional id _ rs = rs

abbrev all_standing : types.Fields → Values → List (ℤ × Value)
all_standing (types.field id w n t d fs) (And v vs) = standing n id v (all_standing fs vs)
all_standing _ _ = []

-- none of these ids is so low
none-under : (low : ℕ) (fs : types.Fields) (vs : Values) (id : ℤ) → Rising low (ids_of_fields fs) → OfAll (kinds_of_fields fs) vs → nat_abs id ≤ low → under id (all_standing fs vs) ≡ None
none-under low types.no_fields _ id r no_part le = refl
none-under low (types.field i w Plain t d fs) _ id r (part {v = v} {vs = vs} h hs) le =
    ap (λ c. cond c (Some v) (under id (all_standing fs vs))) (apart i id (λ e. omega (arith, e, le, r.0))) ∙ none-under (nat_abs i) fs vs id r.2 hs (omega (arith, le, r.0))
none-under low (types.field i w Required t d fs) _ id r (part {v = v} {vs = vs} h hs) le =
    ap (λ c. cond c (Some v) (under id (all_standing fs vs))) (apart i id (λ e. omega (arith, e, le, r.0))) ∙ none-under (nat_abs i) fs vs id r.2 hs (omega (arith, le, r.0))
none-under low (types.field i w Optional t d fs) _ id r (part {vs = vs} is.absent hs) le = none-under (nat_abs i) fs vs id r.2 hs (omega (arith, le, r.0))
none-under low (types.field i w Optional t d fs) _ id r (part {vs = vs} (is.present {v = v} h) hs) le =
    ap (λ c. cond c (Some v) (under id (all_standing fs vs))) (apart i id (λ e. omega (arith, e, le, r.0))) ∙ none-under (nat_abs i) fs vs id r.2 hs (omega (arith, le, r.0))

-- of an id above the lowest the same value stands among all readings as among those that are left
abbrev Left : ℕ → types.Fields → Values → List (ℤ × Value) → Type 0
Left low fs vs rs = (id : ℤ) → low < nat_abs id → under id rs ≡ under id (all_standing fs vs)

left-next : (low : ℕ) (i : ℤ) (v : Value) (fs : types.Fields) (vs : Values) (rs : List (ℤ × Value)) → low < nat_abs i → ((id : ℤ) → low < nat_abs id → under id rs ≡ under id ((i, v) ∷ all_standing fs vs)) → Left (nat_abs i) fs vs rs
left-next low i v fs vs rs lt left id above =
    left id (omega (arith, lt, above)) ∙ ap (λ c. cond c (Some v) (under id (all_standing fs vs))) (apart i id (λ e. omega (arith, e, above)))

left-here : (low : ℕ) (i : ℤ) (v : Value) (fs : types.Fields) (vs : Values) (rs : List (ℤ × Value)) → low < nat_abs i → ((id : ℤ) → low < nat_abs id → under id rs ≡ under id ((i, v) ∷ all_standing fs vs)) → under i rs ≡ Some v
left-here low i v fs vs rs lt left = left i lt ∙ ap (λ c. cond c (Some v) (under i (all_standing fs vs))) (same-id i)

values-are : (low : ℕ) (fs : types.Fields) (vs : Values) (rs : List (ℤ × Value)) → Rising low (ids_of_fields fs) → OfAll (kinds_of_fields fs) vs → Left low fs vs rs → row (map (field_value rs) (field_list fs)) ≡ vs
values-are low types.no_fields _ rs r no_part left = refl
values-are low (types.field i w Plain t d fs) _ rs r (part {v = v} {vs = vs} h hs) left =
    let rest = values-are (nat_abs i) fs vs rs r.2 hs (left-next low i v fs vs rs r.0 left) in
    ap (λ o. And (given Plain o (default_value (as_field i w Plain t d))) (row (map (field_value rs) (field_list fs)))) (left-here low i v fs vs rs r.0 left) ∙ ap (And v) rest
values-are low (types.field i w Required t d fs) _ rs r (part {v = v} {vs = vs} h hs) left =
    let rest = values-are (nat_abs i) fs vs rs r.2 hs (left-next low i v fs vs rs r.0 left) in
    ap (λ o. And (given Required o (default_value (as_field i w Required t d))) (row (map (field_value rs) (field_list fs)))) (left-here low i v fs vs rs r.0 left) ∙ ap (And v) rest
values-are low (types.field i w Optional t d fs) _ rs r (part {vs = vs} is.absent hs) left =
    let rest = values-are (nat_abs i) fs vs rs r.2 hs (λ id above. left id (omega (arith, above, r.0))) in
    let here = left i r.0 ∙ none-under (nat_abs i) fs vs i r.2 hs (omega arith) in
    ap (λ o. And (given Optional o Absent) (row (map (field_value rs) (field_list fs)))) here ∙ ap (And Absent) rest
values-are low (types.field i w Optional t d fs) _ rs r (part {vs = vs} (is.present {v = v} h) hs) left =
    let rest = values-are (nat_abs i) fs vs rs r.2 hs (left-next low i v fs vs rs r.0 left) in
    ap (λ o. And (given Optional o Absent) (row (map (field_value rs) (field_list fs)))) (left-here low i v fs vs rs r.0 left) ∙ ap (And (Present v)) rest

reading-is : (low : ℕ) (i : ℤ) (w : List ℕ) (n : Need) (t : TypeTree) (d : types.Default) (fs : types.Fields) (all : List DefField) (x : Node) (v : Value) (xs : Fields) (rs : List (ℤ × Value)) → low < nat_abs i → Known low (types.field i w n t d fs) all
    → meaning x t ≡ v → readings xs all ≡ rs → readings (field i x xs) all ≡ (i, v) ∷ rs
reading-is low i w n t d fs all x v xs rs lt known one others =
    ap (λ o. reading i o (meaning x) (readings xs all)) (known-type low i w n t d fs all lt known) ∙ ap (λ u. (i, u) ∷ readings xs all) one ∙ ap (λ us. (i, v) ∷ us) others

mutual
  pub back : (t : TypeTree) (v : Value) → IsAccepted Any t → Of (kinds_of t) v → meaning (wire t v) t ≡ v
  back (scalar types.flag) _ a (is.one {x = Truth b} h) = refl
  back (scalar types.flag) _ a (is.one {x = Number z} h) = absurd h
  back (scalar types.i8) _ a (is.one {x = Number z} h) = refl
  back (scalar types.i8) _ a (is.one {x = Truth b} h) = absurd h
  back (scalar types.i16) _ a (is.one {x = Number z} h) = refl
  back (scalar types.i16) _ a (is.one {x = Truth b} h) = absurd h
  back (scalar types.i32) _ a (is.one {x = Number z} h) = refl
  back (scalar types.i32) _ a (is.one {x = Truth b} h) = absurd h
  back (scalar types.i64) _ a (is.one {x = Number z} h) = refl
  back (scalar types.i64) _ a (is.one {x = Truth b} h) = absurd h
  back text _ a (is.bytes n b u) = refl
  back bytes _ a (is.bytes n b u) = refl
  back (list_of x) _ a (is.items {vs = vs} n r hs) = ap (λ us. Items AList (row us)) (each-means x (kinds_of x) vs (λ v h. back x v a h) hs) ∙ ap (Items AList) (row-listed vs)
  back (set_of x) _ a (is.items {vs = vs} n r hs) = ap (λ us. Items ASet (row (in_order us))) (each-means x (kinds_of x) vs (λ v h. back x v a.1 h) hs) ∙ ap (Items ASet) (rising-in_order ASet vs (λ e. cc) r)
  back (map_of x y) _ a (is.items {vs = vs} n r hs) =
      map-means x y (code x) (code y) (each_pair (wire x) (wire y) vs) ∙ ap (λ us. Items AMap (row (in_order us))) (pairs-mean x y (kinds_of x) (kinds_of y) vs (λ v h. back x v a.1 h) (λ v h. back y v a.2 h) hs)
      ∙ ap (Items AMap) (rising-in_order AMap vs (λ e. cc) r)
  back (named n) v a h = named-back n v a h

  named-back : (n : Named) (v : Value) → IsAccepted Any (named n) → Of (kinds_of (named n)) v → meaning (wire (named n) v) (named n) ≡ v
  named-back (enum_of w ms) _ a (is.one {x = Number z} h) = refl
  named-back (enum_of w ms) _ a (is.one {x = Truth b} h) = absurd h
  named-back (struct_of w fs) _ a (record_of {vs = vs} e hs) =
      let all = field_list fs in
      let rs = fields-back 0 fs all vs a.2 a.0 hs (λ id lt. refl) in
      ap (λ us. Record (natural_ids all) (row (map (field_value us) all))) rs
      ∙ ap (Record (natural_ids all)) (values-are 0 fs vs (all_standing fs vs) a.0 hs (λ id lt. refl)) ∙ ap (λ is. Record is vs) (ids_are fs ∙ sym e)

  fields-back : (low : ℕ) (fs : types.Fields) (all : List DefField) (vs : Values) → AreAccepted Any fs → Rising low (ids_of_fields fs) → OfAll (kinds_of_fields fs) vs → Known low fs all → readings (wire_of_fields fs vs) all ≡ all_standing fs vs
  fields-back low types.no_fields all _ a r no_part known = refl
  fields-back low (types.field i w Plain t d fs) all _ a r (part {v = v} {vs = vs} h hs) known =
      reading-is low i w Plain t d fs all (wire t v) v (wire_of_fields fs vs) (all_standing fs vs) r.0 known (back t v a.0 h) (fields-back (nat_abs i) fs all vs a.2 r.2 hs (known-next low i w Plain t d fs all r.0 known))
  fields-back low (types.field i w Required t d fs) all _ a r (part {v = v} {vs = vs} h hs) known =
      reading-is low i w Required t d fs all (wire t v) v (wire_of_fields fs vs) (all_standing fs vs) r.0 known (back t v a.0 h) (fields-back (nat_abs i) fs all vs a.2 r.2 hs (known-next low i w Required t d fs all r.0 known))
  fields-back low (types.field i w Optional t d fs) all _ a r (part {vs = vs} is.absent hs) known = fields-back (nat_abs i) fs all vs a.2 r.2 hs (known-next low i w Optional t d fs all r.0 known)
  fields-back low (types.field i w Optional t d fs) all _ a r (part {vs = vs} (is.present {v = v} h) hs) known =
      reading-is low i w Optional t d fs all (wire t v) v (wire_of_fields fs vs) (all_standing fs vs) r.0 known (back t v a.0 h) (fields-back (nat_abs i) fs all vs a.2 r.2 hs (known-next low i w Optional t d fs all r.0 known))

-- the wire tree of a value is read as it
pub typed : (t : TypeTree) (v : Value) → IsAccepted Any t → Of (kinds_of t) v → Typed t (wire t v) v
typed t v a h = record { clean = clean t v 0 a h; is = back t v a h }
