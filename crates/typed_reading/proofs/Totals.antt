-- What is counted over a tree without a fault is the count of its value.
use Rattle.std.proofs.Common.{◌≡◌, ℕ, suc, ◌+◌, ◌≤◌, List, [], ◌∷◌, ◌++◌, map, Bool, true, false, ◌||◌, cond, Option, Some, None, refl, sym, ap, subst, ◌∙◌, arith}
use Rattle.std.specs.Prelude.{ℤ, nat_abs, find, option_map}
use Rattle.std.specs.List.{AllByRecursion, sum_by}
use Rattle.std.specs.Ordering.{int_eq}
use Rattle.std.proofs.lemmas.List.Sums.{sum_by-cons}
use Rattle.frozen_model.specs.Trees.{KindTree, Rising}
use Rattle.frozen_model.specs.Values.{Value, Truth, Number, One, Bytes, cells, cells_each, cells_all}
use Rattle.compact_wire.specs.Node.{Node, flag, i8, i16, i32, i64, double, binary, list, set, map as map_node, structure}
use Rattle.compact_wire.specs.Node.{Nodes, no_nodes, node, Pairs, no_pairs, pair, Fields as WireFields, no_fields as no_more, field as wire_field}
use Rattle.wire_scan.specs.Sizes.{size}
use Rattle.idl_profile.specs.declared.kinds.Need.{Need}
use Rattle.idl_profile.specs.declared.kinds.Need.TheVariants.{Plain, Required, Optional}
use Rattle.idl_profile.specs.Types.{TypeTree, Fields, no_fields, field, DefField, field_list, fields_of}
use Rattle.idl_parse.specs.Refs.{element_of, key_of as key_type, value_of as value_type}
use Rattle.key_order.specs.InOrder.{row, in_order}
use Rattle.type_kinds.specs.KindsOf.{kinds_of, kinds_of_fields}
use Rattle.type_kinds.specs.Defaults.{ids_of_fields}
use Rattle.type_kinds.specs.Accepted.{IsAccepted, AreAccepted}
use Rattle.type_kinds.specs.Laws.{Any}
use Rattle.typed_tree.specs.Sizes.{field_kinds, nodes_of, nodes_of_all, nodes_of_parts, nodes_of_pairs, bytes_of, bytes_of_all, default_value}
use Rattle.typed_reading.specs.declared.counts.Checked.{Checked}
use Rattle.typed_reading.specs.Faults.{has_id, type_of_field, type_in, is_among, ids_after, faults, faults_in, faults_in_pairs, faults_in_fields, of_field, repeats}
use Rattle.typed_reading.specs.Keys.{keys_in, keys_in_pairs}
use Rattle.typed_reading.specs.Meaning.{given, under, field_value, reading, meaning, meanings, meanings_of_pairs, readings}
use Rattle.typed_reading.specs.Counts.{count_of, nothing, together, by_need, default_count, defaults_beside, of_known, total, totals, totals_of_pairs, totals_of_fields, a_holder, a_struct, an_item}
use Rattle.typed_reading.proofs.FieldLaws.{int_eq_same, int_eq_refl}
use Rattle.typed_reading.proofs.Sums.{count_is, first_nothing}
use Rattle.typed_reading.proofs.Valued.{HasCode, flag_is, i8_is, i16_is, i32_is, enum_is, i64_is, text_is, bytes_is, list_is, set_is, map_is, struct_is, none_of, clean_own, clean_below, no_double, moved_sum, moved_cells, pair_kinds}

-- the count of a value of some kinds
abbrev pub weigh : KindTree → Value → Checked
weigh k v = count_of (cells k v) (nodes_of v) (bytes_of v)

-- ---- sums

swap : (a b c : Checked) → together a (together b c) ≡ together b (together a c)
swap a b c = count_is _ _ _ _ _ _ (omega arith) (omega arith) (omega arith)

regroup : (a b c : Checked) → together a (together b c) ≡ together (together a b) c
regroup a b c = count_is _ _ _ _ _ _ (omega arith) (omega arith) (omega arith)

-- ---- items and pairs

nodes_of_row : (vs : List Value) → nodes_of_all (row vs) ≡ sum_by nodes_of vs
nodes_of_row [] = refl
nodes_of_row (v ∷ vs) = ap (λ n. nodes_of v + n) (nodes_of_row vs) ∙ sym (sum_by-cons nodes_of v vs)

nodes_of_pair_row : (vs : List Value) → nodes_of_pairs (row vs) ≡ sum_by nodes_of_parts vs
nodes_of_pair_row [] = refl
nodes_of_pair_row (v ∷ vs) = ap (λ n. nodes_of_parts v + n) (nodes_of_pair_row vs) ∙ sym (sum_by-cons nodes_of_parts v vs)

bytes_of_row : (vs : List Value) → bytes_of_all (row vs) ≡ sum_by bytes_of vs
bytes_of_row [] = refl
bytes_of_row (v ∷ vs) = ap (λ n. bytes_of v + n) (bytes_of_row vs) ∙ sym (sum_by-cons bytes_of v vs)

abbrev items_weight : KindTree → List Value → Checked
items_weight k vs = count_of (cells_each k (row vs)) (nodes_of_all (row vs)) (bytes_of_all (row vs))

abbrev pairs_weight : KindTree → List Value → Checked
pairs_weight k vs = count_of (cells_each k (row vs)) (nodes_of_pairs (row vs)) (bytes_of_all (row vs))

moved_items : (k : KindTree) (vs : List Value) → items_weight k vs ≡ items_weight k (in_order vs)
moved_items k vs =
    count_is _ _ _ _ _ _ (moved_cells k vs)
    (nodes_of_row vs ∙ moved_sum nodes_of vs ∙ sym (nodes_of_row (in_order vs)))
    (bytes_of_row vs ∙ moved_sum bytes_of vs ∙ sym (bytes_of_row (in_order vs)))

moved_pairs : (k : KindTree) (vs : List Value) → pairs_weight k vs ≡ pairs_weight k (in_order vs)
moved_pairs k vs =
    count_is _ _ _ _ _ _ (moved_cells k vs)
    (nodes_of_pair_row vs ∙ moved_sum nodes_of_parts vs ∙ sym (nodes_of_pair_row (in_order vs)))
    (bytes_of_row vs ∙ moved_sum bytes_of vs ∙ sym (bytes_of_row (in_order vs)))

-- ---- fields

abbrev field_weight : DefField → Value → Checked
field_weight f v = weigh (field_kinds f.need f.type) v

-- of the fields that are not among these ids
abbrev fields_weight : List (ℤ × Value) → List ℤ → List DefField → Checked
fields_weight rs before [] = nothing
fields_weight rs before (f ∷ fs) = together (cond (is_among f.id before) nothing (field_weight f (field_value rs f))) (fields_weight rs before fs)

-- a struct's fields are weighed one by one
struct_weight : (rs : List (ℤ × Value)) (fs : Fields)
    → fields_weight rs [] (field_list fs)
    ≡ (let vs = row (map (field_value rs) (field_list fs)) in count_of (cells_all (kinds_of_fields fs) vs) (nodes_of_all vs) (bytes_of_all vs))
struct_weight rs no_fields = refl
struct_weight rs (field i w Optional t d fs) =
    ap (together (field_weight (record { id = i; name = w; need = Optional; type = t; default = d }) (field_value rs (record { id = i; name = w; need = Optional; type = t; default = d })))) (struct_weight rs fs)
struct_weight rs (field i w Plain t d fs) =
    ap (together (field_weight (record { id = i; name = w; need = Plain; type = t; default = d }) (field_value rs (record { id = i; name = w; need = Plain; type = t; default = d })))) (struct_weight rs fs)
struct_weight rs (field i w Required t d fs) =
    ap (together (field_weight (record { id = i; name = w; need = Required; type = t; default = d }) (field_value rs (record { id = i; name = w; need = Required; type = t; default = d })))) (struct_weight rs fs)

given_none : (n : Need) (v : Value) → given n None v ≡ v
given_none Plain v = refl
given_none Required v = refl
given_none Optional v = refl

-- where nothing stands each field has its default
all_defaults : (before : List ℤ) (fs : List DefField) → fields_weight [] before fs ≡ defaults_beside fs before
all_defaults before [] = refl
all_defaults before (f ∷ fs) =
    ap (λ v. together (cond (is_among f.id before) nothing (field_weight f v)) (fields_weight [] before fs)) (given_none f.need (default_value f))
    ∙ ap (together (cond (is_among f.id before) nothing (default_count f))) (all_defaults before fs)

abbrev IsOther : ℤ → DefField → Type 0
IsOther id f = int_eq f.id id ≡ false

flips : (x y : ℤ) → int_eq x y ≡ int_eq y x
flips x y = by (int_eq x y) refl (int_eq y x) refl
  where
    by : (a : Bool) → int_eq x y ≡ a → (b : Bool) → int_eq y x ≡ b → a ≡ b
    by true p true q = refl
    by false p false q = refl
    by true p false q = let e = sym (ap (λ z. int_eq z x) (sym (int_eq_same x y p)) ∙ int_eq_refl x) ∙ q in cc
    by false p true q = let e = sym (ap (λ z. int_eq z y) (sym (int_eq_same y x q)) ∙ int_eq_refl y) ∙ p in cc

-- fields of other ids have what they had
others_known : (id : ℤ) (v : Value) (rs : List (ℤ × Value)) (before : List ℤ) (fs : List DefField) → AllByRecursion (IsOther id) fs
    → fields_weight ((id, v) ∷ rs) before fs ≡ fields_weight rs (id ∷ before) fs
others_known id v rs before [] h = refl
others_known id v rs before (f ∷ fs) h =
    ap (λ b. together (cond (is_among f.id before) nothing (field_weight f (given f.need (cond b (Some v) (under f.id rs)) (default_value f)))) (fields_weight ((id, v) ∷ rs) before fs)) (flips id f.id ∙ h.0)
    ∙ ap (λ b. together (cond (b || is_among f.id before) nothing (field_weight f (field_value rs f))) (fields_weight ((id, v) ∷ rs) before fs)) (sym h.0)
    ∙ ap (together (cond (is_among f.id (id ∷ before)) nothing (field_weight f (field_value rs f)))) (others_known id v rs before fs h.1)

others_unknown : (id : ℤ) (rs : List (ℤ × Value)) (before : List ℤ) (fs : List DefField) → AllByRecursion (IsOther id) fs
    → fields_weight rs before fs ≡ fields_weight rs (id ∷ before) fs
others_unknown id rs before [] h = refl
others_unknown id rs before (f ∷ fs) h =
    ap (λ b. together (cond (b || is_among f.id before) nothing (field_weight f (field_value rs f))) (fields_weight rs before fs)) (sym h.0)
    ∙ ap (together (cond (is_among f.id (id ∷ before)) nothing (field_weight f (field_value rs f)))) (others_unknown id rs before fs h.1)

all_others : (id : ℤ) (fs : List DefField) → find (has_id id) fs ≡ None → AllByRecursion (IsOther id) fs
all_others id [] e = tt
all_others id (f ∷ fs) e = by (int_eq f.id id) refl e (λ later. all_others id fs later)
  where
    by : (b : Bool) → int_eq f.id id ≡ b → cond b (Some f) (find (has_id id) fs) ≡ None → (find (has_id id) fs ≡ None → AllByRecursion (IsOther id) fs) → (int_eq f.id id ≡ false) × AllByRecursion (IsOther id) fs
    by true q g later = absurd cc
    by false q g later = (q, later g)

above_others : (id : ℤ) (low : ℕ) (fs : Fields) → nat_abs id ≤ low → Rising low (ids_of_fields fs) → AllByRecursion (IsOther id) (field_list fs)
above_others id low no_fields le up = tt
above_others id low (field i w n t d fs) le up = (by (int_eq i id) refl, above_others id (nat_abs i) fs (omega (arith, le, up.0)) up.2)
  where
    by : (b : Bool) → int_eq i id ≡ b → b ≡ false
    by false q = refl
    by true q = absurd (let same = ap nat_abs (int_eq_same i id q) in omega (arith, le, up.0, same))

-- one field more that stands
one_known : (id : ℤ) (v : Value) (rs : List (ℤ × Value)) (before : List ℤ) (g : DefField) (low : ℕ) (fs : Fields) → Rising low (ids_of_fields fs)
    → find (has_id id) (field_list fs) ≡ Some g → is_among id before ≡ false
    → fields_weight ((id, v) ∷ rs) before (field_list fs) ≡ together (field_weight g (given g.need (Some v) (default_value g))) (fields_weight rs (id ∷ before) (field_list fs))
one_known id v rs before g low no_fields up e new = absurd cc
one_known id v rs before g low (field i w n t d fs) up e new = by (int_eq i id) refl e (λ later. one_known id v rs before g (nat_abs i) fs up.2 later new)
  where
    this : DefField
    this = record { id = i; name = w; need = n; type = t; default = d }

    by : (b : Bool) → int_eq i id ≡ b → cond b (Some this) (find (has_id id) (field_list fs)) ≡ Some g
        → (find (has_id id) (field_list fs) ≡ Some g → fields_weight ((id, v) ∷ rs) before (field_list fs) ≡ together (field_weight g (given g.need (Some v) (default_value g))) (fields_weight rs (id ∷ before) (field_list fs)))
        → together (cond (is_among i before) nothing (field_weight this (given n (cond (int_eq id i) (Some v) (under i rs)) (default_value this)))) (fields_weight ((id, v) ∷ rs) before (field_list fs))
        ≡ together (field_weight g (given g.need (Some v) (default_value g))) (together (cond (int_eq i id || is_among i before) nothing (field_weight this (given n (under i rs) (default_value this)))) (fields_weight rs (id ∷ before) (field_list fs)))
    by true q f later =
        let is : this ≡ g = cc in
        let same = int_eq_same i id q in
        let fresh : is_among i before ≡ false = ap (λ z. is_among z before) same ∙ new in
        let low_id : nat_abs id ≤ nat_abs i = omega (arith, ap nat_abs same) in
        ap (λ b. together (cond b nothing (field_weight this (given n (cond (int_eq id i) (Some v) (under i rs)) (default_value this)))) (fields_weight ((id, v) ∷ rs) before (field_list fs))) fresh
        ∙ ap (λ b. together (field_weight this (given n (cond b (Some v) (under i rs)) (default_value this))) (fields_weight ((id, v) ∷ rs) before (field_list fs))) (flips id i ∙ q)
        ∙ ap (together (field_weight this (given n (Some v) (default_value this)))) (others_known id v rs before (field_list fs) (above_others id (nat_abs i) fs low_id up.2))
        ∙ ap (λ f. together (field_weight f (given f.need (Some v) (default_value f))) (fields_weight rs (id ∷ before) (field_list fs))) is
        ∙ ap (together (field_weight g (given g.need (Some v) (default_value g)))) (sym (first_nothing (fields_weight rs (id ∷ before) (field_list fs))))
        ∙ ap (λ b. together (field_weight g (given g.need (Some v) (default_value g))) (together (cond (b || is_among i before) nothing (field_weight this (given n (under i rs) (default_value this)))) (fields_weight rs (id ∷ before) (field_list fs)))) (sym q)
    by false q f later =
        ap (λ b. together (cond (is_among i before) nothing (field_weight this (given n (cond b (Some v) (under i rs)) (default_value this)))) (fields_weight ((id, v) ∷ rs) before (field_list fs))) (flips id i ∙ q)
        ∙ ap (together (cond (is_among i before) nothing (field_weight this (given n (under i rs) (default_value this))))) (later f)
        ∙ swap (cond (is_among i before) nothing (field_weight this (given n (under i rs) (default_value this)))) (field_weight g (given g.need (Some v) (default_value g))) (fields_weight rs (id ∷ before) (field_list fs))
        ∙ ap (λ b. together (field_weight g (given g.need (Some v) (default_value g))) (together (cond (b || is_among i before) nothing (field_weight this (given n (under i rs) (default_value this)))) (fields_weight rs (id ∷ before) (field_list fs)))) (sym q)

-- a value that stands, as its field's need has it
stands : (g : DefField) (v d : Value) → field_weight g (given g.need (Some v) d) ≡ together (by_need g.need) (weigh (kinds_of g.type) v)
stands g v d = by g.need
  where
    by : (n : Need) → weigh (field_kinds n g.type) (given n (Some v) d) ≡ together (by_need n) (weigh (kinds_of g.type) v)
    by Plain = sym (first_nothing (weigh (kinds_of g.type) v))
    by Required = sym (first_nothing (weigh (kinds_of g.type) v))
    by Optional = count_is _ _ _ _ _ _ refl refl (omega arith)

accepted_field : (fs : Fields) (id : ℤ) (g : DefField) → AreAccepted Any fs → find (has_id id) (field_list fs) ≡ Some g → IsAccepted Any g.type
accepted_field no_fields id g a e = absurd cc
accepted_field (field i w n t d fs) id g a e = by (int_eq i id) refl e (λ later. accepted_field fs id g a.2 later)
  where
    this : DefField
    this = record { id = i; name = w; need = n; type = t; default = d }

    by : (b : Bool) → int_eq i id ≡ b → cond b (Some this) (find (has_id id) (field_list fs)) ≡ Some g → (find (has_id id) (field_list fs) ≡ Some g → IsAccepted Any g.type) → IsAccepted Any g.type
    by true q f later = let is : this ≡ g = cc in subst (λ (h : DefField). IsAccepted Any h.type) is a.0
    by false q f later = later f

-- ---- parts whose counts are those of their values

abbrev Weighs : Node → Type 0
Weighs x = (t : TypeTree) (at : ℕ) → IsAccepted Any t → faults x t at ≡ [] → total x t ≡ weigh (kinds_of t) (meaning x t)

abbrev AllWeigh : Nodes → Type 0
AllWeigh xs = (t : TypeTree) (at : ℕ) → IsAccepted Any t → faults_in xs t at ≡ [] → totals xs t ≡ items_weight (kinds_of t) (meanings xs t)

abbrev PairsWeigh : Pairs → Type 0
PairsWeigh xs = (t u : TypeTree) (at : ℕ) → IsAccepted Any t → IsAccepted Any u → faults_in_pairs xs t u at ≡ []
    → totals_of_pairs xs t u ≡ pairs_weight (pair_kinds t u) (meanings_of_pairs xs t u)

abbrev FieldsWeigh : WireFields → Type 0
FieldsWeigh xs = (fs : Fields) (before : List ℤ) (at : ℕ) → Rising 0 (ids_of_fields fs) → AreAccepted Any fs → faults_in_fields xs (field_list fs) before at ≡ []
    → fields_weight (readings xs (field_list fs)) before (field_list fs) ≡ together (totals_of_fields xs (field_list fs)) (defaults_beside (field_list fs) (ids_after xs before))

-- one field in front of the others
field_weighs : (id : ℤ) (x : Node) (xs : WireFields) (fs : Fields) (before : List ℤ) (at : ℕ) → Rising 0 (ids_of_fields fs) → AreAccepted Any fs → Weighs x
    → of_field (type_in (field_list fs) id) (is_among id before) x (λ t. faults x t at) at ≡ []
    → fields_weight (readings xs (field_list fs)) (id ∷ before) (field_list fs) ≡ together (totals_of_fields xs (field_list fs)) (defaults_beside (field_list fs) (ids_after xs (id ∷ before)))
    → fields_weight (readings (wire_field id x xs) (field_list fs)) before (field_list fs)
    ≡ together (totals_of_fields (wire_field id x xs) (field_list fs)) (defaults_beside (field_list fs) (ids_after xs (id ∷ before)))
field_weighs id x xs fs before at up a weighs fine rest = by (find (has_id id) (field_list fs)) refl (is_among id before) refl fine
  where
    by : (o : Option DefField) → find (has_id id) (field_list fs) ≡ o → (b : Bool) → is_among id before ≡ b → of_field (option_map type_of_field o) b x (λ t. faults x t at) at ≡ []
        → fields_weight (reading id (option_map type_of_field o) (meaning x) (readings xs (field_list fs))) before (field_list fs)
        ≡ together (together (of_known o (total x)) (totals_of_fields xs (field_list fs))) (defaults_beside (field_list fs) (ids_after xs (id ∷ before)))
    by None e b q g =
        others_unknown id (readings xs (field_list fs)) before (field_list fs) (all_others id (field_list fs) e) ∙ rest
        ∙ ap (λ c. together c (defaults_beside (field_list fs) (ids_after xs (id ∷ before)))) (sym (first_nothing (totals_of_fields xs (field_list fs))))
    by (Some f) e true q g = absurd cc
    by (Some f) e false q g =
        let m = meaning x f.type in
        let own = stands f m (default_value f) ∙ ap (together (by_need f.need)) (sym (weighs f.type at (accepted_field fs id f a e) g)) in
        one_known id m (readings xs (field_list fs)) before f 0 fs up e q
        ∙ ap (λ c. together c (fields_weight (readings xs (field_list fs)) (id ∷ before) (field_list fs))) own
        ∙ ap (together (together (by_need f.need) (total x f.type))) rest
        ∙ regroup (together (by_need f.need) (total x f.type)) (totals_of_fields xs (field_list fs)) (defaults_beside (field_list fs) (ids_after xs (id ∷ before)))

-- ---- nodes of their types' codes

flag_weighs : (x : Bool) (t : TypeTree) → HasCode 1 t → total (flag x) t ≡ weigh (kinds_of t) (One (Truth x))
flag_weighs x t flag_is = refl

i8_weighs : (z : ℤ) (t : TypeTree) → HasCode 3 t → total (i8 z) t ≡ weigh (kinds_of t) (One (Number z))
i8_weighs z t i8_is = refl

i16_weighs : (z : ℤ) (t : TypeTree) → HasCode 4 t → total (i16 z) t ≡ weigh (kinds_of t) (One (Number z))
i16_weighs z t i16_is = refl

i32_weighs : (z : ℤ) (t : TypeTree) → HasCode 5 t → total (i32 z) t ≡ weigh (kinds_of t) (One (Number z))
i32_weighs z t i32_is = refl
i32_weighs z t (enum_is n ms) = refl

i64_weighs : (z : ℤ) (t : TypeTree) → HasCode 6 t → total (i64 z) t ≡ weigh (kinds_of t) (One (Number z))
i64_weighs z t i64_is = refl

bytes_weigh : (b : List ℕ) (t : TypeTree) → HasCode 8 t → total (binary b) t ≡ weigh (kinds_of t) (Bytes b)
bytes_weigh b t text_is = refl
bytes_weigh b t bytes_is = refl

list_weighs : (c : ℕ) (xs : Nodes) (t : TypeTree) (at : ℕ) → HasCode 9 t → IsAccepted Any t → AllWeigh xs → faults_in xs (element_of t) (suc at) ≡ []
    → total (list c xs) t ≡ weigh (kinds_of t) (meaning (list c xs) t)
list_weighs c xs t at (list_is x) a weigh_all h =
    ap (together a_holder) (weigh_all x (suc at) a h) ∙ count_is _ _ _ _ _ _ refl refl (omega arith)

set_weighs : (c : ℕ) (xs : Nodes) (t : TypeTree) (at : ℕ) → HasCode 10 t → IsAccepted Any t → AllWeigh xs → faults_in xs (element_of t) (suc at) ≡ []
    → total (set c xs) t ≡ weigh (kinds_of t) (meaning (set c xs) t)
set_weighs c xs t at (set_is x) a weigh_all h =
    ap (together a_holder) (weigh_all x (suc at) a.1 h ∙ moved_items (kinds_of x) (meanings xs x)) ∙ count_is _ _ _ _ _ _ refl refl (omega arith)

map_weighs : (c d : ℕ) (xs : Pairs) (t : TypeTree) (at : ℕ) → HasCode 11 t → IsAccepted Any t → PairsWeigh xs → faults_in_pairs xs (key_type t) (value_type t) (suc at) ≡ []
    → total (map_node c d xs) t ≡ weigh (kinds_of t) (meaning (map_node c d xs) t)
map_weighs c d xs t at (map_is x y) a weigh_all h =
    ap (together a_holder) (weigh_all x y (suc at) a.1 a.2 h ∙ moved_pairs (pair_kinds x y) (meanings_of_pairs xs x y))
    ∙ count_is _ _ _ _ _ _ refl refl (omega arith)

struct_weighs : (xs : WireFields) (t : TypeTree) (at : ℕ) → HasCode 12 t → IsAccepted Any t → FieldsWeigh xs → faults_in_fields xs (fields_of t) [] (suc at) ≡ []
    → total (structure xs) t ≡ weigh (kinds_of t) (meaning (structure xs) t)
struct_weighs xs t at (struct_is w fs) a weigh_all h =
    sym (regroup a_struct (totals_of_fields xs (field_list fs)) (defaults_beside (field_list fs) (ids_after xs [])))
    ∙ ap (together a_struct) (sym (weigh_all fs [] (suc at) a.0 a.2 h) ∙ struct_weight (readings xs (field_list fs)) fs)
    ∙ count_is _ _ _ _ _ _ (omega arith) refl (omega arith)

-- ---- every node

mutual
  pub weighs : (w : Node) → Weighs w
  weighs (flag b) t at a h = flag_weighs b t (clean_own t (flag b) at h).coded
  weighs (i8 z) t at a h = i8_weighs z t (clean_own t (i8 z) at h).coded
  weighs (i16 z) t at a h = i16_weighs z t (clean_own t (i16 z) at h).coded
  weighs (i32 z) t at a h = i32_weighs z t (clean_own t (i32 z) at h).coded
  weighs (i64 z) t at a h = i64_weighs z t (clean_own t (i64 z) at h).coded
  weighs (double b) t at a h = absurd (no_double t (clean_own t (double b) at h).coded)
  weighs (binary b) t at a h = bytes_weigh b t (clean_own t (binary b) at h).coded
  weighs (list c xs) t at a h =
      let p = clean_below t (list c xs) at (faults_in xs (element_of t) (suc at)) h in
      list_weighs c xs t at p.0.coded a (λ u i ok f. all_weigh xs u i ok f) p.1
  weighs (set c xs) t at a h =
      let p = clean_below t (set c xs) at (faults_in xs (element_of t) (suc at) ++ repeats (keys_in xs (suc at)) []) h in
      set_weighs c xs t at p.0.coded a (λ u i ok f. all_weigh xs u i ok f) (none_of (faults_in xs (element_of t) (suc at)) (repeats (keys_in xs (suc at)) []) p.1).0
  weighs (map_node c d xs) t at a h =
      let p = clean_below t (map_node c d xs) at (faults_in_pairs xs (key_type t) (value_type t) (suc at) ++ repeats (keys_in_pairs xs (suc at)) []) h in
      map_weighs c d xs t at p.0.coded a (λ u v i ok fine f. pairs_weigh xs u v i ok fine f)
      (none_of (faults_in_pairs xs (key_type t) (value_type t) (suc at)) (repeats (keys_in_pairs xs (suc at)) []) p.1).0
  weighs (structure xs) t at a h =
      let p = clean_below t (structure xs) at (faults_in_fields xs (fields_of t) [] (suc at)) h in
      struct_weighs xs t at p.0.coded a (λ fs ids i up ok f. fields_weigh xs fs ids i up ok f) p.1

  all_weigh : (xs : Nodes) → AllWeigh xs
  all_weigh no_nodes t at a h = refl
  all_weigh (node x xs) t at a h =
      let p = none_of (faults x t at) (faults_in xs t (at + size x)) h in
      ap (λ c. together (together an_item c) (totals xs t)) (weighs x t at a p.0)
      ∙ ap (together (together an_item (weigh (kinds_of t) (meaning x t)))) (all_weigh xs t (at + size x) a p.1)
      ∙ count_is _ _ _ _ _ _ refl (omega arith) (omega arith)

  pairs_weigh : (xs : Pairs) → PairsWeigh xs
  pairs_weigh no_pairs t u at a f h = refl
  pairs_weigh (pair x y xs) t u at a f h =
      let p = none_of (faults x t at) (faults y u (at + size x) ++ faults_in_pairs xs t u (at + size x + size y)) h in
      let q = none_of (faults y u (at + size x)) (faults_in_pairs xs t u (at + size x + size y)) p.1 in
      ap (λ c. together (together (together an_item c) (total y u)) (totals_of_pairs xs t u)) (weighs x t at a p.0)
      ∙ ap (λ c. together (together (together an_item (weigh (kinds_of t) (meaning x t))) c) (totals_of_pairs xs t u)) (weighs y u (at + size x) f q.0)
      ∙ ap (together (together (together an_item (weigh (kinds_of t) (meaning x t))) (weigh (kinds_of u) (meaning y u)))) (pairs_weigh xs t u (at + size x + size y) a f q.1)
      ∙ count_is _ _ _ _ _ _ (omega arith) (omega arith) (omega arith)

  fields_weigh : (xs : WireFields) → FieldsWeigh xs
  fields_weigh no_more fs before at up a h = all_defaults before (field_list fs) ∙ sym (first_nothing (defaults_beside (field_list fs) before))
  fields_weigh (wire_field id x xs) fs before at up a h =
      let p = none_of (of_field (type_in (field_list fs) id) (is_among id before) x (λ t. faults x t at) at) (faults_in_fields xs (field_list fs) (id ∷ before) (at + size x)) h in
      field_weighs id x xs fs before at up a (λ t i ok f. weighs x t i ok f) p.0 (fields_weigh xs fs (id ∷ before) (at + size x) up a p.1)
