-- The cells of a value of a type, part by part: each part is of its own type, and the cells of the first parts add up.
use Rattle.std.proofs.Common.{◌≡◌, ℕ, zero, suc, ◌+◌, ◌<◌, List, length, get_or, Some, refl, sym, ap, ◌∙◌, subst, arith, ◌⊎◌, inl, inr}
use Rattle.std.specs.List.{slice_get}
use Rattle.std.proofs.lemmas.Option.{slice_get_within, get_or_from_slice_get}
use Rattle.idl_profile.specs.declared.kinds.Need.TheVariants.{Plain, Required, Optional}
use Rattle.idl_profile.specs.declared.kinds.TypeKind.TheVariants as kinds
use Rattle.idl_profile.specs.Types.{TypeTree, scalar, text, bytes, list_of, set_of, map_of, named, enum_of, struct_of, Fields, no_fields, field, DefField, field_list, fields_of, kind_of, flag, i8, i16, i32, i64}
use Rattle.idl_parse.specs.Refs.{element_of, key_of, value_of}
use Rattle.frozen_model.specs.Trees as tree
use Rattle.frozen_model.specs.Trees.{KindTree}
use Rattle.frozen_model.specs.Values as is
use Rattle.frozen_model.specs.Values.{Value, Values, One, Bytes, Absent, Present, Items, Record, NoValue, And, Of, OfEach, none, more, OfAll, no_part, part, record_of, count, nth, cells, cells_each, cells_all}
use Rattle.type_kinds.specs.KindsOf.{kinds_of, kinds_of_fields}
use Rattle.typed_tree.specs.declared.tree.TreeKind.{TreeKind}
use Rattle.typed_tree.specs.declared.tree.TreeKind.TheVariants as made
use Rattle.typed_tree.specs.Parts.{IsRow, IsMap, items_of, fields_of as values_in}
use Rattle.typed_tree.specs.References.{HasForm}
use Rattle.typed_tree.specs.Spots.{pair}
use Rattle.typed_tree.specs.Sizes.{capped, field_kinds}
use Rattle.typed_tree.specs.Ranges.{pair_kinds}
use Rattle.typed_tree.proofs.Typed.{size}

-- ---- items

-- the cells of the first so many items, and one for each
abbrev pub cells_before : KindTree → Values → ℕ → ℕ
cells_before k NoValue n = 0
cells_before k (And v vs) zero = 0
cells_before k (And v vs) (suc n) = 1 + cells k v + cells_before k vs n

pub before-none : (k : KindTree) (vs : Values) → cells_before k vs 0 ≡ 0
before-none k NoValue = refl
before-none k (And v vs) = refl

pub before-all : (k : KindTree) (vs : Values) → cells_before k vs (count vs) ≡ cells_each k vs
before-all k NoValue = refl
before-all k (And v vs) = ap (λ n. 1 + cells k v + n) (before-all k vs)

pub before-more : (k : KindTree) (vs : Values) (i : ℕ) → i < count vs → cells_before k vs (suc i) ≡ cells_before k vs i + (1 + cells k (nth vs i))
before-more k NoValue i lt = absurd (omega (arith, lt))
before-more k (And v vs) zero lt = omega (arith, before-none k vs)
before-more k (And v vs) (suc i) lt = omega (arith, before-more k vs i (omega (arith, lt)))

pub each-at : {k : KindTree} {vs : Values} → OfEach k vs → (i : ℕ) → i < count vs → Of k (nth vs i)
each-at none i lt = absurd (omega (arith, lt))
each-at (more h hs) zero lt = h
each-at (more h hs) (suc i) lt = each-at hs i (omega (arith, lt))

-- one more item in a total that is capped
pub item-more : (k : KindTree) (vs : Values) (i total item one next : ℕ) → i < count vs → total ≡ capped (2 + cells_before k vs i) → item ≡ capped (cells k (nth vs i)) → one ≡ capped (item + 1) → next ≡ capped (total + one) → next ≡ capped (2 + cells_before k vs (i + 1))
item-more k vs i total item one next lt so_far is and_one all =
    let push : cells_before k vs (i + 1) ≡ cells_before k vs i + (1 + cells k (nth vs i)) = ap (cells_before k vs) (omega arith) ∙ before-more k vs i lt in
    omega (arith, push, so_far, is, and_one, all)

pub before-count : (k : KindTree) (vs : Values) (i total : ℕ) → i ≡ count vs → total ≡ capped (2 + cells_before k vs i) → total ≡ capped (2 + cells_each k vs)
before-count k vs i total all so_far = so_far ∙ ap (λ n. capped (2 + cells_before k vs n)) all ∙ ap (λ n. capped (2 + n)) (before-all k vs)

-- ---- pairs

pair-first : {a b : KindTree} {v w : Value} → Of (pair_kinds a b) (pair v w) → Of a v
pair-first (record_of e (part p (part q no_part))) = p

pair-second : {a b : KindTree} {v w : Value} → Of (pair_kinds a b) (pair v w) → Of b w
pair-second (record_of e (part p (part q no_part))) = q

pub key-of-pair : (a b : KindTree) (vs : Values) (i : ℕ) (v w : Value) → OfEach (pair_kinds a b) vs → i < count vs → nth vs i ≡ pair v w → Of a v
key-of-pair a b vs i v w h lt e = pair-first (subst (Of (pair_kinds a b)) e (each-at h i lt))

pub value-of-pair : (a b : KindTree) (vs : Values) (i : ℕ) (v w : Value) → OfEach (pair_kinds a b) vs → i < count vs → nth vs i ≡ pair v w → Of b w
value-of-pair a b vs i v w h lt e = pair-second (subst (Of (pair_kinds a b)) e (each-at h i lt))

pub pair-more : (a b : KindTree) (vs : Values) (i total first second both one next : ℕ) (v w : Value) → i < count vs → nth vs i ≡ pair v w → total ≡ capped (2 + cells_before (pair_kinds a b) vs i) → first ≡ capped (cells a v) → second ≡ capped (cells b w) → both ≡ capped (first + second) → one ≡ capped (both + 1) → next ≡ capped (total + one) → next ≡ capped (2 + cells_before (pair_kinds a b) vs (i + 1))
pair-more a b vs i total first second both one next v w lt at so_far f s bs o all =
    let push : cells_before (pair_kinds a b) vs (i + 1) ≡ cells_before (pair_kinds a b) vs i + (1 + cells (pair_kinds a b) (nth vs i)) = ap (cells_before (pair_kinds a b) vs) (omega arith) ∙ before-more (pair_kinds a b) vs i lt in
    let here : cells (pair_kinds a b) (nth vs i) ≡ cells a v + (cells b w + 0) = ap (cells (pair_kinds a b)) at in
    omega (arith, push, here, so_far, f, s, bs, o, all)

-- ---- fields

abbrev kinds_at : Fields → ℕ → DefField → KindTree
kinds_at fs i d = let f = get_or (field_list fs) i d in field_kinds f.need f.type

-- the cells of the first so many fields
abbrev pub fields_before : Fields → Values → ℕ → ℕ
fields_before no_fields vs n = 0
fields_before (field j w a t d fs) NoValue n = 0
fields_before (field j w a t d fs) (And v vs) zero = 0
fields_before (field j w a t d fs) (And v vs) (suc n) = cells (field_kinds a t) v + fields_before fs vs n

pub none-before : (fs : Fields) (vs : Values) → fields_before fs vs 0 ≡ 0
none-before no_fields vs = refl
none-before (field j w a t d fs) NoValue = refl
none-before (field j w a t d fs) (And v vs) = refl

all-before : (fs : Fields) (vs : Values) → OfAll (kinds_of_fields fs) vs → fields_before fs vs (length (field_list fs)) ≡ cells_all (kinds_of_fields fs) vs
all-before no_fields vs h = refl
all-before (field j w Optional t d fs) _ (part {v = v} h hs) = ap (λ n. cells (field_kinds Optional t) v + n) (all-before fs _ hs)
all-before (field j w Plain t d fs) _ (part {v = v} h hs) = ap (λ n. cells (kinds_of t) v + n) (all-before fs _ hs)
all-before (field j w Required t d fs) _ (part {v = v} h hs) = ap (λ n. cells (kinds_of t) v + n) (all-before fs _ hs)

-- as many values as fields
as-many : (fs : Fields) (vs : Values) → OfAll (kinds_of_fields fs) vs → count vs ≡ length (field_list fs)
as-many no_fields _ no_part = refl
as-many (field j w Optional t d fs) _ (part h hs) = omega (arith, as-many fs _ hs)
as-many (field j w Plain t d fs) _ (part h hs) = omega (arith, as-many fs _ hs)
as-many (field j w Required t d fs) _ (part h hs) = omega (arith, as-many fs _ hs)

field-of : (fs : Fields) (vs : Values) (i : ℕ) (d : DefField) → OfAll (kinds_of_fields fs) vs → i < length (field_list fs) → Of (kinds_at fs i d) (nth vs i)
field-of no_fields vs i d h lt = absurd (omega (arith, lt))
field-of (field j w Optional t e fs) _ zero d (part h hs) lt = h
field-of (field j w Plain t e fs) _ zero d (part h hs) lt = h
field-of (field j w Required t e fs) _ zero d (part h hs) lt = h
field-of (field j w Optional t e fs) _ (suc i) d (part h hs) lt = field-of fs _ i d hs (omega (arith, lt))
field-of (field j w Plain t e fs) _ (suc i) d (part h hs) lt = field-of fs _ i d hs (omega (arith, lt))
field-of (field j w Required t e fs) _ (suc i) d (part h hs) lt = field-of fs _ i d hs (omega (arith, lt))

before-field : (fs : Fields) (vs : Values) (i : ℕ) (d : DefField) → i < length (field_list fs) → i < count vs → fields_before fs vs (suc i) ≡ fields_before fs vs i + cells (kinds_at fs i d) (nth vs i)
before-field no_fields vs i d lt few = absurd (omega (arith, lt))
before-field (field j w a t e fs) NoValue i d lt few = absurd (omega (arith, few))
before-field (field j w a t e fs) (And v vs) zero d lt few = omega (arith, none-before fs vs)
before-field (field j w a t e fs) (And v vs) (suc i) d lt few = omega (arith, before-field fs vs i d (omega (arith, lt)) (omega (arith, few)))

-- the fields of a struct's type
abbrev pub all_fields : TypeTree → Fields
all_fields (named (struct_of w fs)) = fs
all_fields _ = no_fields

-- what it is for a value to be of a struct's type
pub record HasFields (t : TypeTree) (v : Value) : Type 0 where
  pub list : fields_of t ≡ field_list (all_fields t)
  pub values : OfAll (kinds_of_fields (all_fields t)) (values_in v)
  pub cells : cells (kinds_of t) v ≡ cells_all (kinds_of_fields (all_fields t)) (values_in v)

pub struct-value : (t : TypeTree) (v : Value) → kind_of t ≡ kinds.Struct → Of (kinds_of t) v → HasFields t v
struct-value (named (struct_of w fs)) _ e (record_of same hs) = record { list = refl; values = hs; cells = refl }
struct-value (named (enum_of w ms)) v e h = absurd (cc)
struct-value (scalar flag) v e h = absurd (cc)
struct-value (scalar i8) v e h = absurd (cc)
struct-value (scalar i16) v e h = absurd (cc)
struct-value (scalar i32) v e h = absurd (cc)
struct-value (scalar i64) v e h = absurd (cc)
struct-value text v e h = absurd (cc)
struct-value bytes v e h = absurd (cc)
struct-value (list_of x) v e h = absurd (cc)
struct-value (set_of x) v e h = absurd (cc)
struct-value (map_of x y) v e h = absurd (cc)

pub field-count : (t : TypeTree) (v : Value) → HasFields t v → count (values_in v) ≡ length (fields_of t)
field-count t v h = as-many (all_fields t) (values_in v) h.values ∙ ap length (sym h.list)

pub field-value : (t : TypeTree) (v : Value) (i : ℕ) (f : DefField) → HasFields t v → slice_get (fields_of t) i ≡ Some f → Of (field_kinds f.need f.type) (nth (values_in v) i)
field-value t v i f h at =
    let here = subst (λ (gs : List DefField). slice_get gs i ≡ Some f) h.list at in
    let lt = slice_get_within (field_list (all_fields t)) i f here in
    subst (λ (g : DefField). Of (field_kinds g.need g.type) (nth (values_in v) i)) (get_or_from_slice_get (field_list (all_fields t)) i f f here) (field-of (all_fields t) (values_in v) i f h.values lt)

-- one more field in a total that is capped
pub field-more : (t : TypeTree) (v : Value) (i total one next : ℕ) (f : DefField) → HasFields t v → slice_get (fields_of t) i ≡ Some f → total ≡ capped (fields_before (all_fields t) (values_in v) i) → one ≡ capped (cells (field_kinds f.need f.type) (nth (values_in v) i)) → next ≡ capped (total + one)
    → next ≡ capped (fields_before (all_fields t) (values_in v) (i + 1))
field-more t v i total one next f h at so_far is all =
    let fs = all_fields t in
    let vs = values_in v in
    let here = subst (λ (gs : List DefField). slice_get gs i ≡ Some f) h.list at in
    let lt = slice_get_within (field_list fs) i f here in
    let few : i < count vs = omega (arith, lt, as-many fs vs h.values) in
    let push : fields_before fs vs (i + 1) ≡ fields_before fs vs i + cells (kinds_at fs i f) (nth vs i) = ap (fields_before fs vs) (omega arith) ∙ before-field fs vs i f lt few in
    let same : cells (kinds_at fs i f) (nth vs i) ≡ cells (field_kinds f.need f.type) (nth vs i) = ap (λ (g : DefField). cells (field_kinds g.need g.type) (nth vs i)) (get_or_from_slice_get (field_list fs) i f f here) in
    omega (arith, push, same, so_far, is, all)

pub fields-all : (t : TypeTree) (v : Value) (i total : ℕ) → HasFields t v → i ≡ length (fields_of t) → total ≡ capped (fields_before (all_fields t) (values_in v) i) → total ≡ capped (cells (kinds_of t) v)
fields-all t v i total h all so_far =
    so_far ∙ ap (λ n. capped (fields_before (all_fields t) (values_in v) n)) (all ∙ ap length h.list) ∙ ap capped (all-before (all_fields t) (values_in v) h.values ∙ sym h.cells)

-- ---- values of types of each kind

-- a list or a set
pub record HasItems (t : TypeTree) (v : Value) : Type 0 where
  pub smaller : suc (size (element_of t)) ≡ size t
  pub form : IsRow v
  pub items : OfEach (kinds_of (element_of t)) (items_of v)
  pub cells : cells (kinds_of t) v ≡ 2 + cells_each (kinds_of (element_of t)) (items_of v)

pub row-value : (t : TypeTree) (v : Value) → (kind_of t ≡ kinds.List) ⊎ (kind_of t ≡ kinds.Set) → Of (kinds_of t) v → HasItems t v
row-value (list_of x) _ e (is.items o ri hs) = record { smaller = refl; form = tt; items = hs; cells = refl }
row-value (set_of x) _ e (is.items o ri hs) = record { smaller = refl; form = tt; items = hs; cells = refl }
row-value text v (inl e) h = absurd (cc)
row-value text v (inr e) h = absurd (cc)
row-value bytes v (inl e) h = absurd (cc)
row-value bytes v (inr e) h = absurd (cc)
row-value (map_of x y) v (inl e) h = absurd (cc)
row-value (map_of x y) v (inr e) h = absurd (cc)
row-value (named (struct_of w fs)) v (inl e) h = absurd (cc)
row-value (named (struct_of w fs)) v (inr e) h = absurd (cc)
row-value (named (enum_of w ms)) v (inl e) h = absurd (cc)
row-value (named (enum_of w ms)) v (inr e) h = absurd (cc)
row-value (scalar flag) v (inl e) h = absurd (cc)
row-value (scalar flag) v (inr e) h = absurd (cc)
row-value (scalar i8) v (inl e) h = absurd (cc)
row-value (scalar i8) v (inr e) h = absurd (cc)
row-value (scalar i16) v (inl e) h = absurd (cc)
row-value (scalar i16) v (inr e) h = absurd (cc)
row-value (scalar i32) v (inl e) h = absurd (cc)
row-value (scalar i32) v (inr e) h = absurd (cc)
row-value (scalar i64) v (inl e) h = absurd (cc)
row-value (scalar i64) v (inr e) h = absurd (cc)

-- a map
pub record HasPairs (t : TypeTree) (v : Value) : Type 0 where
  pub smaller : suc (size (key_of t) + size (value_of t)) ≡ size t
  pub form : IsMap v
  pub items : OfEach (pair_kinds (kinds_of (key_of t)) (kinds_of (value_of t))) (items_of v)
  pub cells : cells (kinds_of t) v ≡ 2 + cells_each (pair_kinds (kinds_of (key_of t)) (kinds_of (value_of t))) (items_of v)

pub map-value : (t : TypeTree) (v : Value) → kind_of t ≡ kinds.Map → Of (kinds_of t) v → HasPairs t v
map-value (map_of x y) _ e (is.items o ri hs) = record { smaller = refl; form = tt; items = hs; cells = refl }
map-value (named (struct_of w fs)) v e h = absurd (cc)
map-value (named (enum_of w ms)) v e h = absurd (cc)
map-value (scalar flag) v e h = absurd (cc)
map-value (scalar i8) v e h = absurd (cc)
map-value (scalar i16) v e h = absurd (cc)
map-value (scalar i32) v e h = absurd (cc)
map-value (scalar i64) v e h = absurd (cc)
map-value text v e h = absurd (cc)
map-value bytes v e h = absurd (cc)
map-value (list_of x) v e h = absurd (cc)
map-value (set_of x) v e h = absurd (cc)

-- ---- optionals

-- an optional that was not made as a present one is absent
pub absent-value : {k : KindTree} (v : Value) (m : TreeKind) → Of (tree.Optional tt k) v → HasForm m v → (m ≡ made.Present → ⊥) → v ≡ Absent
absent-value _ m is.absent f n = refl
absent-value _ made.Present (is.present h) f n = absurd (n refl)
absent-value _ made.Flag (is.present h) f n = absurd f
absent-value _ made.Int (is.present h) f n = absurd f
absent-value _ made.Text (is.present h) f n = absurd f
absent-value _ made.Bytes (is.present h) f n = absurd f
absent-value _ made.List (is.present h) f n = absurd f
absent-value _ made.Set (is.present h) f n = absurd f
absent-value _ made.Map (is.present h) f n = absurd f
absent-value _ made.Struct (is.present h) f n = absurd f
absent-value _ made.Absent (is.present h) f n = absurd (cc)
