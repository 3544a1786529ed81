-- What is a Schema of version 2 is one of version 1 too, with the same version.
use Rattle.std.proofs.Common.{◌≡◌, ◌⊎◌, inl, inr, ℕ, suc, ◌+◌, ℤ, pos, List, [], ◌∷◌, ◌++◌, Bool, true, false, cond, Option, Some, None, refl, ap, sym, ◌∙◌, subst}
use Rattle.std.specs.Prelude.{find, option_map}
use Rattle.std.specs.Ordering.{int_eq}
use Rattle.frozen_model.specs.Values.{Value, One, Number, Truth}
use Rattle.frozen_model.specs.Layouts.{Version1, Version2}
use Rattle.compact_wire.specs.Node.{Node, flag, i8, i16, i32, i64, double, binary, list, set, map, structure, Pairs, no_pairs, pair, Fields, no_fields, field}
use Rattle.wire_scan.specs.Sizes.{size}
use Rattle.idl_profile.specs.declared.kinds.Need.TheVariants.{Plain}
use Rattle.idl_profile.specs.Types.{TypeTree, scalar, flag as flag_type, i16 as i16_type, i32 as i32_type, map_of, DefField, field_list, fields_of}
use Rattle.typed_reading.specs.declared.fault.NodeFault.TheVariants.{WrongType}
use Rattle.typed_reading.specs.declared.fault.Found.{Found}
use Rattle.typed_reading.specs.Codes.{meets}
use Rattle.typed_reading.specs.Keys.{keys_in_pairs}
use Rattle.typed_reading.specs.Faults.{has_id, type_of_field, type_in, is_among, inner, all_here, repeats, with_below, of_field, faults, faults_in_pairs, faults_in_fields}
use Rattle.compact_codec.specs.Wire.{flag_in, number_in}
use Rattle.typed_reading.specs.Meaning.{given, under, reading, meaning, readings}
use Rattle.typed_reading.proofs.Valued.{none_of, clean_below}
use Rattle.typed_reading.proofs.FieldLaws.{int_eq_same}
use Rattle.layout_schema.specs.Schemas.{base_type, layout_type, schema_type}
use Rattle.layout_schema.specs.Shapes.{relaxes_in, version_in}

-- a node without a fault as one type has none as the other
abbrev Weaker : TypeTree → TypeTree → Type 0
Weaker t u = (x : Node) (at : ℕ) → faults x u at ≡ [] → faults x t at ≡ []

-- a field of both has a type in the first that asks no more than the one in the second
record Both (fs gs : List DefField) (id : ℤ) : Type 0 where
  pub one : TypeTree
  pub two : TypeTree
  pub first : type_in fs id ≡ Some one
  pub second : type_in gs id ≡ Some two
  pub weaker : Weaker one two

abbrev WeakerFields : List DefField → List DefField → Type 0
WeakerFields fs gs = (id : ℤ) → (type_in fs id ≡ None) ⊎ Both fs gs id

joined : (xs ys : List Found) → xs ≡ [] → ys ≡ [] → xs ++ ys ≡ []
joined xs ys a b = ap (λ r. r ++ ys) a ∙ b

below_clean : (t : TypeTree) (w : Node) (at : ℕ) (below : List Found) → meets t w ≡ true → inner t w ≡ [] → below ≡ [] → with_below t w at below ≡ []
below_clean t w at below m i b =
    ap (λ r. cond r below [] ++ all_here at (cond r (inner t w) (WrongType ∷ []))) m ∙ ap (λ ks. below ++ all_here at ks) i ∙ ap (λ r. r ++ []) b

fields_clean : (fs gs : List DefField) → WeakerFields fs gs → (xs : Fields) (before : List ℤ) (at : ℕ) → faults_in_fields xs gs before at ≡ [] → faults_in_fields xs fs before at ≡ []
fields_clean fs gs h no_fields before at e = refl
fields_clean fs gs h (field id x xs) before at e =
    let both = none_of (of_field (type_in gs id) (is_among id before) x (λ t. faults x t at) at) (faults_in_fields xs gs (id ∷ before) (at + size x)) e in
    joined (of_field (type_in fs id) (is_among id before) x (λ t. faults x t at) at) (faults_in_fields xs fs (id ∷ before) (at + size x))
    (elim (h id) [
      | inl none ↦ ap (λ o. of_field o (is_among id before) x (λ t. faults x t at) at) none
      | inr b ↦ ap (λ o. of_field o (is_among id before) x (λ t. faults x t at) at) b.first
          ∙ known b.one b.two b.weaker x at (is_among id before) (sym (ap (λ o. of_field o (is_among id before) x (λ t. faults x t at) at) b.second) ∙ both.0)
    ])
    (fields_clean fs gs h xs (id ∷ before) (at + size x) both.1)
  where
    known : (t u : TypeTree) → Weaker t u → (x : Node) (at : ℕ) (again : Bool) → of_field (Some u) again x (λ t. faults x t at) at ≡ [] → of_field (Some t) again x (λ t. faults x t at) at ≡ []
    known t u w x at true e = absurd cc
    known t u w x at false e = w x at e

-- the fields of a type whose list the other's goes on with
found_first : (test : DefField → Bool) (fs gs : List DefField) → (find test fs ≡ None) ⊎ (find test (fs ++ gs) ≡ find test fs)
found_first test [] gs = inl refl
found_first test (f ∷ fs) gs = go (test f) (found_first test fs gs)
  where
    go : (b : Bool) → (find test fs ≡ None) ⊎ (find test (fs ++ gs) ≡ find test fs)
        → (cond b (Some f) (find test fs) ≡ None) ⊎ (cond b (Some f) (find test (fs ++ gs)) ≡ cond b (Some f) (find test fs))
    go true h = inr refl
    go false h = h

same_weaker : (t : TypeTree) → Weaker t t
same_weaker t x at e = e

more_fields : (fs gs hs : List DefField) → gs ≡ fs ++ hs → WeakerFields fs gs
more_fields fs gs hs is id = go (find (has_id id) fs) refl (found_first (has_id id) fs hs)
  where
    go : (o : Option DefField) → find (has_id id) fs ≡ o → (find (has_id id) fs ≡ None) ⊎ (find (has_id id) (fs ++ hs) ≡ find (has_id id) fs) → (type_in fs id ≡ None) ⊎ Both fs gs id
    go None e h = inl (ap (option_map type_of_field) e)
    go (Some f) e (inl h) = absurd cc
    go (Some f) e (inr h) = inr (record {
      one = f.type;
      two = f.type;
      first = ap (option_map type_of_field) e;
      second = ap (λ r. option_map type_of_field (find (has_id id) r)) is ∙ ap (option_map type_of_field) (h ∙ e);
      weaker = same_weaker f.type;
    })

-- ---- a Layout

layout_fields : WeakerFields (fields_of (layout_type Version1)) (fields_of (layout_type Version2))
layout_fields = more_fields (fields_of (layout_type Version1)) (fields_of (layout_type Version2)) (field_list (base_type Version2)) refl

layout_weaker : Weaker (layout_type Version1) (layout_type Version2)
layout_weaker (structure xs) at e =
    let c = clean_below (layout_type Version2) (structure xs) at (faults_in_fields xs (fields_of (layout_type Version2)) [] (suc at)) e in
    below_clean (layout_type Version1) (structure xs) at (faults_in_fields xs (fields_of (layout_type Version1)) [] (suc at)) refl refl
    (fields_clean (fields_of (layout_type Version1)) (fields_of (layout_type Version2)) layout_fields xs [] (suc at) c.1)
layout_weaker (flag b) at e = absurd cc
layout_weaker (i8 z) at e = absurd cc
layout_weaker (i16 z) at e = absurd cc
layout_weaker (i32 z) at e = absurd cc
layout_weaker (i64 z) at e = absurd cc
layout_weaker (double b) at e = absurd cc
layout_weaker (binary b) at e = absurd cc
layout_weaker (list c xs) at e = absurd cc
layout_weaker (set c xs) at e = absurd cc
layout_weaker (map a b xs) at e = absurd cc

-- ---- the layouts

pairs_clean : (k t u : TypeTree) → Weaker t u → (xs : Pairs) (at : ℕ) → faults_in_pairs xs k u at ≡ [] → faults_in_pairs xs k t at ≡ []
pairs_clean k t u w no_pairs at e = refl
pairs_clean k t u w (pair x y xs) at e =
    let one = none_of (faults x k at) (faults y u (at + size x) ++ faults_in_pairs xs k u (at + size x + size y)) e in
    let two = none_of (faults y u (at + size x)) (faults_in_pairs xs k u (at + size x + size y)) one.1 in
    joined (faults x k at) (faults y t (at + size x) ++ faults_in_pairs xs k t (at + size x + size y)) one.0
    (joined (faults y t (at + size x)) (faults_in_pairs xs k t (at + size x + size y)) (w y (at + size x) two.0) (pairs_clean k t u w xs (at + size x + size y) two.1))

-- the values of both are structs, so that their codes are one
map_meets : (a b : ℕ) (xs : Pairs) → meets (map_of (scalar i16_type) (layout_type Version2)) (map a b xs) ≡ true → meets (map_of (scalar i16_type) (layout_type Version1)) (map a b xs) ≡ true
map_meets a b no_pairs e = refl
map_meets a b (pair x y xs) e = e

layouts_weaker : Weaker (map_of (scalar i16_type) (layout_type Version1)) (map_of (scalar i16_type) (layout_type Version2))
layouts_weaker (map a b xs) at e =
    let k = scalar i16_type in
    let again = repeats (keys_in_pairs xs (suc at)) [] in
    let c = clean_below (map_of k (layout_type Version2)) (map a b xs) at (faults_in_pairs xs k (layout_type Version2) (suc at) ++ again) e in
    let parts = none_of (faults_in_pairs xs k (layout_type Version2) (suc at)) again c.1 in
    below_clean (map_of k (layout_type Version1)) (map a b xs) at (faults_in_pairs xs k (layout_type Version1) (suc at) ++ again) (map_meets a b xs c.0.met) refl
    (joined (faults_in_pairs xs k (layout_type Version1) (suc at)) again (pairs_clean k (layout_type Version1) (layout_type Version2) layout_weaker xs (suc at) parts.0) parts.1)
layouts_weaker (structure xs) at e = absurd cc
layouts_weaker (flag b) at e = absurd cc
layouts_weaker (i8 z) at e = absurd cc
layouts_weaker (i16 z) at e = absurd cc
layouts_weaker (i32 z) at e = absurd cc
layouts_weaker (i64 z) at e = absurd cc
layouts_weaker (double b) at e = absurd cc
layouts_weaker (binary b) at e = absurd cc
layouts_weaker (list c xs) at e = absurd cc
layouts_weaker (set c xs) at e = absurd cc

-- ---- a Schema

-- its fields in the two versions
abbrev first_fields : List DefField
first_fields = fields_of (schema_type Version1)

abbrev second_fields : List DefField
second_fields = fields_of (schema_type Version2)

schema_fields : WeakerFields (fields_of (schema_type Version1)) (fields_of (schema_type Version2))
schema_fields id = go (int_eq (pos 1) id) (int_eq (pos 2) id) (int_eq (pos 3) id) (int_eq (pos 4) id) refl refl refl refl
  where
    go : (a b c d : Bool) → int_eq (pos 1) id ≡ a → int_eq (pos 2) id ≡ b → int_eq (pos 3) id ≡ c → int_eq (pos 4) id ≡ d → (type_in first_fields id ≡ None) ⊎ Both first_fields second_fields id
    go true b c d ea eb ec ed = inr (record { one = scalar flag_type; two = scalar flag_type; first = rw ea refl; second = rw ea refl; weaker = same_weaker (scalar flag_type) })
    go false true c d ea eb ec ed = inr (record {
      one = map_of (scalar i16_type) (layout_type Version1);
      two = map_of (scalar i16_type) (layout_type Version2);
      first = rw (ea, eb) refl;
      second = rw (ea, eb) refl;
      weaker = layouts_weaker;
    })
    go false false true d ea eb ec ed = inr (record { one = scalar i16_type; two = scalar i16_type; first = rw (ea, eb, ec) refl; second = rw (ea, eb, ec) refl; weaker = same_weaker (scalar i16_type) })
    go false false false true ea eb ec ed = inr (record { one = scalar i32_type; two = scalar i32_type; first = rw (ea, eb, ec, ed) refl; second = rw (ea, eb, ec, ed) refl; weaker = same_weaker (scalar i32_type) })
    go false false false false ea eb ec ed = inl (rw (ea, eb, ec, ed) refl)

pub schema_weaker : Weaker (schema_type Version1) (schema_type Version2)
schema_weaker (structure xs) at e =
    let c = clean_below (schema_type Version2) (structure xs) at (faults_in_fields xs (fields_of (schema_type Version2)) [] (suc at)) e in
    below_clean (schema_type Version1) (structure xs) at (faults_in_fields xs (fields_of (schema_type Version1)) [] (suc at)) refl refl
    (fields_clean (fields_of (schema_type Version1)) (fields_of (schema_type Version2)) schema_fields xs [] (suc at) c.1)
schema_weaker (flag b) at e = absurd cc
schema_weaker (i8 z) at e = absurd cc
schema_weaker (i16 z) at e = absurd cc
schema_weaker (i32 z) at e = absurd cc
schema_weaker (i64 z) at e = absurd cc
schema_weaker (double b) at e = absurd cc
schema_weaker (binary b) at e = absurd cc
schema_weaker (list c xs) at e = absurd cc
schema_weaker (set c xs) at e = absurd cc
schema_weaker (map a b xs) at e = absurd cc

-- ---- the version

-- another field is not looked at
passed : (k id : ℤ) (o : Option TypeTree) (f : TypeTree → Value) (rs : List (ℤ × Value)) → int_eq id k ≡ false → under k (reading id o f rs) ≡ under k rs
passed k id None f rs e = refl
passed k id (Some t) f rs e = rw e refl

-- what stands under an id is one in both versions, where its field is
same_under : (k : ℤ) → ((x : Node) (rs ss : List (ℤ × Value)) → under k (reading k (type_in first_fields k) (meaning x) rs) ≡ under k (reading k (type_in second_fields k) (meaning x) ss))
    → (xs : Fields) → under k (readings xs (fields_of (schema_type Version1))) ≡ under k (readings xs (fields_of (schema_type Version2)))
same_under k here no_fields = refl
same_under k here (field id x xs) = go (int_eq id k) refl (same_under k here xs)
  where
    go : (b : Bool) → int_eq id k ≡ b → under k (readings xs first_fields) ≡ under k (readings xs second_fields)
        → under k (reading id (type_in first_fields id) (meaning x) (readings xs first_fields)) ≡ under k (reading id (type_in second_fields id) (meaning x) (readings xs second_fields))
    go true e later =
        subst (λ j. under k (reading j (type_in first_fields j) (meaning x) (readings xs first_fields)) ≡ under k (reading j (type_in second_fields j) (meaning x) (readings xs second_fields))) (sym (int_eq_same id k e))
        (here x (readings xs first_fields) (readings xs second_fields))
    go false e later = passed k id (type_in first_fields id) (meaning x) (readings xs first_fields) e ∙ later ∙ sym (passed k id (type_in second_fields id) (meaning x) (readings xs second_fields) e)

-- a tree has one version, read as a Schema of version 1 or 2
pub versions_agree : (w : Node) → version_in (meaning w (schema_type Version1)) ≡ version_in (meaning w (schema_type Version2))
versions_agree (structure xs) = ap (λ o. number_in (given Plain o (One (Number (pos 0))))) (same_under (pos 4) (λ x rs ss. refl) xs)
versions_agree (flag b) = refl
versions_agree (i8 z) = refl
versions_agree (i16 z) = refl
versions_agree (i32 z) = refl
versions_agree (i64 z) = refl
versions_agree (double b) = refl
versions_agree (binary b) = refl
versions_agree (list c xs) = refl
versions_agree (set c xs) = refl
versions_agree (map a b xs) = refl

-- and one relaxTypeChecks
pub relaxes_agree : (w : Node) → relaxes_in (meaning w (schema_type Version1)) ≡ relaxes_in (meaning w (schema_type Version2))
relaxes_agree (structure xs) = ap (λ o. flag_in (given Plain o (One (Truth false)))) (same_under (pos 1) (λ x rs ss. refl) xs)
relaxes_agree (flag b) = refl
relaxes_agree (i8 z) = refl
relaxes_agree (i16 z) = refl
relaxes_agree (i32 z) = refl
relaxes_agree (i64 z) = refl
relaxes_agree (double b) = refl
relaxes_agree (binary b) = refl
relaxes_agree (list c xs) = refl
relaxes_agree (set c xs) = refl
relaxes_agree (map a b xs) = refl
