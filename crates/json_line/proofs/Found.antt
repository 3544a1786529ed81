-- The field of a struct at a place among its type's fields, found by its id.
use Rattle.std.proofs.Common.{◌≡◌, ◌∙◌, ◌<◌, ◌≤◌, ℕ, zero, suc, List, [], ◌∷◌, nat_abs, refl, sym, ap}
use Rattle.std.proofs.Common.{Some, true, arith, eq-eqb, if◌then◌else◌, subst}
use Rattle.std.specs.List.{slice_get}
use Rattle.std.proofs.Math.Nat.{ℕ_set}
use mathlib.Core.List.{is_set}
use Rattle.std.proofs.lemmas.Option.{slice_get_within, get_or_from_slice_get}
use Rattle.idl_profile.specs.declared.kinds.Need.{Need}
use Rattle.idl_profile.specs.declared.kinds.Need.TheVariants.{Plain, Required, Optional}
use Rattle.idl_profile.specs.declared.kinds.TypeKind.TheVariants as kinds
use Rattle.idl_profile.specs.Types.{TypeTree, flag, i8, i16, i32, i64, Fields, no_fields, field, DefField}
use Rattle.idl_profile.specs.Types.{field_list, fields_of, kind_of}
use Rattle.idl_profile.specs.Types.{scalar, text, bytes, list_of, set_of, map_of, named, enum_of, struct_of}
use Rattle.idl_profile.proofs.Ids.{id_fits}
use Rattle.frozen_model.specs.Trees.{Rising}
use Rattle.frozen_model.specs.Values as is
use Rattle.frozen_model.specs.Values.{Value, Values, NoValue, And, Record, Absent, Present, One, Bytes, Items}
use Rattle.frozen_model.specs.Values.{count, nth, Of}
use Rattle.type_kinds.specs.KindsOf.{kinds_of}
use Rattle.type_kinds.specs.Defaults.{ids_of_fields}
use Rattle.typed_tree.specs.Parts.{find_field, field_of, fields_of as values_in}
use Rattle.typed_tree.specs.Sizes.{field_kinds}
use Rattle.typed_tree.proofs.Celled.{all_fields, struct-value, field-count}
use Rattle.evolve.specs.Parts.{held}
use Rattle.evolve.proofs.Itself.{apart}
use Rattle.evolve.proofs.Projected.{ids_are}
use Rattle.evolve.proofs.Members.{def_field, struct_fields, id_same}
use Rattle.evolve.proofs.Tags.{tag, held_plain}
use Rattle.serde_json.specs.Data.{Data, Members}
use Rattle.json_line.specs.Json.{with_field, with_held}

-- two texts are equal in at most one way
pub texts_set : IsSet (List ℕ)
texts_set = hlevel (ℕ_set, is_set)

-- the value at the place of a field is found by the field's id, since ids rise
found_at : (fs : Fields) (vs : Values) (b i : ℕ) (f : DefField) → Rising b (ids_of_fields fs)
    → i < count vs → slice_get (field_list fs) i ≡ Some f
    → (b < nat_abs f.id) × (find_field (ids_of_fields fs) vs (nat_abs f.id) ≡ Some (nth vs i))
found_at no_fields vs b i f r lt e = absurd (omega (arith, slice_get_within [] i f e))
found_at (field id w n t d fs) NoValue b i f r lt e = absurd (omega (arith, lt))
found_at (field id w n t d fs) (And v vs) b zero f r lt e =
    let same : def_field id w n t d ≡ f = get_or_from_slice_get (def_field id w n t d
    ∷ field_list fs) 0 f f e in
    let number : nat_abs id ≡ nat_abs f.id = ap (λ (g : DefField). nat_abs g.id) same in (
      subst (λ k. b < k) number r.0,
      ap (λ c. if c then Some v else find_field (ids_of_fields fs) vs (nat_abs f.id))
          (eq-eqb (nat_abs id) (nat_abs f.id) number),
    )
found_at (field id w n t d fs) (And v vs) b (suc i) f r lt e =
    let rest = found_at fs vs (nat_abs id) i f r.2 (omega (arith, lt)) e in
    let other = apart (nat_abs id) (nat_abs f.id) rest.0 in (
      omega (arith, r.0, rest.0),
      ap (λ c. if c then Some v else find_field (ids_of_fields fs) vs (nat_abs f.id)) other ∙ rest.1,
    )

-- the same in a value of a struct's type
pub field_found : (t : TypeTree) (v : Value) (i : ℕ) (f : DefField) → kind_of t ≡ kinds.Struct
    → Of (kinds_of t) v
    → Rising 0 (ids_of_fields (struct_fields t)) → id_fits f.id ≡ true → slice_get (fields_of t) i ≡ Some f
    → field_of v f.id ≡ Some (nth (values_in v) i)
field_found (named (struct_of w fs)) _ i f k (is.record_of {ids = ids} {vs = vs} e hs) r fits at =
    let all = struct-value (named (struct_of w fs)) (Record ids vs) refl (is.record_of e hs) in
    let inside : i < count vs = omega (
      arith,
      slice_get_within (field_list fs) i f at,
      field-count (named (struct_of w fs)) (Record ids vs) all,
    ) in
    let same : ids ≡ ids_of_fields fs = e ∙ ids_are fs in
    ap (find_field ids vs) (id_same f.id fits) ∙ ap (λ js. find_field js vs (nat_abs f.id)) same
    ∙ (found_at fs vs 0 i f r inside at).1
field_found (scalar flag) v i f k o r fits at = absurd cc
field_found (scalar i8) v i f k o r fits at = absurd cc
field_found (scalar i16) v i f k o r fits at = absurd cc
field_found (scalar i32) v i f k o r fits at = absurd cc
field_found (scalar i64) v i f k o r fits at = absurd cc
field_found text v i f k o r fits at = absurd cc
field_found bytes v i f k o r fits at = absurd cc
field_found (list_of x) v i f k o r fits at = absurd cc
field_found (set_of x) v i f k o r fits at = absurd cc
field_found (map_of x y) v i f k o r fits at = absurd cc
field_found (named (enum_of w ms)) v i f k o r fits at = absurd cc

-- the fields of a struct's type, one after the other
pub fields_listed : (t : TypeTree) → kind_of t ≡ kinds.Struct → fields_of t ≡ field_list (all_fields t)
fields_listed (named (struct_of w fs)) k = refl
fields_listed (scalar flag) k = absurd cc
fields_listed (scalar i8) k = absurd cc
fields_listed (scalar i16) k = absurd cc
fields_listed (scalar i32) k = absurd cc
fields_listed (scalar i64) k = absurd cc
fields_listed text k = absurd cc
fields_listed bytes k = absurd cc
fields_listed (list_of x) k = absurd cc
fields_listed (set_of x) k = absurd cc
fields_listed (map_of x y) k = absurd cc
fields_listed (named (enum_of w ms)) k = absurd cc

-- a value of a type is no optional
value_plain : (t : TypeTree) (v : Value) → Of (kinds_of t) v → tag v ≤ 3
value_plain (scalar s) _ (is.one h) = omega arith
value_plain text _ (is.bytes n b u) = omega arith
value_plain bytes _ (is.bytes n b u) = omega arith
value_plain (list_of x) _ (is.items o r hs) = omega arith
value_plain (set_of x) _ (is.items o r hs) = omega arith
value_plain (map_of x y) _ (is.items o r hs) = omega arith
value_plain (named (enum_of w ms)) _ (is.one h) = omega arith
value_plain (named (struct_of w fs)) _ (is.record_of e hs) = omega arith

-- what is written of a field is what is written of what it has
pub shown_as_held : (n : Need) (t : TypeTree) (name : List ℕ) (g : Value → Data) (v : Value) (ms : Members)
    → Of (field_kinds n t) v → with_field n name g v ms ≡ with_held name g (held v) ms
shown_as_held Plain t name g v ms o =
    ap (λ x. with_held name g x ms) (sym (held_plain v (value_plain t v o)))
shown_as_held Required t name g v ms o =
    ap (λ x. with_held name g x ms) (sym (held_plain v (value_plain t v o)))
shown_as_held Optional t name g _ ms is.absent = refl
shown_as_held Optional t name g _ ms (is.present h) = refl
