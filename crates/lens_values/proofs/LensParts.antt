-- What a lens is known to be of, and the fields of a struct by their places.
use Rattle.std.proofs.Common.{◌≡◌, ℕ, zero, suc, ◌+◌, ◌<◌, List, length, get_or, slice_get, Some}
use Rattle.std.proofs.Common.{None, refl, sym, ap, ◌∙◌, subst, arith, eq-eqb, if◌then◌else◌, nat_abs, ◌⊎◌}
use Rattle.std.proofs.Common.{inl, inr}
use Rattle.std.specs.Coded.{Coded-set, coded_ℕ}
use Rattle.std.proofs.Props.{props}
use Rattle.idl_profile.specs.Types.{flag, i8, i16, i32, i64}
use Rattle.std.proofs.Math.Logic.{∥∥₁_elim}
use Rattle.std.proofs.lemmas.Option.{slice_get_within, get_or_from_slice_get}
use Rattle.idl_profile.specs.declared.kinds.Need.{Need}
use Rattle.idl_profile.specs.declared.kinds.Need.TheVariants.{Plain, Required, Optional}
use Rattle.idl_profile.specs.Types.{TypeTree, scalar, text, bytes, list_of, set_of, map_of, named, enum_of}
use Rattle.idl_profile.specs.Types.{struct_of}
use Rattle.idl_profile.specs.Types.{Fields, no_fields, field, DefField, field_list}
use Rattle.idl_profile.specs.Types.{fields_of, kind_of}
use Rattle.idl_profile.specs.declared.kinds.TypeKind.TheVariants as k
use Rattle.idl_parse.specs.Refs.{element_of, key_of, value_of}
use Rattle.frozen_model.specs.Trees as tree
use Rattle.frozen_model.specs.Trees.{Rising, AList, ASet}
use Rattle.frozen_model.specs.Values as is
use Rattle.frozen_model.specs.Values.{Value, Values, And, Of, one, absent, present, record_of}
use Rattle.frozen_model.specs.Values.{NoValue, OfAll, no_part, part, count, nth, cells, inline_cells}
use Rattle.type_kinds.specs.KindsOf.{kinds_of, kinds_of_fields}
use Rattle.type_kinds.specs.Defaults.{ids_of_fields}
use Rattle.root_kinds.proofs.Numbered.{HaveIds}
use Rattle.typed_tree.specs.Parts.{IsList, IsSet, IsRow, IsMap, find_field, field_of, fields_of as values_in}
use Rattle.typed_tree.specs.Parts.{ids_of as ids_in}
use Rattle.typed_tree.specs.Fields.{id_number}
use Rattle.typed_tree.specs.Sizes.{field_kinds}
use Rattle.typed_tree.proofs.Typed.{size}
use Rattle.typed_tree.proofs.Celled.{row-value, map-value}
use Rattle.evolve.specs.declared.lens.Lens.{Lens}
use Rattle.evolve.specs.Parts.{held}
use Rattle.evolve.specs.Lenses.{type_of_lens, value_of_lens, HasForm}
use Rattle.evolve.proofs.Known.{lens_value, lens_form}
use Rattle.evolve.proofs.Itself.{apart}
use Rattle.evolve.proofs.Projected.{ids_are}
use Rattle.evolve.proofs.Members.{id_same, struct_id, field_in_type, contains_at, struct_fields, IsStructType}

-- what two numbers are to each other may be shown from what the lens is of
pub by_value : {x y : ℕ} (l : Lens) → (Of (kinds_of (type_of_lens l)) (value_of_lens l) → x ≡ y) → x ≡ y
by_value {x} {y} l f = ∥∥₁_elim (lens_value l) (Coded-set coded_ℕ x y) f

-- ---- forms

list_is : (v : Value) → IsList v → IsRow v
list_is (is.Items AList vs) h = tt
list_is v h = absurd h

set_is : (v : Value) → IsSet v → IsRow v
set_is (is.Items ASet vs) h = tt
set_is v h = absurd h

pub lens_row : (l : Lens) → (kind_of (type_of_lens l) ≡ k.List) ⊎ (kind_of (type_of_lens l) ≡ k.Set)
    → IsRow (value_of_lens l)
lens_row l (inl e) = list_is (value_of_lens l) (subst (λ x. HasForm x (value_of_lens l)) e (lens_form l))
lens_row l (inr e) = set_is (value_of_lens l) (subst (λ x. HasForm x (value_of_lens l)) e (lens_form l))

pub lens_map : (l : Lens) → kind_of (type_of_lens l) ≡ k.Map → IsMap (value_of_lens l)
lens_map l e = subst (λ x. HasForm x (value_of_lens l)) e (lens_form l)

-- the items of a list or a set are of a smaller type
pub row_size : (l : Lens) → (kind_of (type_of_lens l) ≡ k.List) ⊎ (kind_of (type_of_lens l) ≡ k.Set)
    → suc (size (element_of (type_of_lens l))) ≡ size (type_of_lens l)
row_size l e = by_value l (λ o. (row-value (type_of_lens l) (value_of_lens l) e o).smaller)

-- the key and the value of a map are of smaller types
pub map_size : (l : Lens) → kind_of (type_of_lens l) ≡ k.Map
    → suc (size (key_of (type_of_lens l)) + size (value_of (type_of_lens l))) ≡ size (type_of_lens l)
map_size l e = by_value l (λ o. (map-value (type_of_lens l) (value_of_lens l) e o).smaller)

-- ---- the field at a place is found by its id

found_at : (fs : Fields) (vs : Values) (b i : ℕ) (d : DefField) → count vs ≡ length (field_list fs)
    → Rising b (ids_of_fields fs) → i < length (field_list fs)
    → let z = nat_abs (get_or (field_list fs) i d).id in
    (b < z) × (find_field (ids_of_fields fs) vs z ≡ Some (nth vs i))
found_at no_fields vs b i d n r lt = absurd (omega (arith, lt))
found_at (field j w a t e fs) NoValue b i d n r lt = absurd (omega (arith, n))
found_at (field j w a t e fs) (And v vs) b zero d n r lt = (
  r.0,
  ap (λ c. if c then Some v else find_field (ids_of_fields fs) vs (nat_abs j))
      (eq-eqb (nat_abs j) (nat_abs j) refl),
)
found_at (field j w a t e fs) (And v vs) b (suc i) d n r lt =
    let z = nat_abs (get_or (field_list fs) i d).id in
    let rest = found_at fs vs (nat_abs j) i d (omega (arith, n)) r.2 (omega (arith, lt)) in (
      omega (arith, r.0, rest.0),
      ap (λ c. if c then Some v else find_field (ids_of_fields fs) vs z) (apart (nat_abs j) z rest.0)
          ∙ rest.1,
    )

-- a value of a struct's type has the ids of its fields, and as many values
pub record HasIds (t : TypeTree) (v : Value) : Type 0 where
  pub ids : ids_in v ≡ ids_of_fields (struct_fields t)
  pub many : count (values_in v) ≡ length (fields_of t)

many_fields : (fs : Fields) (vs : Values) → OfAll (kinds_of_fields fs) vs → count vs ≡ length (field_list fs)
many_fields no_fields _ no_part = refl
many_fields (field j w Optional t d fs) _ (part h hs) = omega (arith, many_fields fs _ hs)
many_fields (field j w Plain t d fs) _ (part h hs) = omega (arith, many_fields fs _ hs)
many_fields (field j w Required t d fs) _ (part h hs) = omega (arith, many_fields fs _ hs)

struct_ids : (t : TypeTree) (v : Value) → IsStructType t → Of (kinds_of t) v → HasIds t v
struct_ids (named (struct_of w fs)) _ s (record_of {vs = vs} e hs) =
    record { ids = e ∙ ids_are fs; many = many_fields fs vs hs }
struct_ids t v s o = absurd s

pub struct_type : (t : TypeTree) → kind_of t ≡ k.Struct → IsStructType t
struct_type (named (struct_of w fs)) e = tt
struct_type (named (enum_of w ms)) e = absurd (cc)
struct_type (scalar flag) e = absurd (cc)
struct_type (scalar i8) e = absurd (cc)
struct_type (scalar i16) e = absurd (cc)
struct_type (scalar i32) e = absurd (cc)
struct_type (scalar i64) e = absurd (cc)
struct_type text e = absurd (cc)
struct_type bytes e = absurd (cc)
struct_type (list_of x) e = absurd (cc)
struct_type (set_of x) e = absurd (cc)
struct_type (map_of x y) e = absurd (cc)

pub numbers_prop : (xs ys : List ℕ) → IsProp (xs ≡ ys)
numbers_prop xs ys = hlevel props

pub lens_struct : (l : Lens) → kind_of (type_of_lens l) ≡ k.Struct → HasIds (type_of_lens l) (value_of_lens l)
lens_struct l e =
    let t = type_of_lens l in
    let v = value_of_lens l in
    let s = struct_type t e in record {
      ids = ∥∥₁_elim (lens_value l) (numbers_prop _ _) (λ o. (struct_ids t v s o).ids);
      many = by_value l (λ o. (struct_ids t v s o).many);
    }

pub struct_at : (t : TypeTree) (v : Value) (i : ℕ) (f : DefField) → HasIds t v
    → Rising 0 (ids_of_fields (struct_fields t)) → HaveIds t → slice_get (fields_of t) i ≡ Some f
    → field_of v f.id ≡ Some (nth (values_in v) i)
struct_at (named (struct_of w fs)) v i f h r fit at =
    let t = named (struct_of w fs) in
    let vs = values_in v in
    let lt = slice_get_within (field_list fs) i f at in
    let here = get_or_from_slice_get (field_list fs) i f f at in
    let fits = struct_id t f (field_in_type t f (contains_at (field_list fs) i f at)) fit in
    let found = (found_at fs vs 0 i f h.many r lt).1 in
    ap (λ is. find_field is vs (id_number f.id)) h.ids
    ∙ ap (find_field (ids_of_fields fs) vs) (id_same f.id fits)
    ∙ subst (λ (g : DefField). find_field (ids_of_fields fs) vs (nat_abs g.id) ≡ Some (nth vs i)) here found
struct_at t v i f h r fit at = absurd (omega (arith, slice_get_within (fields_of t) i f at))

-- ---- what a field has

pub plain_held : (t : TypeTree) (v : Value) → Of (kinds_of t) v → held v ≡ Some v
plain_held (scalar s) _ (one o) = refl
plain_held text _ (is.bytes a b c) = refl
plain_held bytes _ (is.bytes a b c) = refl
plain_held (list_of x) _ (is.items a b c) = refl
plain_held (set_of x) _ (is.items a b c) = refl
plain_held (map_of x y) _ (is.items a b c) = refl
plain_held (named (enum_of w ms)) _ (one o) = refl
plain_held (named (struct_of w fs)) _ (record_of e hs) = refl

needed_cells : (t : TypeTree) (u w : Value) → Of (kinds_of t) u → held u ≡ Some w
    → cells (kinds_of t) u ≡ cells (kinds_of t) w
needed_cells t u w o e =
    let is = sym (plain_held t u o) ∙ e in
    let same : u ≡ w = cc in
    ap (cells (kinds_of t)) same

pub there_plain : (n : Need) (t : TypeTree) (u w : Value) → n ≡ Plain → Of (field_kinds n t) u
    → held u ≡ Some w
    → cells (field_kinds n t) u ≡ cells (kinds_of t) w
there_plain Plain t u w is o e = needed_cells t u w o e
there_plain Required t u w is o e = absurd (cc)
there_plain Optional t u w is o e = absurd (cc)

pub there_required : (n : Need) (t : TypeTree) (u w : Value) → n ≡ Required → Of (field_kinds n t) u
    → held u ≡ Some w → cells (field_kinds n t) u ≡ cells (kinds_of t) w
there_required Required t u w is o e = needed_cells t u w o e
there_required Plain t u w is o e = absurd (cc)
there_required Optional t u w is o e = absurd (cc)

there_optional : (t : TypeTree) (u w : Value) → Of (tree.Optional tt (kinds_of t)) u → held u ≡ Some w
    → cells (tree.Optional tt (kinds_of t)) u ≡ 1 + cells (kinds_of t) w
there_optional t _ w absent e = absurd (cc)
there_optional t _ w (present {v = v} h) e = let same : v ≡ w = cc in ap (λ x. 1 + cells (kinds_of t) x) same

pub there_maybe : (n : Need) (t : TypeTree) (u w : Value) → n ≡ Optional → Of (field_kinds n t) u
    → held u ≡ Some w
    → cells (field_kinds n t) u ≡ 1 + cells (kinds_of t) w
there_maybe Optional t u w is o e = there_optional t u w o e
there_maybe Plain t u w is o e = absurd (cc)
there_maybe Required t u w is o e = absurd (cc)

lacking_needed : (t : TypeTree) (u : Value) → Of (kinds_of t) u → None ≡ held u → ⊥
lacking_needed t u o e = let is = e ∙ plain_held t u o in cc

lacking_optional : (t : TypeTree) (u : Value) → Of (tree.Optional tt (kinds_of t)) u → None ≡ held u
    → cells (tree.Optional tt (kinds_of t)) u ≡ 1 + inline_cells (kinds_of t)
lacking_optional t _ absent e = refl
lacking_optional t _ (present h) e = absurd (cc)

pub lacking_cells : (n : Need) (t : TypeTree) (u : Value) → Of (field_kinds n t) u → None ≡ held u
    → cells (field_kinds n t) u ≡ 1 + inline_cells (kinds_of t)
lacking_cells Optional t u o e = lacking_optional t u o e
lacking_cells Plain t u o e = absurd (lacking_needed t u o e)
lacking_cells Required t u o e = absurd (lacking_needed t u o e)
