-- The fields of a struct put one after the other, and joined.
use Rattle.std.proofs.Common.{◌≡◌, ℕ, ◌+◌, ◌≤◌, ◌<◌, true, Option, List, [], ◌∷◌, ◌++◌, length, take, map}
use Rattle.std.proofs.Common.{slice_get, Some, refl, sym, ap, ◌∙◌, subst, arith, nat_abs}
use Rattle.std.specs.Prelude.{option_and_then}
use Rattle.std.specs.List.{AllByRecursion}
use Rattle.std.proofs.Math.Logic.{∥∥₁_elim, ∥∥₁_map}
use Rattle.std.proofs.Math.Bridge.{le_prop}
use Rattle.std.proofs.lemmas.List.{length-map, get_or-map, take_more}
use Rattle.std.proofs.lemmas.Option.{slice_get_within, get_or_from_slice_get}
use Rattle.idl_profile.specs.declared.kinds.Need.{Need}
use Rattle.idl_profile.specs.declared.kinds.Need.TheVariants.{Plain, Required, Optional}
use Rattle.idl_profile.specs.declared.kinds.TypeKind.TheVariants as k
use Rattle.idl_profile.specs.Types.{TypeTree, scalar, text, bytes, list_of, set_of, map_of, named, enum_of}
use Rattle.idl_profile.specs.Types.{struct_of}
use Rattle.idl_profile.specs.Types.{Fields, no_fields, field, DefField, field_list, fields_of, kind_of}
use Rattle.idl_profile.proofs.Ids.{id_fits}
use Rattle.frozen_model.specs.Trees as tree
use Rattle.frozen_model.specs.Trees.{Rising}
use Rattle.frozen_model.specs.Values as is
use Rattle.frozen_model.specs.Values.{Value, Absent, Present, Of, one, absent, present, count, nth}
use Rattle.frozen_model.specs.Values.{record_of as recorded}
use Rattle.type_kinds.specs.KindsOf.{kinds_of}
use Rattle.type_kinds.specs.Defaults.{ids_of_fields}
use Rattle.root_kinds.proofs.Numbered.{HaveIds}
use Rattle.typed_tree.specs.Fields.{id_numbers}
use Rattle.typed_tree.specs.Parts.{IsRecord, fields_of as values_in, ids_of as ids_in}
use Rattle.typed_tree.specs.Sizes.{field_kinds}
use Rattle.typed_tree.specs.Parts.{field_of}
use Rattle.typed_tree.proofs.Celled.{struct-value, field-value}
use Rattle.file_value.proofs.Records.{StructFields, fields_of_struct}
use Rattle.evolve.specs.declared.lens.Lens.{Lens}
use Rattle.evolve.specs.Parts.{held}
use Rattle.evolve.specs.Lenses.{type_of_lens, value_of_lens, HasForm}
use Rattle.evolve.proofs.Known.{lens_value, lens_form, lens_ids, lens_accepted}
use Rattle.evolve.proofs.Tags.{tag, held_plain}
use Rattle.evolve.proofs.Members.{id_same, IsStructType, rising_ids}
use Rattle.lens_values.specs.Putting.{field_from}
use Rattle.lens_values.proofs.LensParts.{HasIds, lens_struct, struct_at, struct_type}

-- ---- what a field has

optional_tag : (t : TypeTree) (u : Value) → Of (tree.Optional tt (kinds_of t)) u → 4 ≤ tag u
optional_tag t _ absent = omega arith
optional_tag t _ (present h) = omega arith

plain_tag : (t : TypeTree) (u : Value) → Of (kinds_of t) u → tag u ≤ 3
plain_tag (scalar s) _ (one o) = omega arith
plain_tag text _ (is.bytes a b c) = omega arith
plain_tag bytes _ (is.bytes a b c) = omega arith
plain_tag (list_of x) _ (is.items a b c) = omega arith
plain_tag (set_of x) _ (is.items a b c) = omega arith
plain_tag (map_of x y) _ (is.items a b c) = omega arith
plain_tag (named (enum_of w ms)) _ (one o) = omega arith
plain_tag (named (struct_of w fs)) _ (recorded e hs) = omega arith

option_back : (u : Value) → 4 ≤ tag u → field_from Optional (held u) ≡ u
option_back Absent h = refl
option_back (Present v) h = refl
option_back u h = absurd (omega (arith, h))

field_back : (n : Need) (t : TypeTree) (u : Value) → ∥ Of (field_kinds n t) u ∥₁ → field_from n (held u) ≡ u
field_back Optional t u o = option_back u (∥∥₁_elim o le_prop (λ h. optional_tag t u h))
field_back Plain t u o = ap (field_from Plain) (held_plain u (∥∥₁_elim o le_prop (λ h. plain_tag t u h)))
field_back Required t u o =
    ap (field_from Required) (held_plain u (∥∥₁_elim o le_prop (λ h. plain_tag t u h)))

-- what is put for a field is what the struct has there
pub part_is : (l : Lens) (i : ℕ) (f : DefField) (x : Option Value) → kind_of (type_of_lens l) ≡ k.Struct
    → slice_get (fields_of (type_of_lens l)) i ≡ Some f
    → x ≡ option_and_then held (field_of (value_of_lens l) f.id)
    → field_from f.need x ≡ nth (values_in (value_of_lens l)) i
part_is l i f x e at is =
    let t = type_of_lens l in
    let v = value_of_lens l in
    let found = struct_at t v i f (lens_struct l e) (rising_ids t (lens_accepted l)) (lens_ids l) at in
    let o = ∥∥₁_map (lens_value l) (λ h. field-value t v i f (struct-value t v e h) at) in
    ap (field_from f.need) (is ∙ ap (option_and_then held) found)
    ∙ field_back f.need f.type (nth (values_in v) i) o

-- ---- ids

pub next_id : (fs : List DefField) (i : ℕ) (f : DefField) → slice_get fs i ≡ Some f
    → take (i + 1) (map (λ (g : DefField). g.id) fs) ≡ take i (map (λ (g : DefField). g.id) fs) ++ f.id ∷ []
next_id fs i f at =
    let lt = slice_get_within fs i f at in
    let ids = map (λ (g : DefField). g.id) fs in
    let inside : i < length ids = omega (arith, lt, length-map fs (λ (g : DefField). g.id)) in
    let here = get_or-map (λ (g : DefField). g.id) fs i f f.id lt in
    take_more ids i f.id inside
    ∙ ap (λ x. take i ids ++ x ∷ []) (here ∙ ap (λ (g : DefField). g.id) (get_or_from_slice_get fs i f f at))

numbers_are : (fs : Fields) → AllByRecursion (λ (f : DefField). id_fits f.id ≡ true) (field_list fs)
    → id_numbers (map (λ (g : DefField). g.id) (field_list fs)) ≡ ids_of_fields fs
numbers_are no_fields h = refl
numbers_are (field i w n t d fs) h =
    ap (λ x. x ∷ id_numbers (map (λ (g : DefField). g.id) (field_list fs))) (id_same i h.0)
    ∙ ap (λ xs. nat_abs i ∷ xs) (numbers_are fs h.1)

as_many_ids : (fs : Fields) → length (ids_of_fields fs) ≡ length (field_list fs)
as_many_ids no_fields = refl
as_many_ids (field i w n t d fs) = omega (arith, as_many_ids fs)

-- ---- the struct

ids_by_type : (t : TypeTree) (v : Value) → IsStructType t → HasIds t v → HaveIds t
    → id_numbers (map (λ (g : DefField). g.id) (fields_of t)) ≡ ids_in v
ids_by_type (named (struct_of w fs)) v s h fit = numbers_are fs fit ∙ sym h.ids
ids_by_type t v s h fit = absurd s

many_by_type : (t : TypeTree) (v : Value) → IsStructType t → HasIds t v
    → length (ids_in v) ≡ count (values_in v)
many_by_type (named (struct_of w fs)) v s h = omega (arith, ap length h.ids, as_many_ids fs, h.many)
many_by_type t v s h = absurd s

-- the fields of a struct have ids that differ, and by their ids they are the struct
pub struct_parts : (l : Lens) → kind_of (type_of_lens l) ≡ k.Struct
    → StructFields (map (λ (g : DefField). g.id) (fields_of (type_of_lens l))) (value_of_lens l)
struct_parts l e =
    let t = type_of_lens l in
    let v = value_of_lens l in
    let s = struct_type t e in
    let h = lens_struct l e in
    let formed : IsRecord v = subst (λ x. HasForm x v) e (lens_form l) in
    let rise = subst (Rising 0) (sym h.ids) (rising_ids t (lens_accepted l)) in
    fields_of_struct (map (λ (g : DefField). g.id) (fields_of t)) v formed rise (many_by_type t v s h)
    (ids_by_type t v s h (lens_ids l))
