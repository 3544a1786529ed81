-- The fields of the part of a lens.
use Rattle.std.proofs.Common.{◌≡◌, ◌≢◌, refl, ap, sym, subst, ◌∙◌, arith, Bool, true, false, ℤ, pos, negsuc}
use Rattle.std.proofs.Common.{nat_abs, nat_eq, cond, List, [], ◌∷◌, Option, Some, None, w16, if◌then◌else◌}
use Rattle.std.specs.Prelude.{IfSome, FitsSigned, option_map, find}
use Rattle.std.specs.List.{AllByRecursion}
use Rattle.std.specs.Ordering.{int_eq}
use Rattle.std.specs.Str.{IsUtf8}
use Rattle.std.proofs.Math.Logic.{∥∥₁_elim, ∥∥₁_map, ∥∥₁_prop}
use Rattle.std.proofs.lemmas.Bool.{ne_eqb}
use Rattle.std.proofs.lemmas.Bool.Decides.{nat_tests, Decides-int_eq}
use Rattle.std.proofs.lemmas.Int.{ints}
use Rattle.idl_profile.specs.declared.kinds.Need.TheVariants.{Optional}
use Rattle.idl_profile.specs.declared.kinds.TypeKind.TheVariants as k
use Rattle.idl_profile.specs.Types.{TypeTree, scalar, text, bytes, list_of, set_of, map_of, named, enum_of}
use Rattle.idl_profile.specs.Types.{struct_of, flag, i8, i16, i32, i64, Fields, no_fields, field, DefField}
use Rattle.idl_profile.specs.Types.{field_list, fields_of, kind_of}
use Rattle.idl_profile.proofs.Ids.{id_fits}
use Rattle.idl_parse.specs.Refs.{type_of_ref, field_of_ref}
use Rattle.frozen_model.specs.Values.{Value, Values, NoValue, And, Record, Of}
use Rattle.frozen_model.specs.Layouts.{Layout}
use Rattle.type_kinds.specs.KindsOf.{kinds_of}
use Rattle.type_kinds.specs.Defaults.{ids_of_fields}
use Rattle.type_kinds.specs.Accepted.{IsAccepted, HasShortTexts}
use Rattle.typed_tree.specs.Fields.{id_number}
use Rattle.typed_tree.specs.Parts.{IsRecord, find_field, field_of}
use Rattle.typed_tree.specs.Sizes.{default_value}
use Rattle.bit_view.specs.declared.view.View.{View}
use Rattle.bit_view.specs.Branches.{fields_in, field_tree}
use Rattle.bit_view.specs.Views.{value_of_view, layout_of_view, is_relaxed}
use Rattle.evolve.specs.declared.lens.Stored.{Stored}
use Rattle.evolve.specs.declared.lens.Lacked.{Lacked}
use Rattle.evolve.specs.declared.lens.Lens.{Lens}
use Rattle.evolve.specs.declared.lens.Lens.TheVariants as lens
use Rattle.evolve.specs.Binding.{BindsField, Binds}
use Rattle.evolve.specs.Projection.{found_or, proj, proj_fields}
use Rattle.evolve.specs.Lenses.{type_of_lens, value_of_lens, HasForm}
use Rattle.evolve.proofs.Tags.{proj_tag, flag_tag, int_tag, bytes_tag, text_tag, record_tag, tag_record}
use Rattle.evolve.proofs.Members.{FieldOf, IsStructType, rising_ids, part_found, lacked_struct}
use Rattle.evolve.proofs.Members.{struct_accepted, struct_short, struct_id, field_default, struct_binds}
use Rattle.evolve.proofs.Members.{id_same}
use Rattle.evolve.proofs.Known.{lens_accepted, lens_short, lens_form, lens_ids}

-- ---- structs

list_tag : (v : Value) → HasForm k.List v → IsRecord v → ⊥
list_tag (Record ids vs) f r = f
list_tag v f r = r

set_tag : (v : Value) → HasForm k.Set v → IsRecord v → ⊥
set_tag (Record ids vs) f r = f
set_tag v f r = r

pairs_tag : (v : Value) → HasForm k.Map v → IsRecord v → ⊥
pairs_tag (Record ids vs) f r = f
pairs_tag v f r = r

-- a struct is of a struct's type
pub struct_type : (t : TypeTree) (v : Value) → HasForm (kind_of t) v → IsRecord v → IsStructType t
struct_type (named (struct_of w fs)) v f r = tt
struct_type (scalar flag) v f r = absurd (omega (arith, flag_tag v f, record_tag v r))
struct_type (scalar i8) v f r = absurd (omega (arith, int_tag v f, record_tag v r))
struct_type (scalar i16) v f r = absurd (omega (arith, int_tag v f, record_tag v r))
struct_type (scalar i32) v f r = absurd (omega (arith, int_tag v f, record_tag v r))
struct_type (scalar i64) v f r = absurd (omega (arith, int_tag v f, record_tag v r))
struct_type text v f r = absurd (omega (arith, text_tag v f, record_tag v r))
struct_type bytes v f r = absurd (omega (arith, bytes_tag v f, record_tag v r))
struct_type (list_of x) v f r = absurd (list_tag v f r)
struct_type (set_of x) v f r = absurd (set_tag v f r)
struct_type (map_of x y) v f r = absurd (pairs_tag v f r)
struct_type (named (enum_of w ms)) v f r = absurd (omega (arith, int_tag v f, record_tag v r))

pub struct_kind : (t : TypeTree) → IsStructType t → kind_of t ≡ k.Struct
struct_kind (named (struct_of w fs)) h = refl
struct_kind t h = absurd h

struct_form : (t : TypeTree) (v : Value) → IsStructType t → HasForm (kind_of t) v → IsRecord v
struct_form (named (struct_of w fs)) v h f = f
struct_form t v h f = absurd h

pub lens_record : (l : Lens) → IsStructType (type_of_lens l) → IsRecord (value_of_lens l)
lens_record l h = struct_form (type_of_lens l) (value_of_lens l) h (lens_form l)

-- the struct that the file has
pub stored_record : (l : Lens) (s : Stored) → l ≡ lens.Stored s → IsStructType (type_of_lens l)
    → IsRecord (value_of_view s.view)
stored_record l s e h =
    let r : IsRecord (value_of_lens (lens.Stored s)) = subst IsRecord (ap value_of_lens e)
    (lens_record l h) in
    tag_record (value_of_view s.view)
    (omega (
      arith,
      proj_tag (type_of_ref s.ty) (value_of_view s.view),
      record_tag
          (value_of_lens (lens.Stored s)) r,
    ))

-- what the struct is a projection of: what the file has, or of a default a struct without fields
pub record Under (l : Lens) : Type 0 where
  pub value : Value
  pub struct : IsRecord value
  pub is : value_of_lens l ≡ proj (type_of_lens l) value

pub under : (l : Lens) → IsStructType (type_of_lens l) → Under l
under (lens.Stored s) h =
    record { value = value_of_view s.view; struct = stored_record (lens.Stored s) s refl h; is = refl }
under (lens.Default d) h = record {
  value = Record [] NoValue;
  struct = tt;
  is = lacked_struct (field_of_ref d.field) d.needed h (lens_record (lens.Default d) h);
}

-- ---- a field of the type

pub part_accepted : (l : Lens) (f : DefField) → FieldOf (type_of_lens l) f → ∥ IsAccepted IsUtf8 f.type ∥₁
part_accepted l f h = ∥∥₁_map (lens_accepted l) (λ a. struct_accepted IsUtf8 (type_of_lens l) f h a)

pub part_short : (l : Lens) (f : DefField) → FieldOf (type_of_lens l) f → ∥ HasShortTexts f.type ∥₁
part_short l f h = ∥∥₁_map (lens_short l) (λ s. struct_short (type_of_lens l) f h s)

pub part_default : (l : Lens) (f : DefField) → FieldOf (type_of_lens l) f → f.need ≢ Optional
    → ∥ Of (kinds_of f.type) (default_value f) ∥₁
part_default l f h ne =
    ∥∥₁_elim (lens_accepted l) ∥∥₁_prop (λ a. ∥∥₁_map (lens_short l) (λ s.
    field_default (type_of_lens l) f h a s ne))

pub part_id : (l : Lens) (f : DefField) → FieldOf (type_of_lens l) f → id_fits f.id ≡ true
part_id l f h = struct_id (type_of_lens l) f h (lens_ids l)

pub part_binds : (s : Stored) (f : DefField) (w : View) → FieldOf (type_of_ref s.ty) f
    → is_relaxed w ≡ is_relaxed s.view
    → Some (layout_of_view w) ≡ field_tree (fields_in (layout_of_view s.view)) (id_number f.id)
    → ∥ BindsField f.need (λ (l : Layout). Binds (is_relaxed w) f.type l) (Some (layout_of_view w)) ∥₁
part_binds s f w h er el =
    let m = layout_of_view s.view in
    let same = id_same f.id (part_id (lens.Stored s) f h) in
    let found : field_tree (fields_in m) (nat_abs f.id) ≡ Some (layout_of_view w) =
    ap (λ n. field_tree (fields_in m) n) (sym same) ∙ sym el in
    ∥∥₁_map s.binds (λ b.
    subst (λ (r : Bool). BindsField f.need (λ (l : Layout). Binds r f.type l) (Some (layout_of_view w)))
    (sym er)
    (subst (λ (o : Option Layout). BindsField f.need (λ (l : Layout). Binds (is_relaxed s.view) f.type l) o)
    found
    (struct_binds (is_relaxed s.view) (type_of_ref s.ty) m f h b)))

-- what the part has in a field
pub part_value : (l : Lens) (f : DefField) → FieldOf (type_of_lens l) f → (u : Under l)
    → field_of (value_of_lens l) f.id
    ≡ Some (found_or (default_value f) f.need (λ v. proj f.type v) (field_of u.value f.id))
part_value l f h u =
    ap (λ v. field_of v f.id) u.is
    ∙ part_found (type_of_lens l) u.value f h (rising_ids (type_of_lens l) (lens_accepted l)) (part_id l f h)
    u.struct

pub stored_value : (l : Lens) (s : Stored) (f : DefField) → l ≡ lens.Stored s → FieldOf (type_of_lens l) f
    → field_of (value_of_lens l) f.id
    ≡ Some (found_or (default_value f) f.need (λ v. proj f.type v) (field_of (value_of_view s.view) f.id))
unfolding under
stored_value l s f e h =
    ap (λ (x : Lens). field_of (value_of_lens x) f.id) e
    ∙ part_value (lens.Stored s) f (subst (λ (x : Lens). FieldOf (type_of_lens x) f) e h)
    (under (lens.Stored s) (subst (λ (x : Lens). IsStructType (type_of_lens x)) e h.struct))

pub default_value_of : (l : Lens) (d : Lacked) (f : DefField) → l ≡ lens.Default d
    → FieldOf (type_of_lens l) f
    → field_of (value_of_lens l) f.id ≡ Some (default_value f)
unfolding under
default_value_of l d f e h =
    ap (λ (x : Lens). field_of (value_of_lens x) f.id) e
    ∙ part_value (lens.Default d) f (subst (λ (x : Lens). FieldOf (type_of_lens x) f) e h)
    (under (lens.Default d) (subst (λ (x : Lens). IsStructType (type_of_lens x)) e h.struct))

-- ---- a field by its id

pass_or_later : {X : Type 0} (p : X → Bool) (y x : X) (rest : Option X) → (rest ≡ Some x → p x ≡ true)
    → (b : Bool)
    → p y ≡ b → cond b (Some y) rest ≡ Some x → p x ≡ true
pass_or_later p y x rest later true t e = let same : y ≡ x = cc in ap p (sym same) ∙ t
pass_or_later p y x rest later false t e = later e

passes : {X : Type 0} (p : X → Bool) (xs : List X) (x : X) → find p xs ≡ Some x → p x ≡ true
passes p [] x e = absurd cc
passes p (y ∷ xs) x e = pass_or_later p y x (find p xs) (passes p xs x) (p y) refl e

pub found_id : (id : ℤ) (fs : List DefField) (f : DefField) → find (λ g. int_eq g.id id) fs ≡ Some f
    → f.id ≡ id
found_id id fs f e = (Decides-int_eq f.id id).0 (passes (λ (g : DefField). int_eq g.id id) fs f e)

number_of_id : (id i : ℤ) → FitsSigned w16 id → id_fits i ≡ true → nat_abs i ≡ id_number id → i ≡ id
number_of_id (pos n) (pos m) f h e = grind (arith, ints, nat_tests)
number_of_id (negsuc n) (pos m) f h e = absurd (grind (arith, ints, nat_tests))
number_of_id id (negsuc m) f h e = absurd (grind (arith, ints, nat_tests))

none_or_later : (id i : ℤ) (f : DefField) (rest : Option DefField) (v : Value) (found : Option Value)
    → FitsSigned w16 id
    → id_fits i ≡ true → (rest ≡ None → found ≡ None) → (b : Bool) → int_eq i id ≡ b
    → cond b (Some f) rest ≡ None
    → (if nat_eq (nat_abs i) (id_number id) then Some v else found) ≡ None
none_or_later id i f rest v found fits h later true q e = absurd cc
none_or_later id i f rest v found fits h later false q e =
    let other : nat_eq (nat_abs i) (id_number id) ≡ false = ne_eqb (nat_abs i) (id_number id) (λ s.
    let yes = (Decides-int_eq i id).1 (number_of_id id i fits h s) in
    let no : true ≡ false = sym yes ∙ q in cc) in
    ap (λ c. if c then Some v else found) other ∙ later e

none_in : (id : ℤ) (fs : Fields) (vs : Values) → FitsSigned w16 id
    → AllByRecursion (λ (g : DefField). id_fits g.id ≡ true) (field_list fs)
    → find (λ g. int_eq g.id id) (field_list fs) ≡ None
    → find_field (ids_of_fields fs) vs (id_number id) ≡ None
none_in id no_fields vs fits h e = refl
none_in id (field i w n t d fs) NoValue fits h e = refl
none_in id (field i w n t d fs) (And v vs) fits h e =
    none_or_later id i (record { id = i; name = w; need = n; type = t; default = d })
    (find (λ (g : DefField). int_eq g.id id) (field_list fs)) v
    (find_field (ids_of_fields fs) vs (id_number id)) fits
    h.0 (λ r. none_in id fs vs fits h.1 r) (int_eq i id) refl e

none_projected : (t : TypeTree) (v : Value) (id : ℤ) → IsStructType t → IsRecord v → FitsSigned w16 id
    → AllByRecursion (λ (g : DefField). id_fits g.id ≡ true) (fields_of t)
    → find (λ g. int_eq g.id id) (fields_of t) ≡ None → field_of (proj t v) id ≡ None
none_projected (named (struct_of w fs)) (Record ids vs) id s r fits h e =
    none_in id fs (proj_fields fs ids vs) fits h e
none_projected (named (struct_of w fs)) v id s r fits h e = absurd r
none_projected t v id s r fits h e = absurd s

-- where the type has no field of an id, the value has none
pub none_of : (l : Lens) (id : ℤ) → IsStructType (type_of_lens l) → FitsSigned w16 id
    → find (λ g. int_eq g.id id) (fields_of (type_of_lens l)) ≡ None → field_of (value_of_lens l) id ≡ None
none_of l id s fits e =
    let u = under l s in
    ap (λ v. field_of v id) u.is ∙ none_projected (type_of_lens l) u.value id s u.struct fits (lens_ids l) e

pub typed_if : (r : Option Lens) (f : DefField) (q : Option DefField) → Some f ≡ q
    → IfSome r (λ l. type_of_lens l ≡ f.type)
    → IfSome r (λ l. Some (type_of_lens l) ≡ option_map (λ f. f.type) q)
typed_if (Some l) f q e h = ap Some h ∙ ap (option_map (λ (g : DefField). g.type)) e
typed_if None f q e h = tt
