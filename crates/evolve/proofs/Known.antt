-- What is known of a lens.
use Rattle.std.proofs.Common.{ℕ, ◌≤◌, Bool, arith, Some}
use Rattle.std.specs.Str.{IsUtf8}
use Rattle.std.proofs.Math.Logic.{∥∥₁_elim, ∥∥₁_map, ∥∥₁_prop}
use Rattle.std.proofs.Math.Bridge.{le_prop}
use Rattle.idl_profile.specs.declared.kinds.Need.TheVariants.{Optional}
use Rattle.idl_profile.specs.Types.{TypeTree, scalar, text, bytes, list_of, set_of, map_of, named, enum_of}
use Rattle.idl_profile.specs.Types.{struct_of, kind_of}
use Rattle.idl_parse.specs.Refs.{type_of_ref}
use Rattle.idl_parse.specs.declared.definition.TypeRef.{TypeRef}
use Rattle.frozen_model.specs.Trees as tree
use Rattle.frozen_model.specs.Values as is
use Rattle.frozen_model.specs.Values.{Value, Of, one, items, absent, present, record_of}
use Rattle.frozen_model.specs.Layouts.{Layout}
use Rattle.type_kinds.specs.KindsOf.{kinds_of}
use Rattle.type_kinds.specs.Accepted.{IsAccepted, HasShortTexts}
use Rattle.type_kinds.proofs.Forms.{accepted_short}
use Rattle.root_kinds.proofs.Numbered.{HaveIds, type_ref_has_ids}
use Rattle.bit_view.specs.Views.{value_of_view, layout_of_view, is_relaxed}
use Rattle.bit_view.specs.Branches.{inner_of}
use Rattle.bit_view.proofs.Seen.{view_value}
use Rattle.evolve.specs.declared.lens.Stored.{Stored}
use Rattle.evolve.specs.declared.lens.Lens.{Lens}
use Rattle.evolve.specs.declared.lens.Lens.TheVariants as lens
use Rattle.evolve.specs.Binding.{BindsField, Binds}
use Rattle.evolve.specs.Projection.{proj}
use Rattle.evolve.specs.Lenses.{type_of_lens, value_of_lens, HasForm}
use Rattle.evolve.proofs.Projected.{projected}
use Rattle.evolve.proofs.Tags.{tag}
use Rattle.evolve.proofs.Shaped.{formed}

pub lens_accepted : (l : Lens) → ∥ IsAccepted IsUtf8 (type_of_lens l) ∥₁
lens_accepted (lens.Stored s) = s.accepted
lens_accepted (lens.Default d) = d.accepted

pub lens_short : (l : Lens) → ∥ HasShortTexts (type_of_lens l) ∥₁
lens_short (lens.Stored s) = s.short
lens_short (lens.Default d) = d.short

stored_formed : (s : Stored)
    → ∥ Of (kinds_of (type_of_ref s.ty)) (proj (type_of_ref s.ty) (value_of_view s.view)) ∥₁
stored_formed s =
    let t = type_of_ref s.ty in
    ∥∥₁_elim s.binds ∥∥₁_prop (λ b. ∥∥₁_elim s.accepted ∥∥₁_prop (λ a. ∥∥₁_elim s.short ∥∥₁_prop (λ h.
    ∥∥₁_map (view_value s.view) (λ o.
    projected (is_relaxed s.view) t (layout_of_view s.view) (accepted_short t a h) b o))))

-- it stands for a value of its type
pub lens_value : (l : Lens) → ∥ Of (kinds_of (type_of_lens l)) (value_of_lens l) ∥₁
lens_value (lens.Stored s) = stored_formed s
lens_value (lens.Default d) = d.formed

pub lens_form : (l : Lens) → HasForm (kind_of (type_of_lens l)) (value_of_lens l)
lens_form l = formed (type_of_lens l) (value_of_lens l) (lens_value l)

pub lens_ids : (l : Lens) → HaveIds (type_of_lens l)
lens_ids (lens.Stored s) = type_ref_has_ids s.ty
lens_ids (lens.Default d) =
    let r : TypeRef = record { def = d.field.def; within = d.field.within; node = d.field.field.now.ty } in
    type_ref_has_ids r

-- ---- optionals are fields alone

no_optional : (r : Bool) (t : TypeTree) (w : ℕ) (l : Layout) → Binds r t (tree.Optional w l) → ⊥
no_optional r (scalar s) w l b = b
no_optional r text w l b = b
no_optional r bytes w l b = b
no_optional r (list_of x) w l b = b
no_optional r (set_of x) w l b = b
no_optional r (map_of x y) w l b = b
no_optional r (named (enum_of v ms)) w l b = b
no_optional r (named (struct_of v fs)) w l b = b

bound_plain : (r : Bool) (t : TypeTree) {m : Layout} {v : Value} → Binds r t m → Of m v → tag v ≤ 3
bound_plain r t b (one h) = omega arith
bound_plain r t b (is.bytes h i j) = omega arith
bound_plain r t b (items n rs hs) = omega arith
bound_plain r t b (absent {w = w} {l = l}) = absurd (no_optional r t w l b)
bound_plain r t b (present {w = w} {l = l} h) = absurd (no_optional r t w l b)
bound_plain r t b (record_of e hs) = omega arith

pub plain_tag : (r : Bool) (t : TypeTree) (m : Layout) (v : Value) → ∥ Binds r t m ∥₁ → ∥ Of m v ∥₁
    → tag v ≤ 3
plain_tag r t m v b h = ∥∥₁_elim b le_prop (λ b. ∥∥₁_elim h le_prop (λ o. bound_plain r t b o))

bound_optional : (binds : Layout → Type 0) (m : Layout) (v : Value) → BindsField Optional binds (Some m)
    → Of m v
    → 4 ≤ tag v
bound_optional binds (tree.Optional w l) v b absent = omega arith
bound_optional binds (tree.Optional w l) v b (present h) = omega arith
bound_optional binds m v b h = absurd b

pub optional_tag : (binds : Layout → Type 0) (m : Layout) (v : Value)
    → ∥ BindsField Optional binds (Some m) ∥₁
    → ∥ Of m v ∥₁ → 4 ≤ tag v
optional_tag binds m v b h = ∥∥₁_elim b le_prop (λ b. ∥∥₁_elim h le_prop (λ o. bound_optional binds m v b o))

pub inner_binds : (binds : Layout → Type 0) (m : Layout) → BindsField Optional binds (Some m)
    → binds (inner_of m)
inner_binds binds (tree.Optional w l) b = b
inner_binds binds m b = absurd b

-- ---- a value of a type is no optional

of_tag : (t : TypeTree) {v : Value} → Of (kinds_of t) v → tag v ≤ 3
of_tag (scalar s) (one h) = omega arith
of_tag text (is.bytes h i j) = omega arith
of_tag bytes (is.bytes h i j) = omega arith
of_tag (list_of x) (items n r hs) = omega arith
of_tag (set_of x) (items n r hs) = omega arith
of_tag (map_of x y) (items n r hs) = omega arith
of_tag (named (enum_of w ms)) (one h) = omega arith
of_tag (named (struct_of w fs)) (record_of e hs) = omega arith

pub value_tag : (t : TypeTree) (v : Value) → ∥ Of (kinds_of t) v ∥₁ → tag v ≤ 3
value_tag t v h = ∥∥₁_elim h le_prop (λ o. of_tag t o)
