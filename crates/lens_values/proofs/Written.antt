-- What is written of a part of each kind, and of a field of a struct.
use Rattle.std.proofs.Common.{◌≡◌, ◌⊎◌, ℕ, ℤ, pos, negsuc, Some, refl, ap, ◌∙◌, slice_get}
use Rattle.std.proofs.Common.{inl, inr}
use Rattle.std.specs.Prelude.{option_and_then}
use Rattle.std.proofs.Math.Logic.{∥∥₁_elim}
use Rattle.std.proofs.Math.Bridge.{le_prop}
use Rattle.idl_profile.specs.declared.kinds.Need.{Need}
use Rattle.idl_profile.specs.declared.kinds.Need.TheVariants.{Plain, Required, Optional}
use Rattle.idl_profile.specs.declared.kinds.TypeKind.TheVariants as k
use Rattle.idl_profile.specs.Types.{TypeTree, DefField, fields_of, kind_of}
use Rattle.idl_parse.specs.Refs.{element_of}
use Rattle.frozen_model.specs.Values.{Value, Number, One, InBits, Of, absent, present, nth}
use Rattle.compact_wire.specs.Node.{Node, Fields, list}
use Rattle.compact_wire.specs.Canon.{canon, canon_fields}
use Rattle.typed_tree.specs.Parts.{field_of, items_of, fields_of as values_in}
use Rattle.typed_tree.specs.Sizes.{field_kinds}
use Rattle.typed_tree.proofs.Celled.{struct-value, field-value}
use Rattle.typed_reading.specs.Codes.{code}
use Rattle.compact_codec.specs.Wire.{wire, each, with_field}
use Rattle.compact_codec.proofs.Forms.{wire-as, small-number}
use Rattle.evolve.specs.declared.lens.Lens.{Lens}
use Rattle.evolve.specs.Parts.{held}
use Rattle.evolve.specs.Lenses.{type_of_lens, value_of_lens}
use Rattle.evolve.proofs.Known.{lens_value, lens_ids, lens_accepted}
use Rattle.evolve.proofs.Members.{rising_ids}
use Rattle.lens_values.specs.Writing.{with_held}
use Rattle.lens_values.proofs.LensParts.{numbers_prop, plain_held, lens_struct, struct_at}

-- a set is written as a list is
pub row_written : (t : TypeTree) (v : Value) → (kind_of t ≡ k.List) ⊎ (kind_of t ≡ k.Set)
    → canon (wire t v) ≡ canon (list (code (element_of t)) (each (wire (element_of t)) (items_of v)))
row_written t v (inl e) = ap canon (wire-as k.List t v e)
row_written t v (inr e) = ap canon (wire-as k.Set t v e)

-- ---- numbers of 8 bits

small_prop : (z : ℤ) → IsProp (InBits 7 z)
small_prop (pos n) = le_prop
small_prop (negsuc n) = le_prop

pub lens_small : (l : Lens) (z : ℤ) → kind_of (type_of_lens l) ≡ k.I8 → value_of_lens l ≡ One (Number z)
    → InBits 7 z
lens_small l z e is =
    ∥∥₁_elim (lens_value l) (small_prop z) (λ o. small-number (type_of_lens l) (value_of_lens l) z o e is)

-- ---- fields

-- what is written of a field is what is written of what it has
written_as_held : (n : Need) (t : TypeTree) (id : ℤ) (g : Value → Node) (v : Value) (xs : Fields)
    → Of (field_kinds n t) v → with_held id g (held v) xs ≡ with_field n id g v xs
written_as_held Plain t id g v xs o = ap (λ x. with_held id g x xs) (plain_held t v o)
written_as_held Required t id g v xs o = ap (λ x. with_held id g x xs) (plain_held t v o)
written_as_held Optional t id g _ xs absent = refl
written_as_held Optional t id g _ xs (present h) = refl

-- the field at a place is found by its id, and written as the value at that place
pub field_written : (l : Lens) (i : ℕ) (f : DefField) (before : ℤ) (xs : Fields)
    → kind_of (type_of_lens l) ≡ k.Struct → slice_get (fields_of (type_of_lens l)) i ≡ Some f
    → canon_fields before (with_held f.id (wire f.type)
    (option_and_then held (field_of (value_of_lens l) f.id)) xs)
    ≡ canon_fields before (with_field f.need f.id (wire f.type) (nth (values_in (value_of_lens l)) i) xs)
field_written l i f before xs e at =
    let t = type_of_lens l in
    let v = value_of_lens l in
    let found = struct_at t v i f (lens_struct l e) (rising_ids t (lens_accepted l)) (lens_ids l) at in
    ap (λ x. canon_fields before (with_held f.id (wire f.type) (option_and_then held x) xs)) found
    ∙ ∥∥₁_elim (lens_value l) (numbers_prop _ _) (λ o.
    ap (canon_fields before) (written_as_held f.need f.type f.id (wire f.type) (nth (values_in v) i) xs
    (field-value t v i f (struct-value t v e o) at)))
