-- A field is smaller than its struct, and is flat as the ones before.
use Rattle.std.proofs.Common.{◌≡◌, subst, length, arith, ap}
use Rattle.idl_profile.specs.Types.{fields_of}
use Rattle.idl_parse.specs.Refs.{type_of_ref, field_of_ref}
use Rattle.type_kinds.specs.KindsOf.{kinds_of}
use Rattle.typed_tree.proofs.Typed.{size, field-smaller}
use Rattle.typed_tree.proofs.Celled.{all_fields}
use Rattle.lens_values.specs.Flat.{IsFlat}
use Rattle.lens_values.proofs.FlatTypes.{FlatBefore, flat_none, flat_more, flat_struct}
use Rattle.lens_values.proofs.flat.+flat.Goals as goal

pub has_flat_fields-loop-i-init : goal.has_flat_fields-loop-i-init
has_flat_fields-loop-i-init t c = flat_none (all_fields (type_of_ref c.args.ty))

pub has_flat_fields-is_flat-requires : goal.has_flat_fields-is_flat-requires
has_flat_fields-is_flat-requires t c =
    let less =
    field-smaller (type_of_ref c.args.ty) c.loop-i.i (field_of_ref c.field_at.result)
    c.field_at.ensures in
    (omega (arith, c.decreases, less, ap size c.ty.ensures), tt)

pub has_flat_fields-loop-i-preserved : goal.has_flat_fields-loop-i-preserved
has_flat_fields-loop-i-preserved t c =
    let f = field_of_ref c.field_at.result in
    let flat = subst (λ x. IsFlat (kinds_of x)) c.ty.ensures (c.is_flat.ensures c.if-not-is_flat.false) in
    flat_more (type_of_ref c.args.ty) c.loop-i.i f c.field_at.ensures c.loop-i.invariant flat

pub has_flat_fields-returns : goal.has_flat_fields-returns
has_flat_fields-returns t c = λ e.
    let of_type = type_of_ref c.args.ty in
    let all : c.loop-i.i ≡ length (fields_of of_type) =
    omega (arith, c.loop-i-test.false, c.loop-i.auto.i-end, c.field_count-i-end.ensures) in
    flat_struct of_type c.requires (subst (FlatBefore (all_fields of_type)) all c.loop-i.invariant)
