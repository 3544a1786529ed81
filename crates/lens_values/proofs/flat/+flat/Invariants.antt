-- The first fields are flat; each call is of a smaller type, or of the same one.
use Rattle.std.proofs.Common.{◌+◌, ◌*◌}
use Rattle.idl_parse.specs.Refs.{type_of_ref}
use Rattle.typed_tree.proofs.Typed.{size}
use Rattle.typed_tree.proofs.Celled.{all_fields}
use Rattle.lens_values.proofs.FlatTypes.{FlatBefore}
use Rattle.lens_values.proofs.flat.+flat.Given as goal

abbrev pub decreases-has_flat_fields : goal.decreases-has_flat_fields
decreases-has_flat_fields l = 2 * size (type_of_ref l.ty)

abbrev pub decreases-is_flat : goal.decreases-is_flat
decreases-is_flat l = 2 * size (type_of_ref l.ty) + 1

abbrev pub invariant-has_flat_fields-loop-i : goal.invariant-has_flat_fields-loop-i
invariant-has_flat_fields-loop-i l = FlatBefore (all_fields (type_of_ref l.ty)) l.i
