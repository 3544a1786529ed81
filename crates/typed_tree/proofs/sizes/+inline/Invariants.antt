-- The cells of the first fields are counted; each call is of a smaller type, or of a part of the same one.
use Rattle.std.proofs.Common.{◌≡◌, ◌+◌, ◌*◌, take}
use Rattle.std.specs.List.{sum_by}
use Rattle.idl_profile.specs.Types.{fields_of}
use Rattle.idl_parse.specs.Refs.{type_of_ref, field_of_ref}
use Rattle.typed_tree.specs.Sizes.{capped}
use Rattle.typed_tree.proofs.Typed.{size, inline_of}
use Rattle.typed_tree.proofs.sizes.+inline.Given as goal

abbrev pub invariant-struct_cells-loop-i : goal.invariant-struct_cells-loop-i
invariant-struct_cells-loop-i l = l.cells ≡ capped (sum_by inline_of (take l.i (fields_of (type_of_ref l.ty))))

abbrev pub decreases-inline_cells : goal.decreases-inline_cells
decreases-inline_cells l = 3 * size (type_of_ref l.ty) + 2

abbrev pub decreases-struct_cells : goal.decreases-struct_cells
decreases-struct_cells l = 3 * size (type_of_ref l.ty) + 1

abbrev pub decreases-field_cells : goal.decreases-field_cells
decreases-field_cells l = 3 * size (field_of_ref l.field).type + 3
