-- The cells of the first fields are counted; each call is of a smaller type, or of a part of the same one.
use Rattle.std.proofs.Common.{◌≡◌, ◌+◌, ◌*◌, take}
use Rattle.std.specs.List.{sum_by}
use Rattle.idl_profile.specs.Types.{fields_of}
use Rattle.idl_parse.specs.Refs.{type_of_ref, field_of_ref}
use Rattle.typed_tree.specs.Sizes.{capped, cells_of_default}
use Rattle.typed_tree.proofs.Typed.{size}
use Rattle.typed_tree.proofs.sizes.+cells.Given as goal

abbrev pub invariant-field_defaults_cells-loop-i : goal.invariant-field_defaults_cells-loop-i
invariant-field_defaults_cells-loop-i l = l.cells ≡ capped (sum_by cells_of_default (take l.i (fields_of (type_of_ref l.ty))))

abbrev pub decreases-type_cells : goal.decreases-type_cells
decreases-type_cells l = 4 * size (type_of_ref l.ty) + 1

abbrev pub decreases-field_defaults_cells : goal.decreases-field_defaults_cells
decreases-field_defaults_cells l = 4 * size (type_of_ref l.ty)

abbrev pub decreases-written_cells : goal.decreases-written_cells
decreases-written_cells l = 4 * size (field_of_ref l.field).type + 2

abbrev pub decreases-default_cells : goal.decreases-default_cells
decreases-default_cells l = 4 * size (field_of_ref l.field).type + 3
