-- The cells of the first parts are counted; each call is of a smaller type, or of a part of the same one.
use Rattle.std.proofs.Common.{◌≡◌, ◌+◌, ◌*◌}
use Rattle.idl_parse.specs.Refs.{type_of_ref, field_of_ref}
use Rattle.type_kinds.specs.KindsOf.{kinds_of}
use Rattle.typed_tree.specs.Parts.{items_of, fields_of}
use Rattle.typed_tree.specs.References.{value_of_ref}
use Rattle.typed_tree.specs.Sizes.{capped}
use Rattle.typed_tree.specs.Ranges.{pair_kinds}
use Rattle.typed_tree.proofs.Typed.{size}
use Rattle.typed_tree.proofs.Celled.{cells_before, fields_before, all_fields}
use Rattle.typed_tree.proofs.value_cells.+values.Given as goal

abbrev pub decreases-cells : goal.decreases-cells
decreases-cells l = 4 * size (type_of_ref l.ty) + 1

abbrev pub decreases-record_cells : goal.decreases-record_cells
decreases-record_cells l = 4 * size (type_of_ref l.ty)

abbrev pub decreases-row_cells : goal.decreases-row_cells
decreases-row_cells l = 4 * size (type_of_ref l.element) + 2

abbrev pub decreases-map_cells : goal.decreases-map_cells
decreases-map_cells l = 4 * (size (type_of_ref l.key) + size (type_of_ref l.value)) + 2

abbrev pub decreases-optional_cells : goal.decreases-optional_cells
decreases-optional_cells l = 4 * size (type_of_ref l.ty) + 2

abbrev pub decreases-field_value_cells : goal.decreases-field_value_cells
decreases-field_value_cells l = 4 * size (field_of_ref l.field).type + 3

abbrev pub invariant-row_cells-loop-i : goal.invariant-row_cells-loop-i
invariant-row_cells-loop-i l = l.total ≡ capped (2 + cells_before (kinds_of (type_of_ref l.element)) (items_of (value_of_ref l.row)) l.i)

abbrev pub invariant-map_cells-loop-i : goal.invariant-map_cells-loop-i
invariant-map_cells-loop-i l = l.total ≡ capped (2 + cells_before (pair_kinds (kinds_of (type_of_ref l.key)) (kinds_of (type_of_ref l.value))) (items_of (value_of_ref l.map)) l.i)

abbrev pub invariant-record_cells-loop-i : goal.invariant-record_cells-loop-i
invariant-record_cells-loop-i l = l.total ≡ capped (fields_before (all_fields (type_of_ref l.ty)) (fields_of (value_of_ref l.value)) l.i)
