-- The cells of the first parts are counted; each call is of a part of a smaller type, or of the same part.
use Rattle.std.proofs.Common.{◌≡◌, ◌+◌, ◌*◌}
use Rattle.idl_parse.specs.Refs.{field_of_ref, element_of, key_of, value_of}
use Rattle.type_kinds.specs.KindsOf.{kinds_of}
use Rattle.typed_tree.specs.Parts.{items_of, fields_of}
use Rattle.typed_tree.specs.Sizes.{capped}
use Rattle.typed_tree.specs.Ranges.{pair_kinds}
use Rattle.typed_tree.proofs.Typed.{size}
use Rattle.typed_tree.proofs.Celled.{cells_before, fields_before, all_fields}
use Rattle.evolve.specs.Lenses.{type_of_lens, value_of_lens}
use Rattle.lens_values.proofs.cells.+cells.Given as goal

abbrev pub decreases-lens_cells : goal.decreases-lens_cells
decreases-lens_cells l = 5 * size (type_of_lens l.from) + 2

abbrev pub decreases-row_cells : goal.decreases-row_cells
decreases-row_cells l = 5 * size (type_of_lens l.row) + 1

abbrev pub decreases-item_cells : goal.decreases-item_cells
decreases-item_cells l = 5 * size (type_of_lens l.row)

abbrev pub decreases-map_cells : goal.decreases-map_cells
decreases-map_cells l = 5 * size (type_of_lens l.map) + 1

abbrev pub decreases-pair_cells : goal.decreases-pair_cells
decreases-pair_cells l = 5 * size (type_of_lens l.map)

abbrev pub decreases-record_cells : goal.decreases-record_cells
decreases-record_cells l = 5 * size (type_of_lens l.from) + 1

abbrev pub decreases-field_cells : goal.decreases-field_cells
decreases-field_cells l = 5 * size (field_of_ref l.field).type + 5

abbrev pub decreases-part_cells : goal.decreases-part_cells
decreases-part_cells l = 5 * size (field_of_ref l.field).type + 4

abbrev pub decreases-there_cells : goal.decreases-there_cells
decreases-there_cells l = 5 * size (field_of_ref l.field).type + 3

abbrev pub invariant-item_cells-loop-i : goal.invariant-item_cells-loop-i
invariant-item_cells-loop-i l =
    let kinds = kinds_of (element_of (type_of_lens l.row)) in
    l.total ≡ capped (2 + cells_before kinds (items_of (value_of_lens l.row)) l.i)

abbrev pub invariant-pair_cells-loop-i : goal.invariant-pair_cells-loop-i
invariant-pair_cells-loop-i l =
    let kinds =
    pair_kinds (kinds_of (key_of (type_of_lens l.map))) (kinds_of (value_of (type_of_lens l.map))) in
    l.total ≡ capped (2 + cells_before kinds (items_of (value_of_lens l.map)) l.i)

abbrev pub invariant-record_cells-loop-i : goal.invariant-record_cells-loop-i
invariant-record_cells-loop-i l =
    l.total ≡ capped (fields_before (all_fields (type_of_lens l.from)) (fields_of (value_of_lens l.from)) l.i)
