-- The law of kind trees, at the kinds of a type.
use Rattle.frozen_laws.proofs.Cells.{cells_are}
use Rattle.typed_tree.proofs.value_cells.cells_by_ranges.Goals as goal

pub returns : goal.returns
returns c t v o = cells_are o
