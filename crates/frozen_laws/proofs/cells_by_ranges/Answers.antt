use Rattle.frozen_laws.proofs.Cells.{cells_are}
use Rattle.frozen_laws.proofs.cells_by_ranges.Goals as goal

pub returns-clause-kinds : goal.returns-clause-kinds
returns-clause-kinds c k v o = cells_are o

pub returns-clause-layouts : goal.returns-clause-layouts
returns-clause-layouts c l v o = cells_are o
