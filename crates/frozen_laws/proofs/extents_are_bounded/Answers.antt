use Rattle.std.proofs.Common.{arith, ◌^◌}
use Rattle.frozen_laws.proofs.Opening.{packed_length}
use Rattle.frozen_laws.proofs.Cells.{whole_cells, distances_below}
use Rattle.frozen_laws.proofs.extents_are_bounded.Goals as goal

pub returns-clause-extents : goal.returns-clause-extents
returns-clause-extents c l v o h few = omega (arith, whole_cells l v o h)

pub returns-clause-distances : goal.returns-clause-distances
returns-clause-distances c l v o h few = distances_below l v (2 ^ 29) o h (omega arith)

pub returns-clause-packing : goal.returns-clause-packing
returns-clause-packing c l v bs o h few packed = (packed_length bs o packed, omega (arith, whole_cells l v o h, packed_length bs o packed))
