-- Whose items are found by their places.
use Rattle.evolve.specs.declared.lens.Lens.{Lens}
use Rattle.evolve.specs.declared.lens.Lens.TheVariants as lens
use Rattle.evolve.specs.declared.row.LensRow.{LensRow}
use Rattle.evolve.specs.declared.row.LensRow.TheVariants as row

-- the lens on the list, set or map
abbrev pub lens_of_row : LensRow → Lens
lens_of_row (row.Stored s) = lens.Stored s.whole
lens_of_row (row.Default d) = lens.Default d
