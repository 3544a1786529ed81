-- What contracts see of the keys of a part.
use Rattle.frozen_model.specs.Values.{Values}
use Rattle.typed_tree.specs.Parts.{items_of}
use Rattle.evolve.specs.Lenses.{value_of_lens}
use Rattle.evolve.specs.LensRows.{lens_of_row}
use Rattle.lens_lookup.specs.declared.keys.LensKeys.{LensKeys}

-- the items of the set or the pairs of the map
abbrev pub values_searched : LensKeys → Values
values_searched k = items_of (value_of_lens (lens_of_row k.row))
