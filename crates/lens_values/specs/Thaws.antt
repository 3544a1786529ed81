-- Why a value of so many cells is not made.
use Rattle.std.specs.Prelude.{◌≡◌, ℕ, ◌<◌, ◌≤◌}
use Rattle.frozen_model.specs.Values.{cell_limit}
use Rattle.typed_tree.specs.Sizes.{capped}
use Rattle.lens_values.specs.declared.fault.Halt.{Halt}
use Rattle.lens_values.specs.declared.fault.Halt.TheVariants as halts
use Rattle.lens_values.specs.declared.fault.ThawFault.{ThawFault}
use Rattle.lens_values.specs.declared.fault.ThawFault.TheVariants.{TooManyCells, NoMemory}

-- the fault of cells comes exactly where they pass the limit
abbrev pub IsThawFault : ℕ → ThawFault → Type 0
IsThawFault cells (TooManyCells told) = (cell_limit < cells) × (told ≡ capped cells)
IsThawFault cells NoMemory = cells ≤ cell_limit

-- the writing stops for its cells only where they pass the limit
abbrev pub IsHalt : ℕ → Halt → Type 0
IsHalt cells halts.TooMany = cell_limit < cells
IsHalt cells halts.NoMemory = Unit {0}
