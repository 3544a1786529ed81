-- What is written of a field of a struct, and the cells that it has.
use Rattle.std.specs.Prelude.{ℕ, ◌+◌, ℤ, Option, Some, None}
use Rattle.idl_profile.specs.declared.kinds.Need.{Need}
use Rattle.idl_profile.specs.declared.kinds.Need.TheVariants.{Plain, Required, Optional}
use Rattle.frozen_model.specs.Trees.{KindTree}
use Rattle.frozen_model.specs.Values.{Value, cells, inline_cells}
use Rattle.compact_wire.specs.Node.{Node, Fields, field}

-- what the field has, in front of the others; where it has nothing it is left out
abbrev pub with_held : ℤ → (Value → Node) → Option Value → Fields → Fields
with_held id f None xs = xs
with_held id f (Some v) xs = field id (f v) xs

-- the cells for whether what the field has is there
abbrev pub presence : Need → ℕ
presence Optional = 1
presence Plain = 0
presence Required = 0

-- the cells of what a field of this need has; where it has nothing they are the inline ones and one
abbrev pub held_cells : Need → KindTree → Option Value → ℕ
held_cells n k None = 1 + inline_cells k
held_cells n k (Some v) = presence n + cells k v
