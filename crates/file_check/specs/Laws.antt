-- The laws of files.
use Rattle.std.specs.Prelude.{◌≡◌, ◌↔◌, ◌≤◌, ℕ, List, Result, Ok}
use Rattle.frozen_model.specs.BitLaws.{IsBytes}
use Rattle.frozen_model.specs.Values.{Value, cells, cell_limit}
use Rattle.frozen_model.specs.Layouts.{Described, IsDescribed}
use Rattle.frozen_model.specs.Holding.{Holds}
use Rattle.frozen_model.specs.Files.{File, FileFault, frozen}
use Rattle.layout_schema.specs.declared.fault.SchemaFault.{SchemaFault}
use Rattle.layout_schema.specs.Answers.{SchemaBytes}
use Rattle.file_check.specs.Opening.{IsOpening}
use Rattle.file_check.specs.Written.{written}

-- bytes are the frozen file of one value in one layout at most
abbrev pub FilesAreUnique : Type 0
FilesAreUnique = (b : List ℕ) (d e : Described) (v u : Value) → File SchemaBytes b d v
    → File SchemaBytes b e u → (d ≡ e) × (v ≡ u)

-- each list of bytes has one answer of opening, and no other
abbrev pub OpeningHasOneAnswer : Type 0
OpeningHasOneAnswer = (b : List ℕ) → IsBytes b → (r : Result (Described × Value) (FileFault SchemaFault))
    × IsOpening b r × ((q : Result (Described × Value) (FileFault SchemaFault)) → IsOpening b q → q ≡ r)

-- it is a layout and a value exactly where the bytes are the frozen file of that value in that layout
abbrev pub OpeningIsExact : Type 0
OpeningIsExact = (b : List ℕ) (d : Described) (v : Value) → IsBytes b
    → IsOpening b (Ok (d, v)) ↔ File SchemaBytes b d v

-- the frozen file of a value that a layout holds within the limit of cells, with the layout's schema in its
-- canonical spelling, is a file of both
abbrev pub FrozenIsFile : Type 0
FrozenIsFile = (d : Described) (v : Value) → IsDescribed d → Holds d.tree v → cells d.tree v ≤ cell_limit
    → File SchemaBytes (frozen written d v) d v
