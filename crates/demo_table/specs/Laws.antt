-- The laws of a value's own file: that it opens and binds, that it is short, and what it thaws to.
use Rattle.std.specs.Prelude.{◌≡◌, ◌↔◌, ◌<◌, ◌≤◌, ◌^◌, ℕ, List, length}
use Rattle.std.specs.Str.{IsUtf8}
use Rattle.idl_profile.specs.Types.{TypeTree, Named, root_of}
use Rattle.idl_parse.specs.Parsed.{DefText}
use Rattle.type_kinds.specs.KindsOf.{kinds_of}
use Rattle.type_kinds.specs.Accepted.{IsAccepted}
use Rattle.frozen_model.specs.Trees.{KindTree, kinds}
use Rattle.frozen_model.specs.Values.{Value, cells, cell_limit}
use Rattle.frozen_model.specs.Layouts.{Described, IsDescribed}
use Rattle.frozen_model.specs.Holding.{Holds}
use Rattle.frozen_model.specs.Files.{File, frozen}
use Rattle.compact_wire.specs.Canon.{canon}
use Rattle.compact_codec.specs.Wire.{wire}
use Rattle.layout_schema.specs.Answers.{SchemaBytes}
use Rattle.file_check.specs.Written.{written}
use Rattle.frozen_file.specs.FrozenFile.{IsLeastFile, IsFrozenFile}
use Rattle.evolve.specs.Binding.{Compatible}
use Rattle.evolve.specs.Projection.{proj}

-- where a layout within the limits has the kinds of a definition's root and holds a value within the limit of
-- cells, the frozen file of the value in that layout is a file of them, so it opens; and the definition binds
-- to the layout
abbrev pub OwnFileOpens : Type 0
OwnFileOpens = (d : Described) (t : TypeTree) (v : Value) → IsAccepted IsUtf8 t → kinds_of t ≡ kinds d.tree
    → IsDescribed d → Holds d.tree v → cells d.tree v ≤ cell_limit
    → File SchemaBytes (frozen written d v) d v × Compatible d t

-- the frozen file of a value in its least layout has less than 2^30 bytes
abbrev pub OwnFileIsShort : Type 0
OwnFileIsShort = (k : KindTree) (v : Value) (bytes : List ℕ) → IsLeastFile k v bytes → length bytes < 2 ^ 30

-- of whatever layout and value the frozen file of a value under a definition is a file, the definition binds
-- to the layout, and what the file holds is, as one of the definition's root, the value that was frozen,
-- within the limit of cells
abbrev pub OwnFileIsRead : Type 0
OwnFileIsRead = (text : List ℕ) (d : List Named) (v : Value) (bytes : List ℕ) → DefText text d
    → IsFrozenFile d v bytes → (layout : Described) (held : Value) → File SchemaBytes bytes layout held
    → Compatible layout (root_of d) × (proj (root_of d) held ≡ v)
    × (cells (kinds_of (root_of d)) v ≤ cell_limit)

-- what `thaw` writes of a file under a definition: the file is that of a value in a layout, the definition
-- binds to the layout, and the value as one of the definition's root is within the limit of cells; its
-- canonical spelling is written
pub record IsThawed (d : List Named) (bytes out : List ℕ) : Type 0 where
  pub layout : Described
  pub value : Value
  pub file : File SchemaBytes bytes layout value
  pub binds : Compatible layout (root_of d)
  pub within : cells (kinds_of (root_of d)) (proj (root_of d) value) ≤ cell_limit
  pub spelled : out ≡ canon (wire (root_of d) (proj (root_of d) value))

-- so the frozen file of a value under a definition thaws under it to the canonical spelling of the value, and
-- to nothing else
abbrev pub OwnFileThaws : Type 0
OwnFileThaws = (text : List ℕ) (d : List Named) (v : Value) (bytes out : List ℕ) → DefText text d
    → IsFrozenFile d v bytes → IsThawed d bytes out ↔ (out ≡ canon (wire (root_of d) v))
