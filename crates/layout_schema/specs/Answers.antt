-- Which bytes are a schema of which layout, and what is wrong with other bytes.
use Rattle.std.specs.Prelude.{◌≡◌, ℕ, ℤ, pos, List, Bool, false, if◌then◌else◌, Option, Some, None, Result, Ok, Err}
use Rattle.std.specs.Ordering.{int_eq}
use Rattle.frozen_model.specs.Values.{Value}
use Rattle.frozen_model.specs.Layouts.{Version, Version1, Version2, Described, described, IsDescribed}
use Rattle.compact_wire.specs.Node.{Node}
use Rattle.compact_wire.specs.Spells.{SpellsWire}
use Rattle.wire_scan.specs.Scanned.{IsScanned}
use Rattle.typed_reading.specs.declared.fault.Found.{Found}
use Rattle.typed_reading.specs.Faults.{faults, least}
use Rattle.typed_reading.specs.Meaning.{meaning, Typed}
use Rattle.layout_tree.specs.declared.node.NodeSpec.{NodeSpec}
use Rattle.layout_tree.specs.Listing.{layout_in, tree_of}
use Rattle.layout_schema.specs.declared.fault.SchemaFault.{SchemaFault}
use Rattle.layout_schema.specs.declared.fault.SchemaFault.TheVariants as fault
use Rattle.layout_schema.specs.Schemas.{schema_type, schema_with}
use Rattle.layout_schema.specs.Shapes.{relaxes_in, version_in, shape_in}

-- ---- schemas of a layout

-- relaxTypeChecks is the layout's in version 2, and is not looked at in version 1
abbrev pub IsRelaxedAs : Described → Bool → Type 0
IsRelaxedAs d relaxes = d.version ≡ Version2 → relaxes ≡ d.relaxed

-- the bytes spell a Schema of the layout's version, and what it says is the layout, which is within the limits
pub record SchemaBytes (b : List ℕ) (d : Described) : Type 0 where
  pub within : IsDescribed d
  pub tree : Node
  pub spelled : SpellsWire tree b
  pub relaxes : Bool
  pub kept : IsRelaxedAs d relaxes
  pub typed : Typed (schema_type d.version) tree (schema_with relaxes d.version d.tree)

-- ---- what is wrong, and the first of it

-- the fault of a node that is no part of a Schema, or what follows
abbrev pub with_fields : Option Found → Result Described SchemaFault → Result Described SchemaFault
with_fields (Some f) r = Err (fault.Fields f.node)
with_fields None r = r

-- a Schema's layout, of a version
abbrev pub with_shape : Version → Bool → Result (List NodeSpec) ℤ → Result Described SchemaFault
with_shape v relaxed (Ok ns) = Ok (described v relaxed (layout_in v (tree_of ns)))
with_shape v relaxed (Err z) = Err (fault.Shape z)

-- of a wire tree whose Schema of version 1 is s
abbrev pub with_version : Node → Value → Result Described SchemaFault
with_version w s =
    if int_eq (version_in s) (pos 1) then with_shape Version1 false (shape_in s)
    else (if int_eq (version_in s) (pos 2) then
    with_fields (least (faults w (schema_type Version2) 0))
    (with_shape Version2 (relaxes_in s) (shape_in (meaning w (schema_type Version2))))
    else Err (fault.Version (version_in s)))

-- the layout that a wire tree says, or the first fault
abbrev pub schema_in : Node → Result Described SchemaFault
schema_in w =
    with_fields (least (faults w (schema_type Version1) 0)) (with_version w (meaning w (schema_type Version1)))

-- the bytes spell a tree with this answer
abbrev pub IsSaid : List ℕ → Result Described SchemaFault → Type 0
IsSaid b r = (w : Node) × SpellsWire w b × (schema_in w ≡ r)

-- the first fault of the bytes
abbrev pub IsSchemaFault : List ℕ → SchemaFault → Type 0
IsSchemaFault b (fault.Spelling f) = IsScanned b (Err f)
IsSchemaFault b (fault.Fields n) = IsSaid b (Err (fault.Fields n))
IsSchemaFault b (fault.Version v) = IsSaid b (Err (fault.Version v))
IsSchemaFault b (fault.Shape n) = IsSaid b (Err (fault.Shape n))
IsSchemaFault b fault.NoMemory = ⊥
