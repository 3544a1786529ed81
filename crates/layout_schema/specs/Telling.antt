-- What the steps of reading a schema's bytes tell.
use Rattle.std.specs.Prelude.{◌≡◌, ◌⊎◌, ℕ, ℤ, List, Bool, Some, Result, Ok, Err}
use Rattle.frozen_model.specs.Values.{Value, Of}
use Rattle.frozen_model.specs.Layouts.{Version, Described, MayRelax}
use Rattle.compact_wire.specs.Node.{Node}
use Rattle.compact_wire.specs.Spells.{SpellsWire}
use Rattle.wire_scan.specs.Scanned.{IsScanned}
use Rattle.idl_profile.specs.Types.{TypeTree}
use Rattle.type_kinds.specs.KindsOf.{kinds_of}
use Rattle.typed_reading.specs.declared.fault.Found.{Found}
use Rattle.typed_reading.specs.declared.fault.ValueFault.{ValueFault}
use Rattle.typed_reading.specs.declared.fault.ValueFault.TheVariants as value
use Rattle.typed_reading.specs.Faults.{faults, least}
use Rattle.typed_reading.specs.Meaning.{Typed}
use Rattle.layout_tree.specs.declared.layouts.Layouts.{Layouts}
use Rattle.layout_tree.specs.Listing.{version_number}
use Rattle.layout_tree.specs.Nodes.{layout_of}
use Rattle.layout_schema.specs.declared.fault.SchemaFault.{SchemaFault}
use Rattle.layout_schema.specs.declared.fault.SchemaFault.TheVariants as fault
use Rattle.layout_schema.specs.Schemas.{schema_type}
use Rattle.layout_schema.specs.Shapes.{version_in}
use Rattle.layout_schema.specs.Standing.{spelled_as}
use Rattle.layout_schema.specs.Answers.{IsSaid, IsSchemaFault}

-- ---- the bytes as a value of a type

-- the fault of a schema that is this fault of a value; without a limit of cells there is no fault of too many
abbrev pub fault_told : ValueFault → SchemaFault
fault_told (value.Wire f) = fault.Spelling f
fault_told (value.RepeatedField n) = fault.Fields n
fault_told (value.MissingRequired n id) = fault.Fields n
fault_told (value.WrongType n) = fault.Fields n
fault_told (value.BadText n) = fault.Fields n
fault_told (value.RepeatedKey n) = fault.Fields n
fault_told (value.TooManyCells c) = fault.NoMemory
fault_told value.NoMemory = fault.NoMemory

-- the bytes spell a tree whose least fault, as one of the type, is at the node n
abbrev pub IsFaultyAt : TypeTree → List ℕ → ℕ → Type 0
IsFaultyAt t b n = (w : Node) × (f : Found) × SpellsWire w b × (least (faults w t 0) ≡ Some f) × (f.node ≡ n)

-- the bytes spell this value of the type
abbrev pub IsSpelled : TypeTree → List ℕ → Value → Type 0
IsSpelled t b v = (w : Node) × SpellsWire w b × Typed t w v

-- what the bytes are, read as the type: a value of it, or the fault of their spelling or of the least faulty node
abbrev pub IsReadAs : TypeTree → List ℕ → Result (Unit {0}) SchemaFault → Type 0
IsReadAs t b (Ok u) = IsSpelled t b (spelled_as t b)
IsReadAs t b (Err (fault.Spelling f)) = IsScanned b (Err f)
IsReadAs t b (Err (fault.Fields n)) = IsFaultyAt t b n
IsReadAs t b (Err fault.NoMemory) = Unit {0}
IsReadAs t b (Err _) = ⊥

-- ---- the layout of a value

-- a value of the version's type that says this version, which may be relaxed so
pub record IsSchemaOf (v : Version) (number : ℤ) (relaxed : Bool) (s : Value) : Type 0 where
  pub numbered : number ≡ version_number v
  pub kinds : Of (kinds_of (schema_type v)) s
  pub tells : version_in s ≡ number
  pub relaxing : MayRelax v relaxed

-- the layout or the number at fault is this answer, or memory ran out
abbrev pub Tells : Result Layouts SchemaFault → Result Described SchemaFault → Type 0
Tells (Ok layouts) answer = answer ≡ Ok (layout_of layouts)
Tells (Err (fault.Shape z)) answer = answer ≡ Err (fault.Shape z)
Tells (Err fault.NoMemory) answer = Unit {0}
Tells (Err _) answer = ⊥

-- ---- the answer for the bytes

-- the cause of an answer
abbrev pub IsAnswer : List ℕ → Result Layouts SchemaFault → Type 0
IsAnswer b (Ok layouts) = IsSaid b (Ok (layout_of layouts))
IsAnswer b (Err f) = IsSchemaFault b f ⊎ (f ≡ fault.NoMemory)
