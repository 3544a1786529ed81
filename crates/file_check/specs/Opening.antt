-- What the bytes of a file are opened as, and what is wrong with other bytes.
use Rattle.std.specs.Prelude.{◌≡◌, ℕ, List, true, Result, Ok, Err}
use Rattle.frozen_model.specs.Values.{Value}
use Rattle.frozen_model.specs.Layouts.{Described}
use Rattle.frozen_model.specs.Files.{FileFault, NotFrozen, BadSchema, BadContent, File, open_file}
use Rattle.frozen_model.specs.Files.{schema_bytes, content_of}
use Rattle.frozen_model.specs.Walk.{Fault, Short, Long, Distance, Dirty, BadText, KeyOrder, TooManyCells}
use Rattle.frozen_model.specs.Walk.{OutOfRange}
use Rattle.layout_tree.specs.Nodes.{layout_of}
use Rattle.layout_schema.specs.declared.fault.SchemaFault.{SchemaFault}
use Rattle.layout_schema.specs.declared.fault.SchemaFault.TheVariants as schemas
use Rattle.layout_schema.specs.Answers.{SchemaBytes, IsSaid, IsSchemaFault}
use Rattle.file_check.specs.declared.fault.OpenFault.{OpenFault}
use Rattle.file_check.specs.declared.fault.OpenFault.TheVariants as fault
use Rattle.file_check.specs.declared.opened.Opened.{Opened}
use Rattle.file_check.specs.Parts.{has_schema}

-- ---- what bytes are opened as

-- what bytes are read as: the layout that they say, or the first fault
abbrev pub IsRead : List ℕ → Result Described SchemaFault → Type 0
IsRead s (Ok d) = IsSaid s (Ok d)
IsRead s (Err f) = IsSchemaFault s f

-- the answer of opening the bytes, the layout and the value or the first fault, where the schema, if they
-- have one, is read as what it is
pub record IsOpening (b : List ℕ) (r : Result (Described × Value) (FileFault SchemaFault)) : Type 0 where
  pub schema : Result Described SchemaFault
  pub read : has_schema b ≡ true → IsRead (schema_bytes b) schema
  pub opened : open_file (λ s. schema) b ≡ r

-- ---- faults

-- the fault of the file, of a fault of its content
abbrev pub fault_in : Fault → OpenFault
fault_in Short = fault.Short
fault_in (Long n) = fault.Long n
fault_in (Distance b f w) = fault.Distance b f w
fault_in (Dirty b) = fault.Dirty b
fault_in (BadText b) = fault.BadText b
fault_in (KeyOrder b) = fault.KeyOrder b
fault_in TooManyCells = fault.TooManyCells
fault_in (OutOfRange b) = fault.Range b

-- the fault of the code that stands for a fault of the definition
abbrev pub fault_of : FileFault SchemaFault → OpenFault
fault_of NotFrozen = fault.NotFrozen
fault_of (BadSchema f) = fault.Schema f
fault_of (BadContent f) = fault_in f

-- the first fault of the bytes
abbrev pub IsFirstFault : List ℕ → OpenFault → Type 0
IsFirstFault b f = (e : FileFault SchemaFault) × IsOpening b (Err e) × (f ≡ fault_of e)

-- want of memory is no fault of a schema
abbrev pub fault_with : SchemaFault → OpenFault
fault_with schemas.NoMemory = fault.NoMemory
fault_with f = fault.Schema f

-- ---- answers

-- the bytes are the frozen file of a value in the layout of what was opened, and its content is their content
pub record IsFileOf (b : List ℕ) (o : Opened) : Type 0 where
  pub value : Value
  pub file : File SchemaBytes b (layout_of o.layouts) value
  pub opening : IsOpening b (Ok (layout_of o.layouts, value))
  pub content : o.content.now ≡ content_of b

-- the layout is opened, or memory ran out
abbrev pub OpensAs : Described → Result Opened OpenFault → Type 0
OpensAs d (Ok o) = layout_of o.layouts ≡ d
OpensAs d (Err f) = f ≡ fault.NoMemory
