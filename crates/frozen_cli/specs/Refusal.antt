-- Why a command is refused: the exit status and the line of each refusal.
use Rattle.std.specs.Prelude.{◌⊎◌, ℕ, ℤ, Bool, true, false, List, [], ◌∷◌, ◌++◌, codes, ⊤, string_bytes}
use Rattle.std.specs.Fmt.{decimal, signed_decimal}
use Rattle.idl_parse.specs.declared.fault.DefFault.{DefFault}
use Rattle.idl_parse.specs.declared.fault.DefFault.TheVariants as faults
use Rattle.compact_wire.specs.declared.fault.WireFault.{WireFault}
use Rattle.compact_wire.specs.declared.fault.WireFault.TheVariants as wire
use Rattle.typed_reading.specs.declared.fault.ValueFault.{ValueFault}
use Rattle.typed_reading.specs.declared.fault.ValueFault.TheVariants as value
use Rattle.layout_schema.specs.declared.fault.SchemaFault.{SchemaFault}
use Rattle.layout_schema.specs.declared.fault.SchemaFault.TheVariants as schemas
use Rattle.file_check.specs.declared.fault.OpenFault.{OpenFault}
use Rattle.file_check.specs.declared.fault.OpenFault.TheVariants as opening
use Rattle.path_text.specs.declared.fault.PathFault.{PathFault}
use Rattle.path_text.specs.declared.fault.PathFault.TheVariants as paths
use Rattle.frozen_cli.specs.declared.refusal.Role.{Role}
use Rattle.frozen_cli.specs.declared.refusal.Role.TheVariants.{Definition, Value, File}
use Rattle.frozen_cli.specs.declared.refusal.Refusal.{Refusal}
use Rattle.frozen_cli.specs.declared.refusal.Refusal.TheVariants.{Usage, Missing, Unreadable, TooLarge}
use Rattle.frozen_cli.specs.declared.refusal.Refusal.TheVariants.{BadPath, BadDefinition, BadValue, BadFile}
use Rattle.frozen_cli.specs.declared.refusal.Refusal.TheVariants.{TypeChanged, RequiredAbsent, Absent}
use Rattle.frozen_cli.specs.declared.refusal.Refusal.TheVariants.{TooManyCells}
use Rattle.frozen_cli.specs.declared.refusal.Failure.{Failure}
use Rattle.frozen_cli.specs.declared.refusal.Failure.TheVariants.{Refused, NoMemory}

-- what a named file is called on err
abbrev pub role_name : Role → List ℕ
role_name Definition = codes "definition"
role_name Value = codes "value"
role_name File = codes "file"

-- the number of a definition's fault, and its line where it has one
abbrev pub fault_text : DefFault → List ℕ
fault_text faults.NotUtf8 = codes "1"
fault_text (faults.Syntax line) = codes "2 line " ++ decimal line
fault_text (faults.Unsupported line) = codes "3 line " ++ decimal line
fault_text (faults.UnknownType line) = codes "4 line " ++ decimal line
fault_text (faults.RepeatedName line) = codes "5 line " ++ decimal line
fault_text (faults.RepeatedId line) = codes "6 line " ++ decimal line
fault_text (faults.BadId line) = codes "7 line " ++ decimal line
fault_text (faults.BadDefault line) = codes "8 line " ++ decimal line
fault_text (faults.KeyType line) = codes "9 line " ++ decimal line
fault_text (faults.TooDeep line) = codes "10 line " ++ decimal line
fault_text (faults.TooManyNodes line) = codes "11 line " ++ decimal line
fault_text (faults.StructTooWide line) = codes "12 line " ++ decimal line
fault_text faults.NoRoot = codes "13"
fault_text faults.NoMemory = []

-- why bytes spell no struct: the number, and the place where it has one
abbrev pub wire_text : WireFault → List ℕ
wire_text wire.Truncated = codes "1"
wire_text (wire.Malformed place) = codes "2 at " ++ decimal place
wire_text (wire.Trailing place) = codes "3 at " ++ decimal place
wire_text wire.NoMemory = []

-- the number of a value's fault, and its node, its field or the cells
abbrev pub value_text : ValueFault → List ℕ
value_text (value.Wire fault) = codes "wire " ++ wire_text fault
value_text (value.RepeatedField node) = codes "1 node " ++ decimal node
value_text (value.MissingRequired node id) =
    codes "2 node " ++ (decimal node ++ (codes " field " ++ signed_decimal id))
value_text (value.WrongType node) = codes "3 node " ++ decimal node
value_text (value.BadText node) = codes "4 node " ++ decimal node
value_text (value.RepeatedKey node) = codes "5 node " ++ decimal node
value_text (value.TooManyCells cells) = codes "6 cells " ++ decimal cells
value_text value.NoMemory = []

-- the number of a schema's fault, and the spelling's, its node, its version or its layout
abbrev pub schema_text : SchemaFault → List ℕ
schema_text (schemas.Spelling fault) = codes "1 wire " ++ wire_text fault
schema_text (schemas.Fields node) = codes "2 node " ++ decimal node
schema_text (schemas.Version version) = codes "3 version " ++ signed_decimal version
schema_text (schemas.Shape layout) = codes "4 layout " ++ signed_decimal layout
schema_text schemas.NoMemory = []

-- the number of a file's fault, and what it tells
abbrev pub open_text : OpenFault → List ℕ
open_text opening.NotFrozen = codes "1"
open_text (opening.Schema fault) = codes "2 schema " ++ schema_text fault
open_text opening.Short = codes "3"
open_text (opening.Long bytes) = codes "4 bytes " ++ decimal bytes
open_text (opening.Distance bit found wanted) =
    codes "5 bit " ++ (decimal bit ++ (codes " found " ++ (decimal found
    ++ (codes " wanted " ++ decimal wanted))))
open_text (opening.Dirty bit) = codes "6 bit " ++ decimal bit
open_text (opening.BadText byte) = codes "7 byte " ++ decimal byte
open_text (opening.KeyOrder bit) = codes "8 bit " ++ decimal bit
open_text opening.TooManyCells = codes "9"
open_text (opening.Range bit) = codes "10 bit " ++ decimal bit
open_text opening.NoMemory = []

-- the number of a path's fault, and the byte where its step begins
abbrev pub path_text : PathFault → List ℕ
path_text (paths.PathSyntax place) = codes "1 at " ++ decimal place
path_text (paths.NoField place) = codes "2 at " ++ decimal place
path_text (paths.NotAStep place) = codes "3 at " ++ decimal place
path_text (paths.BadKey place) = codes "4 at " ++ decimal place
path_text paths.NoMemory = []

-- numbers in decimal digits, with a dot between two; one more where something stands before
abbrev pub dot_if : Bool → List ℕ
dot_if false = []
dot_if true = 46 ∷ []

abbrev pub dotted : Bool → List ℤ → List ℕ
dotted later [] = []
dotted later (z ∷ zs) = dot_if later ++ (signed_decimal z ++ dotted true zs)

abbrev pub ids_text : List ℤ → List ℕ
ids_text ids = dotted false ids

-- the exit status
abbrev pub status_of : Refusal → ℕ
status_of Absent = 1
status_of Usage = 2
status_of (BadPath _) = 2
status_of (TooLarge _) = 3
status_of (BadDefinition _) = 3
status_of (BadValue _) = 3
status_of (BadFile _) = 3
status_of (TypeChanged _) = 3
status_of (RequiredAbsent _) = 3
status_of (TooManyCells _) = 3
status_of (Missing _) = 4
status_of (Unreadable _) = 4

-- the text of the line, without its newline
abbrev pub refusal_text : Refusal → List ℕ
refusal_text Usage = codes "usage: frozen COMMAND WORDS"
refusal_text (Missing role) = role_name role ++ codes " missing"
refusal_text (Unreadable role) = role_name role ++ codes " unreadable"
refusal_text (TooLarge role) = role_name role ++ codes " too large"
refusal_text (BadDefinition fault) = codes "definition " ++ fault_text fault
refusal_text (BadValue fault) = codes "value " ++ value_text fault
refusal_text (BadFile fault) = codes "file " ++ open_text fault
refusal_text (BadPath fault) = codes "path " ++ path_text fault
refusal_text (TypeChanged ids) = codes "bind 1 at " ++ string_bytes ids
refusal_text (RequiredAbsent ids) = codes "bind 2 at " ++ string_bytes ids
refusal_text Absent = codes "absent"
refusal_text (TooManyCells cells) = codes "result 1 cells " ++ decimal cells

-- the line on err
abbrev pub line_of : Refusal → List ℕ
line_of r = refusal_text r ++ 10 ∷ []

-- the line on err after a failed write to out
abbrev pub write_failed : List ℕ
write_failed = codes "write failed" ++ 10 ∷ []

-- it says that a file is missing
abbrev pub IsMissing : Refusal → Type 0
IsMissing (Missing _) = ⊤
IsMissing Usage = ⊥
IsMissing (Unreadable _) = ⊥
IsMissing (TooLarge _) = ⊥
IsMissing (BadDefinition _) = ⊥
IsMissing (BadValue _) = ⊥
IsMissing (BadFile _) = ⊥
IsMissing (BadPath _) = ⊥
IsMissing (TypeChanged _) = ⊥
IsMissing (RequiredAbsent _) = ⊥
IsMissing Absent = ⊥
IsMissing (TooManyCells _) = ⊥

-- it says that a file is unreadable
abbrev pub IsUnreadable : Refusal → Type 0
IsUnreadable (Unreadable _) = ⊤
IsUnreadable Usage = ⊥
IsUnreadable (Missing _) = ⊥
IsUnreadable (TooLarge _) = ⊥
IsUnreadable (BadDefinition _) = ⊥
IsUnreadable (BadValue _) = ⊥
IsUnreadable (BadFile _) = ⊥
IsUnreadable (BadPath _) = ⊥
IsUnreadable (TypeChanged _) = ⊥
IsUnreadable (RequiredAbsent _) = ⊥
IsUnreadable Absent = ⊥
IsUnreadable (TooManyCells _) = ⊥

-- it speaks of reading a file
abbrev pub IsReading : Refusal → Type 0
IsReading r = IsMissing r ⊎ IsUnreadable r

-- the failure is a refusal with this property
abbrev pub IsRefused : (Refusal → Type 0) → Failure → Type 0
IsRefused P (Refused r) = P r
IsRefused P NoMemory = ⊥
