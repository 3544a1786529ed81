-- What the program answers to words and files: stage after stage, the first refusal, or else the output.
use Rattle.std.specs.Prelude.{◌≡◌, ◌⊎◌, ◌<◌, ◌≤◌, ◌^◌, ℕ, List, [], ◌∷◌, ◌++◌}
use Rattle.std.specs.Prelude.{codes, if◌then◌else◌, None, Some, Option, Result, Ok, Err, option_map, length, ◌&&◌}
use Rattle.std.specs.Prelude.{nat_le}
use Rattle.std.specs.Str.Parse.{digits_value}
use Rattle.std.specs.Prelude.{String, string_bytes}
use Rattle.std.specs.Global.{Global}
use Rattle.std.specs.Fmt.{decimal}
use Rattle.std.specs.Str.{bytes_eq, all_ascii_digits}
use Rattle.fz_base.specs.Files.{Held}
use Rattle.frozen_cli.specs.declared.refusal.Role.TheVariants.{Definition, Value as ValueRole}
use Rattle.frozen_cli.specs.declared.refusal.Role.TheVariants.{File as FileRole}
use Rattle.frozen_cli.specs.declared.refusal.Refusal.{Refusal}
use Rattle.frozen_cli.specs.declared.refusal.Refusal.TheVariants.{Usage, BadPath, BadDefinition, BadValue}
use Rattle.frozen_cli.specs.declared.refusal.Refusal.TheVariants.{BadFile, TypeChanged, RequiredAbsent}
use Rattle.frozen_cli.specs.declared.refusal.Refusal.TheVariants.{Absent, TooManyCells}
use Rattle.frozen_cli.specs.declared.words.Showing.{Showing}
use Rattle.frozen_cli.specs.declared.words.Showing.TheVariants.{Whole, Items}
use Rattle.frozen_cli.specs.Refusal.{status_of, line_of, ids_text, IsUnreadable}
use Rattle.frozen_cli.specs.Stages.{ThenStage, ReadStage}
use Rattle.path_text.specs.declared.fault.PathFault.{PathFault}
use Rattle.path_text.specs.declared.fault.PathFault.TheVariants.{PathSyntax}
use Rattle.path_text.specs.Steps.{WholePath}
use Rattle.path_text.specs.Texts.{PathText, PathFaultAt}
use Rattle.path_text.specs.Fitting.{fitted, scanned}
use Rattle.idl_profile.specs.Types.{TypeTree, Named, root_of}
use Rattle.idl_parse.specs.declared.fault.DefFault.{DefFault}
use Rattle.idl_parse.specs.Parsed.{DefText, FirstFault}
use Rattle.idl_print.specs.Printed.{printed}
use Rattle.type_kinds.specs.KindsOf.{kinds_of}
use Rattle.frozen_model.specs.Values.{Value, cells, cell_limit}
use Rattle.frozen_model.specs.Layouts.{Described}
use Rattle.frozen_model.specs.Files.{File}
use Rattle.typed_tree.specs.Sizes.{capped}
use Rattle.typed_reading.specs.declared.fault.ValueFault.{ValueFault}
use Rattle.typed_reading.specs.declared.fault.ValueFault.TheVariants as value_faults
use Rattle.compact_wire.specs.Canon.{canon}
use Rattle.compact_codec.specs.Decoding.{IsDecoded}
use Rattle.compact_codec.specs.Wire.{wire}
use Rattle.measure_pass.specs.Measuring.{packed_length}
use Rattle.cli_texts.specs.Listing.{listing}
use Rattle.layout_schema.specs.Answers.{SchemaBytes}
use Rattle.file_check.specs.declared.fault.OpenFault.{OpenFault}
use Rattle.file_check.specs.Opening.{IsFirstFault}
use Rattle.evolve.specs.Binding.{Compatible, Unbound, type_changed, required_absent, bind_fault}
use Rattle.evolve.specs.Projection.{proj}
use Rattle.evolve.specs.Parts.{at}
use Rattle.json_line.specs.Json.{line, lines}
use Rattle.frozen_file.specs.FrozenFile.{IsFrozenFile, IsRefrozenFile}
use Rattle.demo_table.specs.declared.figures.DemoFigures.{DemoFigures}
use Rattle.demo_table.specs.Demo.{IsDemo, demo_text}

-- ---- words

-- a command with its words
pub data Form : Type 0 where
  freeze : List ℕ → List ℕ → Form
  -- `get`, which shows the part at a path whole, or `scan`, which shows its items
  show : Showing → List ℕ → List ℕ → List ℕ → Form
  thaw : List ℕ → List ℕ → Form
  check : List ℕ → List ℕ → Form
  layout : List ℕ → Form
  upgrade : List ℕ → Form
  print : List ℕ → Form
  -- of so many rows
  demo : ℕ → Form

-- the number of rows that a word of one to six decimal digits spells, from 1 to 100,000
abbrev pub row_count : List ℕ → Option ℕ
row_count word =
    if all_ascii_digits word && nat_le (length word) 6 && nat_le 1 (digits_value 10 word)
    && nat_le (digits_value 10 word) 100000 then Some (digits_value 10 word) else None

-- the form of a command and a word, of a command and two, and of a command and three
abbrev pub form_of_one : List ℕ → List ℕ → Option Form
form_of_one command word =
    if bytes_eq command (codes "print") then Some (print word)
    else (if bytes_eq command (codes "layout") then Some (layout word)
    else (if bytes_eq command (codes "upgrade") then Some (upgrade word)
    else (if bytes_eq command (codes "demo") then option_map demo (row_count word) else None)))

abbrev pub form_of_two : List ℕ → List ℕ → List ℕ → Option Form
form_of_two command def word =
    if bytes_eq command (codes "freeze") then Some (freeze def word)
    else (if bytes_eq command (codes "thaw") then Some (thaw def word)
    else (if bytes_eq command (codes "check") then Some (check def word) else None))

abbrev pub form_of_three : List ℕ → List ℕ → List ℕ → List ℕ → Option Form
form_of_three command def file path =
    if bytes_eq command (codes "get") then Some (show Whole def file path)
    else (if bytes_eq command (codes "scan") then Some (show Items def file path) else None)

-- the form that the words have
abbrev pub form_of : List (List ℕ) → Option Form
form_of [] = None
form_of (command ∷ []) = None
form_of (command ∷ word ∷ []) = form_of_one command word
form_of (command ∷ def ∷ word ∷ []) = form_of_two command def word
form_of (command ∷ def ∷ file ∷ path ∷ []) = form_of_three command def file path
form_of (command ∷ def ∷ file ∷ path ∷ w ∷ ws) = None

-- the stage of the words: their form
abbrev pub WordsStage : List (List ℕ) → Result Form Refusal → Type 0
WordsStage words (Ok form) = form_of words ≡ Some form
WordsStage words (Err r) = (r ≡ Usage) × (form_of words ≡ None)

-- ---- definitions, values and files

-- the stage of a definition text: its meaning, or its first fault
abbrev pub DefinitionStage : List ℕ → Result (List Named) Refusal → Type 0
DefinitionStage text (Ok d) = DefText text d
DefinitionStage text (Err r) = (fault : DefFault) × FirstFault text fault × (r ≡ BadDefinition fault)

-- the stage of a value: what the bytes mean as the root's type, or why they mean nothing
abbrev pub ValueStage : List Named → List ℕ → Result Value Refusal → Type 0
ValueStage d bytes (Ok v) = IsDecoded (root_of d) bytes (Ok v)
ValueStage d bytes (Err r) =
    (fault : ValueFault) × IsDecoded (root_of d) bytes (Err fault) × (fault ≡ value_faults.NoMemory → ⊥)
    × (r ≡ BadValue fault)

-- the bytes are no value's frozen file
abbrev pub IsNoFile : List ℕ → Type 0
IsNoFile bytes = (l : Described) (v : Value) → File SchemaBytes bytes l v → ⊥

-- the stage of a frozen file: its layout and its value, where the bytes are the frozen file of one; else
-- their first fault
abbrev pub FileStage : List ℕ → Result (Described × Value) Refusal → Type 0
FileStage bytes (Ok f) = File SchemaBytes bytes f.0 f.1
FileStage bytes (Err r) =
    (fault : OpenFault) × IsFirstFault bytes fault × IsNoFile bytes × (r ≡ BadFile fault)

-- the refusal says why a node does not bind, and the ids on the way to it
abbrev pub SaysUnbound : Unbound → Refusal → Type 0
SaysUnbound (type_changed ids) r = (text : String Global) × (string_bytes text ≡ ids_text ids) × (r
    ≡ TypeChanged text)
SaysUnbound (required_absent ids) r =
    (text : String Global) × (string_bytes text ≡ ids_text ids) × (r ≡ RequiredAbsent text)

-- the stage of binding: the value as one of the definition's root, where the definition binds to the file's
-- layout; else the first of its nodes that does not
abbrev pub BindStage : List Named → Described × Value → Result Value Refusal → Type 0
BindStage d f (Ok v) = Compatible f.0 (root_of d) × (v ≡ proj (root_of d) f.1)
BindStage d f (Err r) = (u : Unbound) × (bind_fault f.0 (root_of d) ≡ Some u) × SaysUnbound u r

-- ---- paths and parts

-- the stage of a path's text: the path, or the byte where its first step without a form begins
abbrev pub PathStage : List ℕ → Result WholePath Refusal → Type 0
PathStage text (Ok p) = PathText text p
PathStage text (Err r) = (place : ℕ) × PathFaultAt text place × (r ≡ BadPath (PathSyntax place))

-- where a path leads from a type; a part whose items are shown has some
abbrev pub leads_to : Showing → TypeTree → WholePath → Result TypeTree PathFault
leads_to Whole t p = fitted t p
leads_to Items t p = scanned t p

-- the stage of a path under a definition: the type that it leads to, or its first step that does not fit
abbrev pub FitStage : Showing → List Named → WholePath → Result TypeTree Refusal → Type 0
FitStage showing d p (Ok t) = leads_to showing (root_of d) p ≡ Ok t
FitStage showing d p (Err r) =
    (fault : PathFault) × (leads_to showing (root_of d) p ≡ Err fault) × (r ≡ BadPath fault)

-- the stage of the part of a value at a path, where it has one
abbrev pub PartStage : List Named → WholePath → Value → Result Value Refusal → Type 0
PartStage d p v (Ok part) = at p.steps (root_of d) v ≡ Some part
PartStage d p v (Err r) = (r ≡ Absent) × (at p.steps (root_of d) v ≡ None)

-- the stage of the limit of cells; the value stays
abbrev pub CellsStage : TypeTree → Value → Result Value Refusal → Type 0
CellsStage t v (Ok same) = (same ≡ v) × (cells (kinds_of t) v ≤ cell_limit)
CellsStage t v (Err r) =
    (cell_limit < cells (kinds_of t) v) × (r ≡ TooManyCells (capped (cells (kinds_of t) v)))

-- ---- outputs

-- an output
abbrev pub Writes : List ℕ → Result (List ℕ) Refusal → Type 0
Writes out result = result ≡ Ok out

-- the frozen file of the value in its least layout
abbrev pub Freezes : List Named → Value → Result (List ℕ) Refusal → Type 0
Freezes d v (Ok out) = IsFrozenFile d v out
Freezes d v (Err r) = ⊥

-- the frozen file of the value in the least layout of version 2 of the same kinds as the file's
abbrev pub Upgrades : Described × Value → Result (List ℕ) Refusal → Type 0
Upgrades f (Ok out) = IsRefrozenFile f.0.tree f.1 out
Upgrades f (Err r) = ⊥

-- the line of a demo of so many rows, in which each lookup found its row
abbrev pub Demonstrates : ℕ → Result (List ℕ) Refusal → Type 0
Demonstrates n (Ok out) = (d : DemoFigures) × IsDemo n d × (out ≡ demo_text d)
Demonstrates n (Err r) = ⊥

-- a value of a type in its canonical spelling, within the limit of cells
abbrev pub Thaws : TypeTree → Value → Result (List ℕ) Refusal → Type 0
Thaws t v = ThenStage (CellsStage t v) (λ w. Writes (canon (wire t w)))

-- the line of `check`: the cells of a value, and the bytes of a content
abbrev pub check_line : ℕ → ℕ → List ℕ
check_line cells content =
    codes "ok cells=" ++ (decimal cells ++ (codes " content=" ++ (decimal content ++ 10 ∷ [])))

-- the cells of the value as one of the definition's root, and the bytes of the file's content
abbrev pub Checks : List Named → Described × Value → Value → Result (List ℕ) Refusal → Type 0
Checks d f v =
    Writes (check_line (capped (cells (kinds_of (root_of d)) v)) (packed_length f.0.tree f.1))

-- a value of a type as JSON: on one line, or each of its items on its own
abbrev pub shown : Showing → TypeTree → Value → List ℕ
shown Whole t v = line t v
shown Items t v = lines t v

-- ---- commands

-- the definition in a file
abbrev pub DefinitionIn : Option (List ℕ) → Result (List Named) Refusal → Type 0
DefinitionIn file = ThenStage (ReadStage Definition (2 ^ 20) file) DefinitionStage

-- the value in a file
abbrev pub ValueIn : List Named → Option (List ℕ) → Result Value Refusal → Type 0
ValueIn d file = ThenStage (ReadStage ValueRole (2 ^ 26) file) (ValueStage d)

-- under a definition: the value in a file, and the frozen file of it
abbrev pub FrozenUnder : Held → List ℕ → List Named → Result (List ℕ) Refusal → Type 0
FrozenUnder held value d = ThenStage (ValueIn d (held value)) (λ v. Freezes d v)

-- what `freeze` gives
abbrev pub FreezeGives : Held → List ℕ → List ℕ → Result (List ℕ) Refusal → Type 0
FreezeGives held def value = ThenStage (DefinitionIn (held def)) (λ d. FrozenUnder held value d)

-- a value of a type as JSON, within the limit of cells
abbrev pub ShowsValue : Showing → TypeTree → Value → Result (List ℕ) Refusal → Type 0
ShowsValue showing t v = ThenStage (CellsStage t v) (λ w. Writes (shown showing t w))

-- the part of a value at a path that leads to a type
abbrev pub ShowsAt : Showing → List Named → WholePath → Value → TypeTree → Result (List ℕ) Refusal → Type 0
ShowsAt showing d p v t = ThenStage (PartStage d p v) (ShowsValue showing t)

-- the part of a value at a path
abbrev pub ShowsPart : Showing → List Named → WholePath → Value → Result (List ℕ) Refusal → Type 0
ShowsPart showing d p v = ThenStage (FitStage showing d p) (ShowsAt showing d p v)

-- what is wanted of a file under a definition
pub data Wanted : Type 0 where
  -- the part at a path
  part : Showing → WholePath → Wanted
  -- the whole value in Compact Protocol
  whole : Wanted
  -- how great the value and the content are
  sizes : Wanted

-- what is wanted, of a file and of its value as one of the definition's root
abbrev pub Answers : Wanted → List Named → Described × Value → Value → Result (List ℕ) Refusal → Type 0
Answers (part showing p) d f v = ShowsPart showing d p v
Answers whole d f v = Thaws (root_of d) v
Answers sizes d f v = Checks d f v

-- the same of an opened file under a definition
abbrev pub Under : Wanted → List Named → Described × Value → Result (List ℕ) Refusal → Type 0
Under w d f = ThenStage (BindStage d f) (Answers w d f)

-- of the bytes of a file
abbrev pub OpenedUnder : Wanted → List Named → List ℕ → Result (List ℕ) Refusal → Type 0
OpenedUnder w d bytes = ThenStage (FileStage bytes) (Under w d)

-- of a file
abbrev pub FileUnder : Wanted → List Named → Option (List ℕ) → Result (List ℕ) Refusal → Type 0
FileUnder w d file = ThenStage (ReadStage FileRole (2 ^ 30) file) (OpenedUnder w d)

-- of a file under a definition in a file
abbrev pub WantedIn : Wanted → Held → List ℕ → List ℕ → Result (List ℕ) Refusal → Type 0
WantedIn w held def file = ThenStage (DefinitionIn (held def)) (λ d. FileUnder w d (held file))

-- what `get` and `scan` give
abbrev pub ShowGives : Showing → Held → List ℕ → List ℕ → List ℕ → Result (List ℕ) Refusal → Type 0
ShowGives showing held def file path = ThenStage (PathStage path) (λ p. WantedIn
    (part showing p) held def file)

-- the listing of a file's layout, from the file's bytes
abbrev pub ListingOf : List ℕ → Result (List ℕ) Refusal → Type 0
ListingOf bytes = ThenStage (FileStage bytes) (λ f. Writes (listing f.0))

-- what `layout` gives
abbrev pub LayoutGives : Held → List ℕ → Result (List ℕ) Refusal → Type 0
LayoutGives held file = ThenStage (ReadStage FileRole (2 ^ 30) (held file)) ListingOf

-- the upgraded file of a file, from its bytes
abbrev pub UpgradeOf : List ℕ → Result (List ℕ) Refusal → Type 0
UpgradeOf bytes = ThenStage (FileStage bytes) Upgrades

-- what `upgrade` gives
abbrev pub UpgradeGives : Held → List ℕ → Result (List ℕ) Refusal → Type 0
UpgradeGives held file = ThenStage (ReadStage FileRole (2 ^ 30) (held file)) UpgradeOf

-- what `print` gives
abbrev pub PrintGives : Held → List ℕ → Result (List ℕ) Refusal → Type 0
PrintGives held def = ThenStage (DefinitionIn (held def)) (λ d. Writes (printed d))

-- what a command gives
abbrev pub FormGives : Held → Form → Result (List ℕ) Refusal → Type 0
FormGives held (freeze def value) = FreezeGives held def value
FormGives held (show showing def file path) = ShowGives showing held def file path
FormGives held (thaw def file) = WantedIn whole held def file
FormGives held (check def file) = WantedIn sizes held def file
FormGives held (layout file) = LayoutGives held file
FormGives held (upgrade file) = UpgradeGives held file
FormGives held (print def) = PrintGives held def
FormGives held (demo n) = Demonstrates n

-- the first refusal, or else the output
abbrev pub CommandGives : List (List ℕ) → Held → Result (List ℕ) Refusal → Type 0
CommandGives words held = ThenStage (WordsStage words) (FormGives held)

-- what the program answers: its status, and what it writes to out and to err
abbrev pub Reply : List (List ℕ) → Held → ℕ → List ℕ → List ℕ → Type 0
Reply words held status out err =
    ((status ≡ 0) × (err ≡ []) × CommandGives words held (Ok out))
    ⊎ ((r : Refusal) × (IsUnreadable r → ⊥) × (status ≡ status_of r) × (out ≡ []) × (err ≡ line_of r)
    × CommandGives words held (Err r))
