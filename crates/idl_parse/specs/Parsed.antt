-- Which texts mean a definition, and the first fault of every other text.
use Rattle.std.specs.Prelude.{◌≡◌, ℕ, List, ◌⊎◌, Result, Ok, Err, string_bytes}
use Rattle.std.specs.Str.{IsUtf8}
use Rattle.idl_tokens.specs.Tokens.{tokens}
use Rattle.idl_grammar.specs.declared.fault.LineFault.{LineFault}
use Rattle.idl_profile.specs.Types.{Named}
use Rattle.idl_profile.specs.Meaning.{MeantNamed}
use Rattle.idl_profile.specs.DefText.{FaultAt, NoStruct}
use Rattle.idl_fields.specs.View.{types_in, nameds_of}
use Rattle.idl_parse.specs.declared.fault.DefFault.{DefFault}
use Rattle.idl_parse.specs.declared.fault.DefFault.TheVariants.{NotUtf8, NoRoot, NoMemory}
use Rattle.idl_parse.specs.declared.definition.Definition.{Definition}
use Rattle.idl_parse.specs.Faults.{fault_of}
pub use Rattle.idl_parse.specs.Meant.{nameds, definition_in, DefText}

-- the first fault of a text: before all else that it is not UTF-8; at last that it has no struct
pub data FirstFault (text : List ℕ) : DefFault → Type 0 where
  not_utf8 : (IsUtf8 text → ⊥) → FirstFault text NotUtf8
  faulty : (s : LineFault) → IsUtf8 text → FaultAt (tokens text) s → FirstFault text (fault_of s)
  no_root : IsUtf8 text → NoStruct (tokens text) → FirstFault text NoRoot

-- the enums and structs of a definition as they are meant
abbrev pub meant_of : Definition → List MeantNamed
meant_of d = nameds_of (string_bytes d.text) (types_in d.types) d.named.items

-- the enums and structs of a definition
abbrev pub definition_of : Definition → List Named
definition_of d = definition_in (meant_of d)

-- why this is the answer for a text
abbrev pub IsParsed : List ℕ → Result Definition DefFault → Type 0
IsParsed text (Ok d) = DefText text (definition_of d)
IsParsed text (Err e) = (e ≡ NoMemory) ⊎ FirstFault text e
