-- The laws of the roots of accepted definitions.
use Rattle.std.specs.Prelude.{◌≡◌, ℕ, ◌<◌, ◌^◌, List, length}
use Rattle.std.specs.Str.{IsUtf8}
use Rattle.idl_profile.specs.declared.kinds.TypeKind.TheVariants as kinds
use Rattle.idl_profile.specs.Types.{Named, root_of, kind_of}
use Rattle.idl_parse.specs.Parsed.{DefText}
use Rattle.frozen_model.specs.Trees.{IsStruct, IsKindTree}
use Rattle.frozen_model.specs.Values.{Of}
use Rattle.type_kinds.specs.KindsOf.{kinds_of}
use Rattle.type_kinds.specs.Defaults.{default_of}
use Rattle.type_kinds.specs.Accepted.{IsAccepted, IsWithin, HasShortTexts}
use Rattle.type_kinds.specs.Laws.{Any}

-- the root of each definition that a text means has a kind tree within all limits, and is a struct
abbrev pub RootsHaveKinds : Type 0
RootsHaveKinds = (text : List ℕ) (d : List Named) → DefText text d
    → IsKindTree (kinds_of (root_of d)) × IsStruct (kinds_of (root_of d))

-- its default is a value of its kinds, where the text has fewer than 2 ^ 31 bytes
abbrev pub RootsHaveDefaults : Type 0
RootsHaveDefaults = (text : List ℕ) (d : List Named) → DefText text d → length text < 2 ^ 31
    → Of (kinds_of (root_of d)) (default_of (root_of d))

-- the root of each definition that a text means is a struct, within the limits of definitions
abbrev pub RootsAreWithin : Type 0
RootsAreWithin = (text : List ℕ) (d : List Named) → DefText text d
    → (kind_of (root_of d) ≡ kinds.Struct) × IsWithin Any (root_of d)

-- its type is accepted, and each text that is written in it as a default is UTF-8
abbrev pub RootsAreAccepted : Type 0
RootsAreAccepted = (text : List ℕ) (d : List Named) → DefText text d → IsAccepted IsUtf8 (root_of d)

-- and has fewer than 2 ^ 31 bytes, where the text of the definition has
abbrev pub RootsHaveShortTexts : Type 0
RootsHaveShortTexts = (text : List ℕ) (d : List Named) → DefText text d → length text < 2 ^ 31
    → HasShortTexts (root_of d)
