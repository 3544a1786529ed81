-- The laws of kinds and defaults.
use Rattle.std.specs.Prelude.{ℕ, List}
use Rattle.std.specs.Str.{IsUtf8}
use Rattle.idl_profile.specs.Types.{TypeTree}
use Rattle.frozen_model.specs.Trees.{IsKindTree}
use Rattle.frozen_model.specs.Values.{Of}
use Rattle.type_kinds.specs.KindsOf.{kinds_of}
use Rattle.type_kinds.specs.Defaults.{default_of}
use Rattle.type_kinds.specs.Accepted.{IsAccepted, IsWithin, HasShortTexts}

-- any literal
abbrev pub Any : List ℕ → Type 0
Any x = Unit {0}

-- the kind tree of a type within the limits of definitions is within the limits of kind trees
abbrev pub TypesHaveKinds : Type 0
TypesHaveKinds = (t : TypeTree) → IsWithin Any t → IsKindTree (kinds_of t)

-- the default of an accepted type is a value of its kinds, where each text is short
abbrev pub DefaultsAreValues : Type 0
DefaultsAreValues = (t : TypeTree) → IsAccepted IsUtf8 t → HasShortTexts t → Of (kinds_of t) (default_of t)
