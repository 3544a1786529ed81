-- The laws of encodings in Binary Protocol.
use Rattle.std.specs.Prelude.{◌≡◌, ◌≤◌, Ok}
use Rattle.idl_profile.specs.declared.kinds.TypeKind.TheVariants as kinds
use Rattle.idl_profile.specs.Types.{TypeTree, kind_of}
use Rattle.frozen_model.specs.Values.{Value, Of, cells, cell_limit}
use Rattle.type_kinds.specs.KindsOf.{kinds_of}
use Rattle.type_kinds.specs.Accepted.{IsWithin}
use Rattle.type_kinds.specs.Laws.{Any}
use Rattle.compact_codec.specs.Wire.{wire}
use Rattle.binary_wire.specs.BinaryGrammar.{BinarySpells}
use Rattle.binary_codec.specs.BinaryDecoding.{IsBinaryDecoded}
use Rattle.binary_codec.specs.BinaryEncoding.{binary}

-- the encoding of a value of a struct within the limits of definitions spells the value's wire tree
abbrev pub BinaryIsSpelled : Type 0
BinaryIsSpelled = (t : TypeTree) (v : Value) → IsWithin Any t → kind_of t ≡ kinds.Struct → Of (kinds_of t) v
    → BinarySpells (wire t v) (binary t v)

-- it is decoded to this value, where its cells are within the limit, and to no other
abbrev pub BinaryDecodes : Type 0
BinaryDecodes = (t : TypeTree) (v : Value) → IsWithin Any t → kind_of t ≡ kinds.Struct → Of (kinds_of t) v
    → cells (kinds_of t) v ≤ cell_limit
    → IsBinaryDecoded t (binary t v) (Ok v) × ((u : Value) → IsBinaryDecoded t (binary t v) (Ok u) → u ≡ v)
