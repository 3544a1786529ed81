-- The laws of encodings.
use Rattle.std.specs.Prelude.{◌≡◌, ◌≤◌, Ok}
use Rattle.idl_profile.specs.declared.kinds.TypeKind.TheVariants as kinds
use Rattle.idl_profile.specs.Types.{TypeTree, kind_of}
use Rattle.frozen_model.specs.Values.{Value, Of, cells, cell_limit}
use Rattle.type_kinds.specs.KindsOf.{kinds_of}
use Rattle.type_kinds.specs.Accepted.{IsWithin}
use Rattle.type_kinds.specs.Laws.{Any}
use Rattle.compact_wire.specs.Node.{Node}
use Rattle.compact_wire.specs.Spells.{SpellsWire}
use Rattle.compact_wire.specs.Canon.{canon, FitsWire}
use Rattle.typed_reading.specs.Meaning.{Typed}
use Rattle.compact_codec.specs.Decoding.{IsDecoded}
use Rattle.compact_codec.specs.Wire.{wire}

-- the wire tree of a value of a struct within the limits of definitions has a spelling
abbrev pub EncodingIsSpelled : Type 0
EncodingIsSpelled = (t : TypeTree) (v : Value) → IsWithin Any t → kind_of t ≡ kinds.Struct → Of (kinds_of t) v
    → FitsWire (wire t v)

-- and no node of it is faulty, and the value is its value
abbrev pub EncodingIsTyped : Type 0
EncodingIsTyped = (t : TypeTree) (v : Value) → IsWithin Any t → kind_of t ≡ kinds.Struct → Of (kinds_of t) v
    → Typed t (wire t v) v

-- so of all that reads the canonical spelling as the type, there is one value: the one that was written
abbrev pub EncodingIsReadBack : Type 0
EncodingIsReadBack = (t : TypeTree) (v u : Value) (w : Node) → IsWithin Any t → kind_of t ≡ kinds.Struct
    → Of (kinds_of t) v → SpellsWire w (canon (wire t v)) → Typed t w u → u ≡ v

-- it is decoded to this value, where its cells are within the limit, and to no other
abbrev pub EncodingDecodes : Type 0
EncodingDecodes = (t : TypeTree) (v : Value) → IsWithin Any t → kind_of t ≡ kinds.Struct → Of (kinds_of t) v
    → cells (kinds_of t) v ≤ cell_limit
    → IsDecoded t (canon (wire t v)) (Ok v) × ((u : Value) → IsDecoded t (canon (wire t v)) (Ok u) → u ≡ v)
