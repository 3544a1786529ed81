-- The answers of decoding bytes of Binary Protocol, and their causes.
use Rattle.std.specs.Prelude.{◌≡◌, ℕ, ◌<◌, ◌≤◌, List, [], Result, Ok, Err, Some}
use Rattle.compact_wire.specs.declared.fault.WireFault.{WireFault}
use Rattle.compact_wire.specs.Node.{Node}
use Rattle.binary_wire.specs.BinaryAnswers.{IsUnspelled}
use Rattle.binary_wire.specs.BinaryGrammar.{BinarySpells}
use Rattle.frozen_model.specs.Values.{Value, cells, cell_limit}
use Rattle.idl_profile.specs.Types.{TypeTree}
use Rattle.type_kinds.specs.KindsOf.{kinds_of}
use Rattle.typed_tree.specs.Sizes.{capped}
use Rattle.typed_reading.specs.declared.fault.NodeFault.{NodeFault}
use Rattle.typed_reading.specs.declared.fault.NodeFault.TheVariants as node
use Rattle.typed_reading.specs.declared.fault.ValueFault.{ValueFault}
use Rattle.typed_reading.specs.declared.fault.ValueFault.TheVariants as fault
use Rattle.typed_reading.specs.Answers.{fault_at, OrMemory}
use Rattle.typed_reading.specs.Counts.{cells_as}
use Rattle.typed_reading.specs.Faults.{faults, here, least}
use Rattle.typed_reading.specs.Meaning.{Typed}

-- the bytes spell a tree whose least fault is this
abbrev pub IsLeastInBinary : TypeTree → List ℕ → ℕ → NodeFault → Type 0
IsLeastInBinary t b n k = (w : Node) × BinarySpells w b × (least (faults w t 0) ≡ Some (here n k))

-- the bytes spell the tree, and no node of it has a fault
pub record IsBinaryValue (t : TypeTree) (b : List ℕ) (w : Node) : Type 0 where
  pub spelled : BinarySpells w b
  pub clean : faults w t 0 ≡ []

-- What bytes are decoded to: the value of the tree that they spell, where no node of it is faulty and its cells are
-- within the limit; else what is wrong with them.
abbrev pub IsBinaryDecoded : TypeTree → List ℕ → Result Value ValueFault → Type 0
IsBinaryDecoded t b (Ok v) = (w : Node) × BinarySpells w b × Typed t w v × (cells (kinds_of t) v ≤ cell_limit)
IsBinaryDecoded t b (Err (fault.Wire f)) = IsUnspelled b f
IsBinaryDecoded t b (Err (fault.RepeatedField n)) = IsLeastInBinary t b n node.RepeatedField
IsBinaryDecoded t b (Err (fault.MissingRequired n id)) = IsLeastInBinary t b n (node.MissingRequired id)
IsBinaryDecoded t b (Err (fault.WrongType n)) = IsLeastInBinary t b n node.WrongType
IsBinaryDecoded t b (Err (fault.BadText n)) = IsLeastInBinary t b n node.BadText
IsBinaryDecoded t b (Err (fault.RepeatedKey n)) = IsLeastInBinary t b n node.RepeatedKey
IsBinaryDecoded t b (Err (fault.TooManyCells n)) =
    (w : Node) × IsBinaryValue t b w × (cell_limit < cells_as t w) × (n ≡ capped (cells_as t w))
IsBinaryDecoded t b (Err fault.NoMemory) = Unit {0}

-- where a cause holds, its answer is given, or memory ran out
pub record IsOnlyBinaryDecoded (t : TypeTree) (b : List ℕ) (r : Result Value ValueFault) : Type 0 where
  pub wire : (f : WireFault) → IsUnspelled b f → OrMemory r (Err (fault.Wire f))
  pub faulty : (n : ℕ) (k : NodeFault) → IsLeastInBinary t b n k → OrMemory r (Err (fault_at n k))
  pub too_many : (w : Node) → IsBinaryValue t b w → cell_limit < cells_as t w
      → OrMemory r (Err (fault.TooManyCells (capped (cells_as t w))))
  pub value : (w : Node) (v : Value) → BinarySpells w b → Typed t w v → cells (kinds_of t) v ≤ cell_limit
      → OrMemory r (Ok v)
