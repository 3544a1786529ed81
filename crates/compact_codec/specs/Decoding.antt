-- The answers of decoding, and their causes.
use Rattle.std.specs.Prelude.{ℕ, ◌<◌, ◌≤◌, List, Result, Ok, Err}
use Rattle.compact_wire.specs.declared.fault.WireFault.{WireFault}
use Rattle.compact_wire.specs.Node.{Node}
use Rattle.compact_wire.specs.Spells.{SpellsWire}
use Rattle.wire_scan.specs.Scanned.{IsScanned}
use Rattle.frozen_model.specs.Values.{Value, cells, cell_limit}
use Rattle.idl_profile.specs.Types.{TypeTree}
use Rattle.type_kinds.specs.KindsOf.{kinds_of}
use Rattle.typed_tree.specs.declared.tree.Tree.{Tree}
use Rattle.typed_tree.specs.References.{value_of_tree}
use Rattle.typed_tree.specs.Sizes.{capped}
use Rattle.typed_reading.specs.declared.fault.NodeFault.{NodeFault}
use Rattle.typed_reading.specs.declared.fault.ValueFault.{ValueFault}
use Rattle.typed_reading.specs.declared.fault.ValueFault.TheVariants as fault
use Rattle.typed_reading.specs.Answers.{fault_at, IsLeastFault, IsValue, IsChecked, OrMemory}
use Rattle.typed_reading.specs.Counts.{cells_as}
use Rattle.typed_reading.specs.Meaning.{Typed}

-- What bytes are decoded to: the value of the tree that they spell, where no node of it is faulty and its
-- cells are within the limit; else the fault of checking them.
abbrev pub IsDecoded : TypeTree → List ℕ → Result Value ValueFault → Type 0
IsDecoded t b (Ok v) = (w : Node) × SpellsWire w b × Typed t w v × (cells (kinds_of t) v ≤ cell_limit)
IsDecoded t b (Err f) = IsChecked t b (Err f)

-- where a cause holds, its answer is given, or memory ran out
pub record IsOnlyDecoded (t : TypeTree) (b : List ℕ) (r : Result Value ValueFault) : Type 0 where
  pub wire : (f : WireFault) → IsScanned b (Err f) → OrMemory r (Err (fault.Wire f))
  pub faulty : (n : ℕ) (k : NodeFault) → IsLeastFault t b n k → OrMemory r (Err (fault_at n k))
  pub too_many : (w : Node) → IsValue t b w → cell_limit < cells_as t w
      → OrMemory r (Err (fault.TooManyCells (capped (cells_as t w))))
  pub value : (w : Node) (v : Value) → SpellsWire w b → Typed t w v → cells (kinds_of t) v ≤ cell_limit
      → OrMemory r (Ok v)

-- the answer with the value of the tree
abbrev pub as_value : Result Tree ValueFault → Result Value ValueFault
as_value (Ok tree) = Ok (value_of_tree tree)
as_value (Err f) = Err f
