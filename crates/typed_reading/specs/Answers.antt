-- The answers of looking for faults in bytes that are read as a type, and of checking them, and their causes.
use Rattle.std.specs.Prelude.{◌≡◌, ◌⊎◌, ℕ, ◌<◌, ◌≤◌, nat_lt, cond, List, [], Result, Ok, Err, Some}
use Rattle.compact_wire.specs.declared.fault.WireFault.{WireFault}
use Rattle.compact_wire.specs.Node.{Node}
use Rattle.compact_wire.specs.Spells.{SpellsWire}
use Rattle.wire_scan.specs.Scanned.{IsScanned}
use Rattle.frozen_model.specs.Values.{cell_limit}
use Rattle.idl_profile.specs.Types.{TypeTree}
use Rattle.typed_tree.specs.Sizes.{capped}
use Rattle.typed_reading.specs.declared.counts.Checked.{Checked}
use Rattle.typed_reading.specs.declared.fault.NodeFault.{NodeFault}
use Rattle.typed_reading.specs.declared.fault.NodeFault.TheVariants as node
use Rattle.typed_reading.specs.declared.fault.ValueFault.{ValueFault}
use Rattle.typed_reading.specs.declared.fault.ValueFault.TheVariants as fault
use Rattle.typed_reading.specs.Faults.{faults, here, least}
use Rattle.typed_reading.specs.Counts.{cells_as, checked_as}

-- the fault of a value at a node
abbrev pub fault_at : ℕ → NodeFault → ValueFault
fault_at n node.RepeatedField = fault.RepeatedField n
fault_at n (node.MissingRequired id) = fault.MissingRequired n id
fault_at n node.WrongType = fault.WrongType n
fault_at n node.BadText = fault.BadText n
fault_at n node.RepeatedKey = fault.RepeatedKey n

-- the bytes spell a tree whose least fault is this
abbrev pub IsLeastFault : TypeTree → List ℕ → ℕ → NodeFault → Type 0
IsLeastFault t b n k = (w : Node) × SpellsWire w b × (least (faults w t 0) ≡ Some (here n k))

-- the bytes spell the tree, and no node of it has a fault
pub record IsValue (t : TypeTree) (b : List ℕ) (w : Node) : Type 0 where
  pub spelled : SpellsWire w b
  pub clean : faults w t 0 ≡ []

-- the cause of the answer that the bytes spell nothing, or of want of memory
abbrev pub IsUnread : List ℕ → ValueFault → Type 0
IsUnread b (fault.Wire f) = IsScanned b (Err f)
IsUnread b fault.NoMemory = Unit {0}
IsUnread b _ = ⊥

-- the cause of an answer of looking for faults
abbrev pub IsCaused : TypeTree → List ℕ → Result (Unit {0}) ValueFault → Type 0
IsCaused t b (Ok u) = (w : Node) × IsValue t b w
IsCaused t b (Err (fault.Wire f)) = IsScanned b (Err f)
IsCaused t b (Err (fault.RepeatedField n)) = IsLeastFault t b n node.RepeatedField
IsCaused t b (Err (fault.MissingRequired n id)) = IsLeastFault t b n (node.MissingRequired id)
IsCaused t b (Err (fault.WrongType n)) = IsLeastFault t b n node.WrongType
IsCaused t b (Err (fault.BadText n)) = IsLeastFault t b n node.BadText
IsCaused t b (Err (fault.RepeatedKey n)) = IsLeastFault t b n node.RepeatedKey
IsCaused t b (Err (fault.TooManyCells c)) = ⊥
IsCaused t b (Err fault.NoMemory) = Unit {0}

-- this answer, or that memory ran out
abbrev pub OrMemory : {X : Type 0} → Result X ValueFault → Result X ValueFault → Type 0
OrMemory r answer = (r ≡ answer) ⊎ (r ≡ Err fault.NoMemory)

-- where a cause holds, its answer is given, or memory ran out
pub record IsOnlyCaused (t : TypeTree) (b : List ℕ) (r : Result (Unit {0}) ValueFault) : Type 0 where
  pub wire : (f : WireFault) → IsScanned b (Err f) → OrMemory r (Err (fault.Wire f))
  pub faulty : (n : ℕ) (k : NodeFault) → IsLeastFault t b n k → OrMemory r (Err (fault_at n k))
  pub value : (w : Node) → IsValue t b w → OrMemory r (Ok tt)

-- ---- checking: looking for faults, and counting

-- an answer without what was counted
abbrev pub uncounted : Result Checked ValueFault → Result (Unit {0}) ValueFault
uncounted (Ok c) = Ok tt
uncounted (Err f) = Err f

-- the cause of an answer of checking
abbrev pub IsChecked : TypeTree → List ℕ → Result Checked ValueFault → Type 0
IsChecked t b (Ok c) = (w : Node) × IsValue t b w × (cells_as t w ≤ cell_limit) × (c ≡ checked_as t w)
IsChecked t b (Err (fault.TooManyCells n)) = (w : Node) × IsValue t b w × (cell_limit < cells_as t w) × (n ≡ capped (cells_as t w))
IsChecked t b (Err f) = IsCaused t b (Err f)

-- a count of more cells than the limit is a fault
abbrev pub limited : Checked → Result Checked ValueFault
limited c = cond (nat_lt cell_limit c.cells) (Err (fault.TooManyCells c.cells)) (Ok c)

-- where a cause holds, its answer is given, or memory ran out
pub record IsOnlyChecked (t : TypeTree) (b : List ℕ) (r : Result Checked ValueFault) : Type 0 where
  pub wire : (f : WireFault) → IsScanned b (Err f) → OrMemory r (Err (fault.Wire f))
  pub faulty : (n : ℕ) (k : NodeFault) → IsLeastFault t b n k → OrMemory r (Err (fault_at n k))
  pub too_many : (w : Node) → IsValue t b w → cell_limit < cells_as t w → OrMemory r (Err (fault.TooManyCells (capped (cells_as t w))))
  pub value : (w : Node) → IsValue t b w → cells_as t w ≤ cell_limit → OrMemory r (Ok (checked_as t w))
