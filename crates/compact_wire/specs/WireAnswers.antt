-- The answers of reading a struct, and their causes.
use Rattle.std.specs.Prelude.{◌≡◌, ℕ, ◌⊎◌, List, Result, Ok, Err}
use Rattle.exact_reading.specs.Causes.{IsTruncated, IsMalformed, IsTrailing}
use Rattle.compact_wire.specs.declared.wire.Wire.{Wire}
use Rattle.compact_wire.specs.declared.fault.WireFault.{WireFault}
use Rattle.compact_wire.specs.declared.fault.WireFault.TheVariants.{Truncated, Malformed, Trailing, NoMemory}
use Rattle.compact_wire.specs.Node.{Node}
use Rattle.compact_wire.specs.Spells.{SpellsWire}
use Rattle.compact_wire.specs.View.{view}

-- the cause of an answer
abbrev pub IsWireAnswer : List ℕ → Result Wire WireFault → Type 0
IsWireAnswer bytes (Ok w) = SpellsWire (view w) bytes
IsWireAnswer bytes (Err Truncated) = IsTruncated SpellsWire bytes
IsWireAnswer bytes (Err (Malformed p)) = IsMalformed SpellsWire bytes p
IsWireAnswer bytes (Err (Trailing p)) = IsTrailing SpellsWire bytes p
IsWireAnswer bytes (Err NoMemory) = Unit {0}

-- the fault, or that memory ran out
abbrev pub FaultOrMemory : Result Wire WireFault → WireFault → Type 0
FaultOrMemory r fault = (r ≡ Err fault) ⊎ (r ≡ Err NoMemory)

-- the tree, or that memory ran out
abbrev pub TreeOrMemory : Result Wire WireFault → Node → Type 0
TreeOrMemory (Ok x) w = view x ≡ w
TreeOrMemory (Err fault) w = fault ≡ NoMemory

-- where a cause holds, its answer is given, or memory ran out
pub record IsOnlyWireAnswer (bytes : List ℕ) (r : Result Wire WireFault) : Type 0 where
  pub spelled : (w : Node) → SpellsWire w bytes → TreeOrMemory r w
  pub truncated : IsTruncated SpellsWire bytes → FaultOrMemory r Truncated
  pub malformed : (p : ℕ) → IsMalformed SpellsWire bytes p → FaultOrMemory r (Malformed p)
  pub trailing : (p : ℕ) → IsTrailing SpellsWire bytes p → FaultOrMemory r (Trailing p)
