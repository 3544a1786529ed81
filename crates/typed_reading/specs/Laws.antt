-- The laws of typed reading.
use Rattle.std.specs.Prelude.{◌≡◌, ℕ, ◌<◌, ◌≤◌, ◌⊎◌, List}
use Rattle.std.specs.Str.{IsUtf8}
use Rattle.compact_wire.specs.Node.{Node}
use Rattle.compact_wire.specs.Spells.{SpellsWire}
use Rattle.idl_profile.specs.Types.{TypeTree}
use Rattle.frozen_model.specs.Values.{Value, Of}
use Rattle.type_kinds.specs.KindsOf.{kinds_of}
use Rattle.type_kinds.specs.Accepted.{IsAccepted, HasShortTexts}
use Rattle.typed_reading.specs.declared.fault.NodeFault.{NodeFault}
use Rattle.typed_reading.specs.Answers.{IsLeastFault, IsValue}
use Rattle.typed_reading.specs.Faults.{Faulty, number}
use Rattle.typed_reading.specs.Meaning.{Typed}

-- what a spelled tree is read as is a value of the type, where the type is one of an accepted definition
abbrev pub TypedIsValue : Type 0
TypedIsValue = (t : TypeTree) (w : Node) (bytes : List ℕ) (v : Value) → IsAccepted IsUtf8 t → HasShortTexts t
    → SpellsWire w bytes → Typed t w v → Of (kinds_of t) v

-- node n has the fault k, and no lesser node has one, and node n none of a lesser number
pub record IsLeastFaulty (t : TypeTree) (w : Node) (n : ℕ) (k : NodeFault) : Type 0 where
  pub faulty : Faulty t w n k
  pub least : (m : ℕ) (j : NodeFault) → Faulty t w m j → (n < m) ⊎ ((n ≡ m) × (number k ≤ number j))

-- What is answered of bytes that spell a tree: a fault is that of its least faulty node, and there the least; where none
-- is answered, no node is faulty.
pub record IsToldByFaulty (t : TypeTree) (bytes : List ℕ) (w : Node) : Type 0 where
  pub some : (n : ℕ) (k : NodeFault) → IsLeastFault t bytes n k → IsLeastFaulty t w n k
  pub none : (v : Node) → IsValue t bytes v → (m : ℕ) (j : NodeFault) → Faulty t w m j → ⊥
