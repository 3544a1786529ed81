-- The answers of reading a struct of Binary Protocol, and their causes.
use Rattle.std.specs.Prelude.{◌≡◌, ℕ, ◌⊎◌, List, Result, Ok, Err}
use Rattle.std.specs.Global.{Vec}
use Rattle.exact_reading.specs.Causes.{IsTruncated, IsMalformed, IsTrailing}
use Rattle.compact_wire.specs.declared.wire.Wire.{Wire}
use Rattle.compact_wire.specs.declared.fault.WireFault.{WireFault}
use Rattle.compact_wire.specs.declared.fault.WireFault.TheVariants.{Truncated, Malformed, Trailing, NoMemory}
use Rattle.compact_wire.specs.Node.{Node}
use Rattle.compact_wire.specs.Canon.{canon}
use Rattle.compact_wire.specs.View.{view}
use Rattle.binary_wire.specs.BinaryGrammar.{BinarySpells}

-- the cause of the fault that the bytes spell nothing
abbrev pub IsUnspelled : List ℕ → WireFault → Type 0
IsUnspelled bytes Truncated = IsTruncated BinarySpells bytes
IsUnspelled bytes (Malformed p) = IsMalformed BinarySpells bytes p
IsUnspelled bytes (Trailing p) = IsTrailing BinarySpells bytes p
IsUnspelled bytes NoMemory = ⊥

-- that, or want of memory, which has no cause in the bytes
abbrev pub IsFault : List ℕ → WireFault → Type 0
IsFault bytes NoMemory = Unit {0}
IsFault bytes fault = IsUnspelled bytes fault

-- this answer, or that memory ran out
abbrev pub OrMemory : {X : Type 0} → Result X WireFault → Result X WireFault → Type 0
OrMemory r answer = (r ≡ answer) ⊎ (r ≡ Err NoMemory)

-- ---- transcoding

-- the cause of an answer: the canonical spelling in Compact Protocol of the tree that the bytes spell
abbrev pub IsTranscoded : List ℕ → Result (List ℕ) WireFault → Type 0
IsTranscoded bytes (Ok out) = (w : Node) × BinarySpells w bytes × (out ≡ canon w)
IsTranscoded bytes (Err fault) = IsFault bytes fault

-- where a cause holds, its answer is given, or memory ran out
pub record IsOnlyTranscoded (bytes : List ℕ) (r : Result (List ℕ) WireFault) : Type 0 where
  pub spelled : (w : Node) → BinarySpells w bytes → OrMemory r (Ok (canon w))
  pub unspelled : (fault : WireFault) → IsUnspelled bytes fault → OrMemory r (Err fault)

-- ---- reading

-- the cause of an answer
abbrev pub IsBinaryAnswer : List ℕ → Result Node WireFault → Type 0
IsBinaryAnswer bytes (Ok w) = BinarySpells w bytes
IsBinaryAnswer bytes (Err fault) = IsFault bytes fault

-- where a cause holds, its answer is given, or memory ran out
pub record IsOnlyBinaryAnswer (bytes : List ℕ) (r : Result Node WireFault) : Type 0 where
  pub spelled : (w : Node) → BinarySpells w bytes → OrMemory r (Ok w)
  pub unspelled : (fault : WireFault) → IsUnspelled bytes fault → OrMemory r (Err fault)

-- the answer with the tree that a `Wire` stands for
abbrev pub as_node : Result Wire WireFault → Result Node WireFault
as_node (Ok wire) = Ok (view wire)
as_node (Err fault) = Err fault

-- the answer with the bytes that a `Vec` holds
abbrev pub as_bytes : Result (Vec ℕ) WireFault → Result (List ℕ) WireFault
as_bytes (Ok out) = Ok out.items
as_bytes (Err fault) = Err fault
