-- The answers of looking for faults in a text that is read as JSON of a type, and their causes.
use Rattle.std.specs.Prelude.{◌≡◌, ◌⊎◌, ℕ, List, [], Result, Ok, Err, Some}
use Rattle.std.specs.Str.{IsUtf8}
use Rattle.serde_json.specs.Data.{Data}
use Rattle.serde_json.specs.Read.{read}
use Rattle.idl_profile.specs.Types.{TypeTree}
use Rattle.typed_reading.specs.declared.fault.NodeFault.{NodeFault}
use Rattle.typed_reading.specs.declared.fault.NodeFault.TheVariants as node
use Rattle.typed_reading.specs.Faults.{here, least}
use Rattle.json_value.specs.declared.fault.JsonFault.{JsonFault}
use Rattle.json_value.specs.declared.fault.JsonFault.TheVariants as fault
use Rattle.json_value.specs.Faults.{faults}

-- the text is read as this JSON value
pub record IsRead (text : List ℕ) (j : Data) : Type 0 where
  pub utf8 : IsUtf8 text
  pub is : read text ≡ Some j

-- the text is read as a JSON value whose least fault is this
abbrev pub IsLeastFault : TypeTree → List ℕ → ℕ → NodeFault → Type 0
IsLeastFault t text n k = (j : Data) × IsRead text j × (least (faults j t 0) ≡ Some (here n k))

-- the text is read as a JSON value of which no node has a fault
abbrev pub IsClean : TypeTree → List ℕ → Type 0
IsClean t text = (j : Data) × IsRead text j × (faults j t 0 ≡ [])

-- the cause of an answer of looking for faults
abbrev pub IsCaused : TypeTree → List ℕ → Result (Unit {0}) JsonFault → Type 0
IsCaused t text (Ok u) = IsClean t text
IsCaused t text (Err fault.NotJson) = (j : Data) → IsRead text j → ⊥
IsCaused t text (Err (fault.WrongType n)) = IsLeastFault t text n node.WrongType
IsCaused t text (Err (fault.MissingRequired n id)) = IsLeastFault t text n (node.MissingRequired id)
IsCaused t text (Err (fault.RepeatedKey n)) = IsLeastFault t text n node.RepeatedKey
IsCaused t text (Err (fault.TooManyCells c)) = ⊥
IsCaused t text (Err fault.NoMemory) = Unit {0}

-- the faults that nodes of a JSON value may have
abbrev pub IsOfJson : NodeFault → Type 0
IsOfJson node.WrongType = Unit {0}
IsOfJson (node.MissingRequired id) = Unit {0}
IsOfJson node.RepeatedKey = Unit {0}
IsOfJson _ = ⊥

-- the answer of a fault at a node; no node has another
abbrev pub fault_at : ℕ → NodeFault → JsonFault
fault_at n node.WrongType = fault.WrongType n
fault_at n (node.MissingRequired id) = fault.MissingRequired n id
fault_at n node.RepeatedKey = fault.RepeatedKey n
fault_at n _ = fault.NoMemory

-- it is this answer, or memory ran out
abbrev pub OrMemory : Result (Unit {0}) JsonFault → Result (Unit {0}) JsonFault → Type 0
OrMemory r x = (r ≡ x) ⊎ (r ≡ Err fault.NoMemory)

-- where a cause holds, its answer is given, or memory ran out
pub record IsOnlyCaused (t : TypeTree) (text : List ℕ) (r : Result (Unit {0}) JsonFault) : Type 0 where
  pub no_json : ((j : Data) → IsRead text j → ⊥) → OrMemory r (Err fault.NotJson)
  pub faulty : (n : ℕ) (k : NodeFault) → IsLeastFault t text n k → OrMemory r (Err (fault_at n k))
  pub clean : IsClean t text → OrMemory r (Ok tt)
