-- What a step of the check answers, beside what the walk gives there.
use Rattle.std.specs.Prelude.{ℕ, ◌+◌, ◌*◌, ◌^◌, ◌≤◌, ◌<◌, ◌≡◌, List, length, Option, Some, None, Result, Ok}
use Rattle.std.specs.Prelude.{Err}
use Rattle.frozen_model.specs.Trees.{Holder}
use Rattle.frozen_model.specs.Values.{Value, Values, cell_limit}
use Rattle.frozen_model.specs.Layouts.{Layout, stride}
use Rattle.frozen_model.specs.Walk.{Fault, Short, Long, Distance, Dirty, BadText, KeyOrder, TooManyCells}
use Rattle.frozen_model.specs.Walk.{OutOfRange}
use Rattle.frozen_model.specs.Walk.{Walked, walk, walk_each}
use Rattle.key_order.specs.declared.key.Key.{Key}
use Rattle.key_order.specs.Keys.{value_of}
use Rattle.content_check.specs.declared.fault.ContentFault.{ContentFault}
use Rattle.content_check.specs.declared.fault.ContentFault.TheVariants as s
use Rattle.content_check.specs.declared.reach.Reach.{Reach}

-- the fault of the definition that a fault of the code stands for
abbrev pub fault_of : ContentFault → Fault
fault_of s.Short = Short
fault_of (s.Long n) = Long n
fault_of (s.Distance b f w) = Distance b f w
fault_of (s.Dirty b) = Dirty b
fault_of (s.BadText b) = BadText b
fault_of (s.KeyOrder b) = KeyOrder b
fault_of s.TooManyCells = TooManyCells
fault_of (s.OutOfRange b) = OutOfRange b

-- ---- the walk

-- the walk of a part from where a check has come to
abbrev pub walked : List ℕ → Layout → ℕ → ℕ → Reach → Walked Value
walked bs l start bit at = walk bs l start None bit at.next at.cells

-- a key as a value, where there is one
abbrev pub key_value : Option Key → Option Value
key_value None = None
key_value (Some k) = Some (value_of k)

-- the same of a key, which has to be above the one before
abbrev pub walked_key : List ℕ → Layout → ℕ → Option Key → ℕ → Reach → Walked Value
walked_key bs l start before bit at = walk bs l start (key_value before) bit at.next at.cells

-- the same of n items in a block that begins at byte start
abbrev pub walked_items : Holder → List ℕ → Layout → ℕ → ℕ → Reach → Walked Values
walked_items h bs l n start at = walk_each h (walk bs l start) (stride l) None n (8 * start) at.next at.cells

-- ---- answers

-- an answer of the code in the words of the walk
abbrev pub counted : Result Reach ContentFault → Result (ℕ × ℕ) Fault
counted (Ok r) = Ok (r.next, r.cells)
counted (Err e) = Err (fault_of e)

-- what the walk gives, without the value
abbrev pub without_value : {V : Type 0} → Walked V → Result (ℕ × ℕ) Fault
without_value (Ok x) = Ok (x.1, x.2)
without_value (Err e) = Err e

-- the next byte is not before where it was and lies in the content, and the cells are within their limit
abbrev pub IsAhead : List ℕ → Reach → Result Reach ContentFault → Type 0
IsAhead bs from (Ok r) = (from.next ≤ r.next) × (r.next ≤ length bs) × (r.cells ≤ cell_limit)
IsAhead bs from (Err e) = Unit {0}

-- the code answers what the walk gives
pub record Agrees {V : Type 0} (bs : List ℕ) (w : Walked V) (at : Reach)
    (r : Result Reach ContentFault) : Type 0 where
  pub same : counted r ≡ without_value w
  pub ahead : IsAhead bs at r

-- a part's bits lie in the content, and so does the byte where the next block begins
pub record IsHere (bs : List ℕ) (l : Layout) (start bit : ℕ) (at : Reach) : Type 0 where
  pub inside : bit + stride l ≤ 8 * length bs
  pub past : start ≤ at.next
  pub within : at.next ≤ length bs
  pub few : at.cells ≤ cell_limit
  pub small : length bs < 2 ^ 56

-- the same of n items in a block that begins at byte start
pub record IsBlockHere (bs : List ℕ) (l : Layout) (n start : ℕ) (at : Reach) : Type 0 where
  pub inside : 8 * start + n * stride l ≤ 8 * length bs
  pub past : start ≤ at.next
  pub within : at.next ≤ length bs
  pub few : at.cells ≤ cell_limit
  pub small : length bs < 2 ^ 56
