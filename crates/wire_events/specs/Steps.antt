-- One event of what is left.
use Rattle.std.specs.Prelude.{◌≡◌, ◌≤◌, ℕ, List, [], ◌∷◌, ◌++◌, Option, Some, None, Result, Ok, Err}
use Rattle.exact_reading.specs.declared.stop.Stop.{Stop}
use Rattle.compact_wire.specs.Node.{Fields, structure}
use Rattle.compact_wire.specs.Spells.{SpellsWire}
use Rattle.wire_events.specs.Events.{Event, event_of, struct_event, events_in_fields}
use Rattle.wire_events.specs.Frames.{IsLeft, Inside}
use Rattle.wire_events.specs.Texts.{Takes}
use Rattle.wire_events.specs.declared.frame.Frame.{Frame}
use Rattle.wire_events.specs.declared.stepping.Step.{Step}

-- what is left of the container that gave the event; where it is over, it has opened none
abbrev pub Kept : ℕ → Option Frame → Option Frame → List Event → List ℕ → List ℕ → Type 0
Kept l opened None es b rest = (es ≡ []) × (b ≡ rest) × (opened ≡ None)
Kept l opened (Some g) es b rest = IsLeft l g es b rest

-- The bytes begin with a struct by itself. These events come behind its first, and the bytes rest are behind it.
pub record BeginsStruct (b : List ℕ) (es : List Event) (rest : List ℕ) : Type 0 where
  pub fields : Fields
  pub text : List ℕ
  pub spelled : SpellsWire (structure fields) text
  pub parts : b ≡ text ++ rest
  pub behind : es ≡ events_in_fields fields

-- the first of the events and the bytes that it takes, the events of the container that it opens, and those that are
-- left of the container that gave it
pub record IsStep (l : ℕ) (es : List Event) (b end : List ℕ) (s : Step) : Type 0 where
  pub ins : List Event
  pub outs : List Event
  pub mid : List ℕ
  pub parts : es ≡ event_of s.event ∷ (ins ++ outs)
  pub opened : Inside l s.opened ins s.rest.now mid
  pub kept : Kept l s.opened s.keep outs mid end
  pub takes : Takes (event_of s.event) b s.rest.now
  pub begins : l ≤ 64 → event_of s.event ≡ struct_event → BeginsStruct b ins mid

abbrev pub Steps : ℕ → List Event → List ℕ → List ℕ → Result Step Stop → Type 0
Steps l es b end (Ok s) = IsStep l es b end s
Steps l es b end (Err e) = ⊥
