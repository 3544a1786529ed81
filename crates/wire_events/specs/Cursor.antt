-- What a cursor over events has still to give, and where it stands.
use Rattle.std.specs.Prelude.{◌≡◌, ℕ, ◌+◌, ◌-◌, List, [], ◌∷◌, ◌++◌, length, drop, Option, Some, None}
use Rattle.compact_wire.specs.Node.{Node, Fields, structure}
use Rattle.compact_wire.specs.Spells.{SpellsWire}
use Rattle.wire_events.specs.declared.cursor.WireEvents.{WireEvents}
use Rattle.wire_events.specs.declared.frame.Frame.{Frame}
use Rattle.wire_events.specs.declared.frame.WireEvent.{WireEvent}
use Rattle.wire_events.specs.Events.{Event, event_of, events_in_fields}
use Rattle.wire_events.specs.Frames.{Come, stack_of}
use Rattle.wire_events.specs.Texts.{SpellsEvent}

-- some tree is spelled by all of the bytes
abbrev pub IsSpelled : List ℕ → Type 0
IsSpelled bytes = (w : Node) × SpellsWire w bytes

-- the bytes that the cursor was made over
abbrev pub bytes_of : WireEvents → List ℕ
bytes_of c = c.bytes.now

-- how many of them the events so far have taken
abbrev pub place_of : WireEvents → ℕ
place_of c = length c.bytes.now - length c.rest.now

-- the events that are still to come
abbrev pub AreLeft : WireEvents → List Event → Type 0
AreLeft c es = Come 0 (stack_of c.frames c.depth) es c.rest.now []

-- none where no event is left, and P holds of none still; else the first of them, and P holds of the others
abbrev pub IsNext : Option WireEvent → List Event → (List Event → Type 0) → Type 0
IsNext None es P = (es ≡ []) × P []
IsNext (Some e) es P = (ds : List Event) × (es ≡ event_of e ∷ ds) × P ds

-- From the place before an event to the one behind it the bytes spell the event. Where none comes, the place stays at
-- the end of the bytes.
abbrev pub Moves : Option WireEvent → WireEvents → WireEvents → Type 0
Moves None old new = (place_of new ≡ place_of old) × (place_of new ≡ length (bytes_of new))
Moves (Some e) old new =
    (t : List ℕ) × SpellsEvent (event_of e) t × (place_of new ≡ place_of old + length t)
    × (drop (place_of old) (bytes_of old) ≡ t ++ drop (place_of new) (bytes_of new))

-- these events come next, and behind them these bytes are left
pub record ComeNext (c : WireEvents) (es : List Event) (end : List ℕ) : Type 0 where
  pub inner : List Frame
  pub outer : List Frame
  pub parts : stack_of c.frames c.depth ≡ inner ++ outer
  pub come : Come (length outer) inner es c.rest.now end

-- The bytes from the place on spell a struct by themselves, and other bytes follow. What comes next is the rest of
-- its events, up to its end.
pub record OpensStruct (old new : WireEvents) : Type 0 where
  pub fields : Fields
  pub text : List ℕ
  pub behind : List ℕ
  pub spelled : SpellsWire (structure fields) text
  pub stands : drop (place_of old) (bytes_of old) ≡ text ++ behind
  pub next : ComeNext new (events_in_fields fields) behind
