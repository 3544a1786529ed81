-- The bytes that an event takes.
use Rattle.std.specs.Prelude.{◌≡◌, ℕ, suc, ◌+◌, ◌*◌, ◌-◌, ◌^◌, ◌<◌, ℤ, Bool, List, [], ◌∷◌, ◌++◌, Some}
use Rattle.compact_wire.specs.declared.kind.Kind.{Kind}
use Rattle.compact_wire.specs.Codes.{code_of, kind_of}
use Rattle.compact_wire.specs.Node.{Node}
use Rattle.compact_wire.specs.Number.{IsNumber}
use Rattle.compact_wire.specs.Spells.{Spells, IsListHeader, IsFieldHeader}
use Rattle.wire_events.specs.Events.{Event, first_event, struct_event, field_event, end_event, flag_event, list_event, set_event, map_event}

-- The bytes that spell an event: a header, or a scalar. The beginning of a struct takes none, and no more does a flag
-- that its field's header has told.
pub data SpellsEvent : Event → List ℕ → Type 0 where
  struct_text : (t : List ℕ) → t ≡ [] → SpellsEvent struct_event t
  field_text : (before id : ℤ) (c : ℕ) (t : List ℕ) → IsFieldHeader before id c t → SpellsEvent (field_event id) t
  end_text : (t : List ℕ) → t ≡ 0 ∷ [] → SpellsEvent end_event t
  told_text : (x : Bool) (t : List ℕ) → t ≡ [] → SpellsEvent (flag_event x) t
  scalar_text : (kind : Kind) (w : Node) (t : List ℕ) → Spells 0 kind w t → SpellsEvent (first_event w) t
  list_text : (kind : Kind) (n : ℕ) (t : List ℕ) → IsListHeader kind n t
      → SpellsEvent (list_event (code_of kind) n) t
  set_text : (kind : Kind) (n : ℕ) (t : List ℕ) → IsListHeader kind n t → SpellsEvent (set_event (code_of kind) n) t
  no_map_text : (t : List ℕ) → IsNumber 5 (2 ^ 31 - 1) 0 t → SpellsEvent (map_event 0 0 0) t
  map_text : (key value : Kind) (n c d : ℕ) (t h : List ℕ) → IsNumber 5 (2 ^ 31 - 1) (suc n) h → c < 16 → d < 16
      → kind_of c ≡ Some key → kind_of d ≡ Some value → t ≡ h ++ (16 * c + d) ∷ []
      → SpellsEvent (map_event (code_of key) (code_of value) (suc n)) t

-- the event's bytes are at the front, and the rest is behind them
abbrev pub Takes : Event → List ℕ → List ℕ → Type 0
Takes e b rest = (t : List ℕ) × SpellsEvent e t × (b ≡ t ++ rest)
