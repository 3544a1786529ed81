-- The events of a tree.
use Rattle.std.specs.Prelude.{ℕ, ℤ, Bool, List, [], ◌∷◌, ◌++◌}
use Rattle.compact_wire.specs.Node.{Node, flag, i8, i16, i32, i64, double, binary, list, set, map, structure, Nodes, no_nodes, node, Pairs, no_pairs, pair, Fields, no_fields, field}
use Rattle.wire_events.specs.declared.frame.WireEvent.{WireEvent}
use Rattle.wire_events.specs.declared.frame.WireEvent.TheVariants as w
use Rattle.compact_wire.specs.Canon.{nodes_count, pairs_count}

pub data Event : Type 0 where
  struct_event : Event
  field_event : ℤ → Event
  end_event : Event
  flag_event : Bool → Event
  i8_event : ℤ → Event
  i16_event : ℤ → Event
  i32_event : ℤ → Event
  i64_event : ℤ → Event
  double_event : List ℕ → Event
  binary_event : List ℕ → Event
  list_event : ℕ → ℕ → Event
  set_event : ℕ → ℕ → Event
  map_event : ℕ → ℕ → ℕ → Event

abbrev mutual
  -- for a scalar its own, for a container its header and the events of its parts
  pub events : Node → List Event
  events (flag b) = flag_event b ∷ []
  events (i8 z) = i8_event z ∷ []
  events (i16 z) = i16_event z ∷ []
  events (i32 z) = i32_event z ∷ []
  events (i64 z) = i64_event z ∷ []
  events (double b) = double_event b ∷ []
  events (binary b) = binary_event b ∷ []
  events (list c xs) = list_event c (nodes_count xs) ∷ events_in xs
  events (set c xs) = set_event c (nodes_count xs) ∷ events_in xs
  events (map a b xs) = map_event a b (pairs_count xs) ∷ events_in_pairs xs
  events (structure xs) = struct_event ∷ events_in_fields xs

  pub events_in : Nodes → List Event
  events_in no_nodes = []
  events_in (node x xs) = events x ++ events_in xs

  pub events_in_pairs : Pairs → List Event
  events_in_pairs no_pairs = []
  events_in_pairs (pair x y xs) = events x ++ (events y ++ events_in_pairs xs)

  pub events_in_fields : Fields → List Event
  events_in_fields no_fields = end_event ∷ []
  events_in_fields (field id x xs) = field_event id ∷ (events x ++ events_in_fields xs)

-- the first of them
abbrev pub first_event : Node → Event
first_event (flag b) = flag_event b
first_event (i8 z) = i8_event z
first_event (i16 z) = i16_event z
first_event (i32 z) = i32_event z
first_event (i64 z) = i64_event z
first_event (double b) = double_event b
first_event (binary b) = binary_event b
first_event (list c xs) = list_event c (nodes_count xs)
first_event (set c xs) = set_event c (nodes_count xs)
first_event (map a b xs) = map_event a b (pairs_count xs)
first_event (structure xs) = struct_event

-- the event that the code gives
abbrev pub event_of : WireEvent → Event
event_of w.Struct = struct_event
event_of (w.Field z) = field_event z
event_of w.End = end_event
event_of (w.Flag b) = flag_event b
event_of (w.I8 z) = i8_event z
event_of (w.I16 z) = i16_event z
event_of (w.I32 z) = i32_event z
event_of (w.I64 z) = i64_event z
event_of (w.Double b) = double_event b
event_of (w.Binary b) = binary_event b.now
event_of (w.List c n) = list_event c n
event_of (w.Set c n) = set_event c n
event_of (w.Map a b n) = map_event a b n
