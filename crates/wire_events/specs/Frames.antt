-- What events are still to come out of open containers, and from which bytes.
use Rattle.std.specs.Prelude.{◌≡◌, ℕ, zero, suc, Bool, true, false, ◌-◌, ◌+◌, ◌<◌, ℤ, List, [], ◌∷◌, ◌++◌, length, slice_index_or, if◌then◌else◌, pos, Option, Some, None, Result, Ok, Err}
use Rattle.exact_reading.specs.declared.stop.Stop.{Stop}
use Rattle.compact_wire.specs.declared.kind.Kind.{Kind}
use Rattle.compact_wire.specs.declared.header.FieldType.{FieldType}
use Rattle.compact_wire.specs.Node.{Node, Nodes, Pairs, Fields}
use Rattle.compact_wire.specs.Reads.{value, items, pairs, fields, typed}
use Rattle.wire_events.specs.Events.{Event, events, events_in, events_in_pairs, events_in_fields, event_of}
use Rattle.wire_events.specs.declared.frame.Frame.{Frame}
use Rattle.wire_events.specs.declared.frame.Frame.TheVariants as f
use Rattle.wire_events.specs.declared.frame.WireEvent.{WireEvent}
use Rattle.wire_events.specs.Texts.{Takes}
use denote.Ref.{Bor}

-- from the bytes b on what is left of a container is read, whose parts may open l levels; these are its events, and
-- the bytes rest are behind it
pub data IsLeft : ℕ → Frame → List Event → List ℕ → List ℕ → Type 0 where
  items_left : (l : ℕ) (kind : Kind) (n : ℕ) (xs : Nodes) (b rest : List ℕ) → items (value l kind) n b ≡ Ok (xs, rest)
      → IsLeft l (f.Items kind n) (events_in xs) b rest
  pairs_left : (l : ℕ) (k v : Kind) (n : ℕ) (xs : Pairs) (b rest : List ℕ)
      → pairs (value l k) (value l v) n b ≡ Ok (xs, rest)
      → IsLeft l (f.Keys k v n) (events_in_pairs xs) b rest
  value_left : (l : ℕ) (k v : Kind) (n : ℕ) (y : Node) (xs : Pairs) (b mid rest : List ℕ)
      → value l v b ≡ Ok (y, mid) → pairs (value l k) (value l v) n mid ≡ Ok (xs, rest)
      → IsLeft l (f.Values k v n) (events y ++ events_in_pairs xs) b rest
  fields_left : (l : ℕ) (before : ℤ) (turns : ℕ) (xs : Fields) (b rest : List ℕ)
      → fields l (value l) turns before b ≡ Ok (xs, rest)
      → IsLeft l (f.Fields before) (events_in_fields xs) b rest
  field_value_left : (l : ℕ) (id : ℤ) (ty : FieldType) (turns : ℕ) (x : Node) (xs : Fields) (b mid rest : List ℕ)
      → typed (value l) ty b ≡ Ok (x, mid) → fields l (value l) turns id mid ≡ Ok (xs, rest)
      → IsLeft l (f.FieldValue id ty) (events x ++ events_in_fields xs) b rest

-- From the bytes b on these events come out of open containers, the innermost first, and the bytes end are behind
-- them. So many more are open around them, and the outermost of all holds the root, which may open all 64 levels.
abbrev pub Come : ℕ → List Frame → List Event → List ℕ → List ℕ → Type 0
Come around [] es b end = (es ≡ []) × (b ≡ end)
Come around (g ∷ gs) es b end =
    (ins : List Event) × (outs : List Event) × (mid : List ℕ) × (es ≡ ins ++ outs)
    × IsLeft (64 - (around + length gs)) g ins b mid × Come around gs outs mid end

-- behind the first event of a value at that many levels
abbrev pub Inside : ℕ → Option Frame → List Event → List ℕ → List ℕ → Type 0
Inside l None es b rest = (es ≡ []) × (b ≡ rest)
Inside l (Some g) es b rest = (0 < l) × IsLeft (l - 1) g es b rest

-- the first event of the value that the bytes b begin with and its own bytes, what it opens, and the bytes behind that event
abbrev pub Opens : ℕ → Node → List ℕ → List ℕ → Result (WireEvent × Option Frame × Bor (List ℕ)) Stop → Type 0
Opens l x b rest (Ok r) = (es : List Event) × (events x ≡ event_of r.0 ∷ es) × Inside l r.1 es r.2.now rest × Takes (event_of r.0) b r.2.now
Opens l x b rest (Err e) = ⊥

-- nothing is left of a container; fields have their end to give
abbrev pub is_done : Frame → Bool
is_done (f.Items kind zero) = true
is_done (f.Items kind (suc n)) = false
is_done (f.Keys k v zero) = true
is_done (f.Keys k v (suc n)) = false
is_done (f.Values k v n) = false
is_done (f.Fields before) = false
is_done (f.FieldValue id ty) = false

-- the containers that are not over, the innermost first
abbrev pub settle : List Frame → List Frame
settle [] = []
settle (g ∷ gs) = if is_done g then settle gs else g ∷ gs

abbrev pub pushed : Option Frame → List Frame → List Frame
pushed None gs = gs
pushed (Some g) gs = g ∷ gs

-- the first so many frames of an array, the last of them first
abbrev pub stack_of : List Frame → ℕ → List Frame
stack_of frames zero = []
stack_of frames (suc d) = slice_index_or frames d (f.Fields (pos 0)) ∷ stack_of frames d

-- some events come out of the first so many frames, and they end where the bytes end
abbrev pub GoesOn : List Frame → ℕ → List ℕ → Type 0
GoesOn frames depth b = (es : List Event) × Come 0 (stack_of frames depth) es b []
