use Rattle.std.proofs.Common.{◌≡◌, ℕ, ◌+◌, ◌-◌, ◌≤◌, List, length, []}
use Rattle.frozen_model.specs.Values.{Value}
use Rattle.compact_wire.specs.Reads.{items, value}
use Rattle.idl_parse.specs.Refs.{type_of_ref}
use Rattle.exact_reading.specs.Reading.{seen}
use Rattle.typed_reading.specs.Counts.{counted_items}
use Rattle.typed_reading.specs.Progress.{after_keys}
use Rattle.typed_reading.specs.Kept.{AreKept}
use Rattle.typed_reading.specs.Marks.{Climbs}
use Rattle.typed_reading.proofs.keys.check_set_items.Given as goal

abbrev pub invariant-loop : goal.invariant-loop
invariant-loop l =
    (ks : List (ℕ × Value))
    × (seen (after_keys (type_of_ref l.ty) (l.progress, ks)) (items (value l.levels l.kind) (l.count - l.counter) l.rest)
    ≡ seen (after_keys (type_of_ref l.ty) (l.initial.progress, [])) (items (value l.levels l.kind) l.count l.bytes))
    × (l.progress.next + length l.rest ≤ l.initial.progress.next + length l.bytes)
    × Climbs 0 l.progress.next ks
    × AreKept l.kind ks l.keys.items
    × (seen (counted_items (type_of_ref l.ty) l.sums) (items (value l.levels l.kind) (l.count - l.counter) l.rest)
    ≡ seen (counted_items (type_of_ref l.ty) l.initial.sums) (items (value l.levels l.kind) l.count l.bytes))
