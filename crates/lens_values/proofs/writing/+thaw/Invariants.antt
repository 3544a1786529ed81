-- What is written of the parts from a place on is still to come, and the cells of the parts before it are
-- counted; each call is of a smaller type, or of a part of the same one.
use Rattle.std.proofs.Common.{◌≡◌, ◌+◌, ◌*◌, ◌++◌}
use Rattle.std.specs.Prelude.{pos}
use Rattle.idl_parse.specs.Refs.{field_of_ref, element_of, key_of, value_of}
use Rattle.compact_wire.specs.Canon.{canon_items, canon_pairs, canon_fields}
use Rattle.type_kinds.specs.KindsOf.{kinds_of}
use Rattle.typed_tree.specs.Parts.{items_of, fields_of}
use Rattle.typed_tree.specs.Ranges.{pair_kinds}
use Rattle.typed_tree.specs.Sizes.{capped}
use Rattle.typed_tree.proofs.Typed.{size}
use Rattle.typed_tree.proofs.Celled.{all_fields, fields_before}
use Rattle.compact_codec.specs.Wire.{wire, each, each_pair, wire_of_fields}
use Rattle.compact_codec.proofs.Rest.{items_from, pairs_from, written_from}
use Rattle.evolve.specs.Lenses.{type_of_lens, value_of_lens}
use Rattle.lens_values.proofs.Counting.{own_before}
use Rattle.lens_values.proofs.writing.+thaw.Given as goal

abbrev pub decreases-push_value : goal.decreases-push_value
decreases-push_value l = 8 * size (type_of_lens l.from) + 3

abbrev pub decreases-push_row : goal.decreases-push_row
decreases-push_row l = 8 * size (type_of_lens l.from) + 2

abbrev pub decreases-push_map : goal.decreases-push_map
decreases-push_map l = 8 * size (type_of_lens l.from) + 2

abbrev pub decreases-push_fields : goal.decreases-push_fields
decreases-push_fields l = 8 * size (type_of_lens l.from) + 2

abbrev pub decreases-push_other_field : goal.decreases-push_other_field
decreases-push_other_field l = 8 * size (type_of_lens l.part) + 4

abbrev pub decreases-push_header_and_value : goal.decreases-push_header_and_value
decreases-push_header_and_value l = 8 * size (type_of_lens l.part) + 5

abbrev pub decreases-push_given : goal.decreases-push_given
decreases-push_given l = 8 * size (type_of_lens l.part) + 6

abbrev pub decreases-push_field : goal.decreases-push_field
decreases-push_field l = 8 * size (field_of_ref l.field).type + 7

abbrev pub invariant-push_row-loop-i : goal.invariant-push_row-loop-i
invariant-push_row-loop-i l =
    let f = wire (element_of (type_of_lens l.from)) in
    let vs = items_of (value_of_lens l.from) in
    let k = kinds_of (element_of (type_of_lens l.from)) in
    (l.out.items ++ items_from f vs l.i ≡ l.initial.out.items ++ canon_items (each f vs))
    × (capped l.cells ≡ capped (l.initial.cells + own_before k vs l.i))

abbrev pub invariant-push_map-loop-i : goal.invariant-push_map-loop-i
invariant-push_map-loop-i l =
    let f = wire (key_of (type_of_lens l.from)) in
    let g = wire (value_of (type_of_lens l.from)) in
    let vs = items_of (value_of_lens l.from) in
    let k = pair_kinds (kinds_of (key_of (type_of_lens l.from))) (kinds_of (value_of (type_of_lens l.from))) in
    (l.out.items ++ pairs_from f g vs l.i ≡ l.initial.out.items ++ canon_pairs (each_pair f g vs))
    × (capped l.cells ≡ capped (l.initial.cells + own_before k vs l.i))

abbrev pub invariant-push_fields-loop-i : goal.invariant-push_fields-loop-i
invariant-push_fields-loop-i l =
    let fs = all_fields (type_of_lens l.from) in
    let vs = fields_of (value_of_lens l.from) in
    (l.out.items ++ written_from l.before.id fs vs l.i
    ≡ l.initial.out.items ++ canon_fields (pos 0) (wire_of_fields fs vs))
    × (capped l.cells ≡ capped (l.initial.cells + fields_before fs vs l.i))
