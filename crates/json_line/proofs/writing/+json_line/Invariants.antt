-- What is written of the parts from a place on is still to come; each call is of a smaller type, or of a part
-- of the same one.
use Rattle.std.proofs.Common.{◌≡◌, ◌+◌, ◌*◌, ◌++◌, false, string_bytes}
use Rattle.idl_parse.specs.Refs.{field_of_ref, element_of, key_of, value_of}
use Rattle.typed_tree.specs.Parts.{items_of, fields_of}
use Rattle.typed_tree.proofs.Typed.{size}
use Rattle.typed_tree.proofs.Celled.{all_fields}
use Rattle.serde_json.specs.Written.{items_text, members_text}
use Rattle.evolve.specs.Lenses.{type_of_lens, value_of_lens}
use Rattle.json_line.specs.Json.{as_json, each, both, members}
use Rattle.json_line.proofs.Rest.{items_from, members_from}
use Rattle.json_line.proofs.writing.+json_line.Given as goal

abbrev pub decreases-push_value : goal.decreases-push_value
decreases-push_value l = 8 * size (type_of_lens l.from) + 3

abbrev pub decreases-push_fields : goal.decreases-push_fields
decreases-push_fields l = 8 * size (type_of_lens l.from) + 2

abbrev pub decreases-push_row : goal.decreases-push_row
decreases-push_row l = 8 * size (type_of_lens l.row) + 2

abbrev pub decreases-push_map : goal.decreases-push_map
decreases-push_map l = 8 * size (type_of_lens l.map) + 2

abbrev pub decreases-push_pair : goal.decreases-push_pair
decreases-push_pair l = 8 * (size (type_of_lens l.key) + size (type_of_lens l.value)) + 4

abbrev pub decreases-push_given : goal.decreases-push_given
decreases-push_given l = 8 * size (type_of_lens l.part) + 4

abbrev pub decreases-push_field : goal.decreases-push_field
decreases-push_field l = 8 * size (field_of_ref l.field).type + 5

abbrev pub invariant-push_row-loop-i : goal.invariant-push_row-loop-i
invariant-push_row-loop-i l =
    let f = as_json (element_of (type_of_lens l.row)) in
    let vs = items_of (value_of_lens l.row) in
    string_bytes l.out ++ items_from f vs l.i ≡ string_bytes l.initial.out ++ items_text false (each f vs)

abbrev pub invariant-push_map-loop-i : goal.invariant-push_map-loop-i
invariant-push_map-loop-i l =
    let f = both (as_json (key_of (type_of_lens l.map))) (as_json (value_of (type_of_lens l.map))) in
    let vs = items_of (value_of_lens l.map) in
    string_bytes l.out ++ items_from f vs l.i ≡ string_bytes l.initial.out ++ items_text false (each f vs)

abbrev pub invariant-push_fields-loop-i : goal.invariant-push_fields-loop-i
invariant-push_fields-loop-i l =
    let fs = all_fields (type_of_lens l.from) in
    let vs = fields_of (value_of_lens l.from) in
    string_bytes l.out ++ members_from l.later fs vs l.i
    ≡ string_bytes l.initial.out ++ members_text false (members fs vs)
