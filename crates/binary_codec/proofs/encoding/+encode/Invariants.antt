-- What is written of the parts from a place on is still to come; each call is of a smaller type, or of a part of the same one.
use Rattle.std.proofs.Common.{◌≡◌, ◌+◌, ◌*◌, ◌++◌}
use Rattle.idl_parse.specs.Refs.{type_of_ref, field_of_ref}
use Rattle.typed_tree.specs.Parts.{items_of, fields_of}
use Rattle.typed_tree.specs.References.{value_of_ref}
use Rattle.typed_tree.proofs.Typed.{size}
use Rattle.typed_tree.proofs.Celled.{all_fields}
use Rattle.typed_tree.proofs.Rest.{from, fields_from}
use Rattle.binary_codec.specs.BinaryEncoding.{binary, in_turn, pairs_in_turn, fields_in_binary}
use Rattle.binary_codec.proofs.encoding.+encode.Given as goal

abbrev pub decreases-push_value : goal.decreases-push_value
decreases-push_value l = 8 * size (type_of_ref l.ty) + 1

abbrev pub decreases-push_fields : goal.decreases-push_fields
decreases-push_fields l = 8 * size (type_of_ref l.ty)

abbrev pub decreases-push_row : goal.decreases-push_row
decreases-push_row l = 8 * size (type_of_ref l.element) + 2

abbrev pub decreases-push_map : goal.decreases-push_map
decreases-push_map l = 8 * (size (type_of_ref l.key) + size (type_of_ref l.value)) + 2

abbrev pub decreases-push_given : goal.decreases-push_given
decreases-push_given l = 8 * size (field_of_ref l.field).type + 4

abbrev pub decreases-push_field : goal.decreases-push_field
decreases-push_field l = 8 * size (field_of_ref l.field).type + 5

abbrev pub invariant-push_row-loop-i : goal.invariant-push_row-loop-i
invariant-push_row-loop-i l =
    let f = binary (type_of_ref l.element) in
    let vs = items_of (value_of_ref l.row) in
    l.out.items ++ in_turn f (from vs l.i) ≡ l.initial.out.items ++ in_turn f vs

abbrev pub invariant-push_map-loop-i : goal.invariant-push_map-loop-i
invariant-push_map-loop-i l =
    let f = binary (type_of_ref l.key) in
    let g = binary (type_of_ref l.value) in
    let vs = items_of (value_of_ref l.map) in
    l.out.items ++ pairs_in_turn f g (from vs l.i) ≡ l.initial.out.items ++ pairs_in_turn f g vs

abbrev pub invariant-push_fields-loop-i : goal.invariant-push_fields-loop-i
invariant-push_fields-loop-i l =
    let fs = all_fields (type_of_ref l.ty) in
    let vs = fields_of (value_of_ref l.v) in
    l.out.items ++ fields_in_binary (fields_from fs l.i) (from vs l.i) ≡ l.initial.out.items ++ fields_in_binary fs vs
