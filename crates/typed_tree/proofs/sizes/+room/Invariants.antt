-- The room of the first fields is counted; each call is of a smaller type, or of a part of the same one.
use Rattle.std.proofs.Common.{◌≡◌, ◌+◌, ◌*◌}
use Rattle.idl_parse.specs.Refs.{type_of_ref, field_of_ref}
use Rattle.typed_tree.specs.Sizes.{capped_room}
use Rattle.typed_tree.proofs.Typed.{size, used_before}
use Rattle.typed_tree.proofs.sizes.+room.Given as goal

abbrev pub invariant-struct_room-loop-i : goal.invariant-struct_room-loop-i
invariant-struct_room-loop-i l = l.room ≡ capped_room (used_before (type_of_ref l.ty) l.i)

abbrev pub decreases-type_room : goal.decreases-type_room
decreases-type_room l = 4 * size (type_of_ref l.ty) + 1

abbrev pub decreases-struct_room : goal.decreases-struct_room
decreases-struct_room l = 4 * size (type_of_ref l.ty)

abbrev pub decreases-written_room : goal.decreases-written_room
decreases-written_room l = 4 * size (field_of_ref l.field).type + 2

abbrev pub decreases-default_room : goal.decreases-default_room
decreases-default_room l = 4 * size (field_of_ref l.field).type + 3
