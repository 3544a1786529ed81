use Rattle.std.proofs.Common.{◌+◌, ◌*◌}
use Rattle.frozen_model.specs.Trees.{nodes}
use Rattle.idl_parse.specs.Refs.{type_of_ref, field_of_ref}
use Rattle.type_kinds.specs.KindsOf.{kinds_of}
use Rattle.layout_tree.specs.Shapes.{field_kinds}
use Rattle.layout_tree.proofs.Shaping.{FieldsToAdd}
use Rattle.layout_tree.proofs.blank.+shape.Given as goal

abbrev pub decreases-add_type : goal.decreases-add_type
decreases-add_type l = 4 * nodes (kinds_of (type_of_ref l.ty)) + 1

abbrev pub decreases-add_items : goal.decreases-add_items
decreases-add_items l = 4 * nodes (kinds_of (type_of_ref l.ty))

abbrev pub decreases-add_map : goal.decreases-add_map
decreases-add_map l = 4 * nodes (kinds_of (type_of_ref l.ty))

abbrev pub decreases-add_struct : goal.decreases-add_struct
decreases-add_struct l = 4 * nodes (kinds_of (type_of_ref l.ty))

abbrev pub decreases-add_field : goal.decreases-add_field
decreases-add_field l = 4 * nodes (field_kinds (field_of_ref l.field)) + 2

abbrev pub invariant-add_struct-loop-i : goal.invariant-add_struct-loop-i
invariant-add_struct-loop-i l = FieldsToAdd (type_of_ref l.ty) l.fn.nodes.items l.field l.parent l.here
    l.nodes.items l.i

abbrev pub decreases-add_optional : goal.decreases-add_optional
decreases-add_optional l = 4 * nodes (kinds_of (type_of_ref l.ty)) + 3
