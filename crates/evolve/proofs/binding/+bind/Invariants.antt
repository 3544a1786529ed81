use Rattle.std.proofs.Common.{◌+◌, ◌*◌}
use Rattle.frozen_model.specs.Trees.{nodes}
use Rattle.idl_parse.specs.Refs.{type_of_ref, field_of_ref}
use Rattle.type_kinds.specs.KindsOf.{kinds_of}
use Rattle.layout_tree.specs.Nodes.{at}
use Rattle.layout_tree.specs.Shapes.{field_kinds}
use Rattle.evolve.proofs.FieldSteps.{FieldsLeft}
use Rattle.evolve.proofs.binding.+bind.Given as goal

abbrev pub decreases-bind_type : goal.decreases-bind_type
decreases-bind_type l = 6 * nodes (kinds_of (type_of_ref l.ty)) + 2

abbrev pub decreases-bind_row : goal.decreases-bind_row
decreases-bind_row l = 6 * nodes (kinds_of (type_of_ref l.ty)) + 1

abbrev pub decreases-bind_map : goal.decreases-bind_map
decreases-bind_map l = 6 * nodes (kinds_of (type_of_ref l.ty)) + 1

abbrev pub decreases-bind_pair : goal.decreases-bind_pair
decreases-bind_pair l = 6 * nodes (kinds_of (type_of_ref l.ty))

abbrev pub decreases-bind_struct : goal.decreases-bind_struct
decreases-bind_struct l = 6 * nodes (kinds_of (type_of_ref l.ty)) + 1

abbrev pub decreases-bind_field : goal.decreases-bind_field
decreases-bind_field l = 6 * nodes (field_kinds (field_of_ref l.field)) + 4

abbrev pub decreases-bind_optional : goal.decreases-bind_optional
decreases-bind_optional l = 6 * nodes (kinds_of (type_of_ref l.ty)) + 3

abbrev pub invariant-bind_struct-loop-i : goal.invariant-bind_struct-loop-i
invariant-bind_struct-loop-i l = FieldsLeft l.layouts.relaxed (type_of_ref l.ty) (at l.layouts l.node) l.node
    l.fn.nodes.items l.nodes.items l.i
