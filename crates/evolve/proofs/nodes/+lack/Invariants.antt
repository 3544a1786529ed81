use Rattle.std.proofs.Common.{◌+◌, ◌*◌}
use Rattle.frozen_model.specs.Trees.{nodes}
use Rattle.idl_parse.specs.Refs.{type_of_ref, field_of_ref}
use Rattle.type_kinds.specs.KindsOf.{kinds_of}
use Rattle.layout_tree.specs.Shapes.{field_kinds}
use Rattle.evolve.proofs.LackedParts.{LackLeft}
use Rattle.evolve.proofs.nodes.+lack.Given as goal

abbrev pub decreases-lack_type : goal.decreases-lack_type
decreases-lack_type l = 3 * nodes (kinds_of (type_of_ref l.ty)) + 1

abbrev pub decreases-lack_fields : goal.decreases-lack_fields
decreases-lack_fields l = 3 * nodes (kinds_of (type_of_ref l.ty))

abbrev pub decreases-lack_field : goal.decreases-lack_field
decreases-lack_field l = 3 * nodes (field_kinds (field_of_ref l.field)) + 2

abbrev pub invariant-lack_fields-loop-i : goal.invariant-lack_fields-loop-i
invariant-lack_fields-loop-i l = LackLeft (type_of_ref l.ty) l.fn.nodes.items l.nodes.items l.i
