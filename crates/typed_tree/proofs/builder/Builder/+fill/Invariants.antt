-- The defaults of the first fields stand on top; each call is of a smaller type, or of a part of the same one.
use Rattle.std.proofs.Common.{◌+◌, ◌*◌}
use Rattle.idl_parse.specs.Refs.{type_of_ref, field_of_ref}
use Rattle.typed_tree.proofs.Filling.{Fills}
use Rattle.typed_tree.proofs.Typed.{size}
use Rattle.typed_tree.proofs.builder.Builder.+fill.Given as goal

abbrev pub invariant-put_struct-loop-i : goal.invariant-put_struct-loop-i
invariant-put_struct-loop-i l = Fills l.initial.self l.self (type_of_ref l.ty) l.i

abbrev pub decreases-put_own_default : goal.decreases-put_own_default
decreases-put_own_default l = 4 * size (type_of_ref l.ty) + 1

abbrev pub decreases-put_struct : goal.decreases-put_struct
decreases-put_struct l = 4 * size (type_of_ref l.ty)

abbrev pub decreases-put_written : goal.decreases-put_written
decreases-put_written l = 4 * size (field_of_ref l.field).type + 2

abbrev pub decreases-put_default : goal.decreases-put_default
decreases-put_default l = 4 * size (field_of_ref l.field).type + 3
