use Rattle.std.proofs.Common.{◌+◌, ◌*◌}
use Rattle.idl_fields.proofs.types.+kind.Given as goal

abbrev pub decreases-read_type : goal.decreases-read_type
decreases-read_type l = 3 * l.depth + 2

abbrev pub decreases-read_after_head : goal.decreases-read_after_head
decreases-read_after_head l = 3 * l.depth + 1

abbrev pub decreases-read_inner : goal.decreases-read_inner
decreases-read_inner l = 3 * l.depth
