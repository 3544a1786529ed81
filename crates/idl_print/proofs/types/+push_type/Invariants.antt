use Rattle.idl_print.proofs.Ranks.{rank}
use Rattle.idl_print.proofs.types.+push_type.Given as goal

abbrev pub decreases-push_type : goal.decreases-push_type
decreases-push_type l = rank l.node
