use Rattle.bit_view.proofs.Seen.{view_node}
use Rattle.bit_view.proofs.row.Row.of.Goals as goal

pub stride-requires-clause-node : goal.stride-requires-clause-node
stride-requires-clause-node c = view_node c.args.whole
