use Rattle.std.proofs.Common.{◌+◌, ◌*◌}
use Rattle.tree_bench.proofs.+weigh.Given as goal

abbrev pub decreases-weigh : goal.decreases-weigh
decreases-weigh l = 2 * l.depth

abbrev pub decreases-weigh_items : goal.decreases-weigh_items
decreases-weigh_items l = 2 * l.depth + 1

abbrev pub decreases-weigh_pairs : goal.decreases-weigh_pairs
decreases-weigh_pairs l = 2 * l.depth + 1

abbrev pub decreases-weigh_fields : goal.decreases-weigh_fields
decreases-weigh_fields l = 2 * l.depth + 1
