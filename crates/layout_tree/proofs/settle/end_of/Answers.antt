use Rattle.std.proofs.Common.{get_or}
use Rattle.frozen_model.specs.Trees.{nodes}
use Rattle.layout_tree.proofs.Readings.{past_leaf, past_branch, leaf_cases, branch_cases}
use Rattle.layout_tree.proofs.Settling.{segment_in, past_segment}
use Rattle.layout_tree.proofs.settle.end_of.Goals as goal

pub bounds-nodes-i : goal.bounds-nodes-i
bounds-nodes-i c = segment_in c.requires

pub returns-in-Flag : goal.returns-in-Flag
returns-in-Flag c g =
    let x = get_or c.args.nodes.now c.args.i _ in
    past_leaf x.kind (leaf_cases x.kind c.in-Flag.is) c.args.i x.wide (nodes g.tree) (past_segment g _)

pub returns-in_default : goal.returns-in_default
returns-in_default c g =
    let x = get_or c.args.nodes.now c.args.i _ in
    let o = c.in_default in
    past_branch x.kind (branch_cases x.kind o.not-Flag o.not-I8 o.not-I16 o.not-I32 o.not-I64 o.not-Size)
    c.args.i x.wide (nodes g.tree) (past_segment g _)
