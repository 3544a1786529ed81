use Rattle.std.proofs.Common.{◌<◌, ◌≤◌, length, arith, ◌∙◌}
use Rattle.layout_tree.specs.Nodes.{listed}
use Rattle.row_tests.specs.Widths.{first_of}
use Rattle.row_tests.proofs.FirstVersion.{first_step, first_end, long_list, first_listed}
use Rattle.row_tests.proofs.widths.first_version.Goals as goal

pub loop-number-preserved : goal.loop-number-preserved
loop-number-preserved c =
    let l = c.args.layouts.now in
    let n = c.loop-number.number in
    let long = long_list l in
    let h : n < length (listed l) = omega arith in
    c.in_ok-push.ensures.items ∙ first_step (listed l) c.loop-number.nodes.items n c.node-node.result h
    c.node-node.ensures c.loop-number.invariant

pub from_nodes-requires : goal.from_nodes-requires
from_nodes-requires c =
    let l = c.args.layouts.now in
    let n = c.loop-number.number in
    let long = long_list l in
    let h : length (listed l) ≤ n = omega arith in
    record { layout = first_of l; is = first_listed l c.loop-number.nodes.items c.requires (first_end (listed l) c.loop-number.nodes.items n h c.loop-number.invariant) }

pub returns-clause-layout : goal.returns-clause-layout
returns-clause-layout c =
    let l = c.args.layouts.now in
    let n = c.loop-number.number in
    let long = long_list l in
    let h : length (listed l) ≤ n = omega arith in
    c.from_nodes.ensures.layout (first_of l)
    (first_listed l c.loop-number.nodes.items c.requires (first_end (listed l) c.loop-number.nodes.items n h c.loop-number.invariant))
