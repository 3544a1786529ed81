use Rattle.std.proofs.Common.{suc, ◌<◌, arith, ap, drop, length-drop}
use Rattle.frozen_model.specs.Values.{count}
use Rattle.frozen_model.specs.Trees.{nodes}
use Rattle.layout_tree.specs.Nodes.{noted_in, listed}
use Rattle.layout_tree.proofs.Readings.{few_nodes}
use Rattle.layout_schema.proofs.Places.{behind, no_more, mine, theirs, few_children, listed_length}
use Rattle.layout_schema.proofs.write.count_children.Goals as goal
use Rattle.layout_schema.proofs.write.count_children.Goals.{then-node, else-node}

pub overflow_add-child : goal.overflow_add-child
overflow_add-child c = let l = c.args.layouts.now in omega (arith, c.requires, few_nodes l.version (noted_in l) l.sound)

pub node-requires : goal.node-requires
node-requires c =
    let l = c.args.layouts.now in
    let e = c.past-end.ensures in
    omega (arith, c.loop-child-test.true, listed_length l, (behind l c.args.node c.past-end.result c.requires e.part e.other).within)

pub past-child-requires : goal.past-child-requires
past-child-requires c =
    let l = c.args.layouts.now in
    let e = c.past-end.ensures in
    omega (arith, c.loop-child-test.true, listed_length l, (behind l c.args.node c.past-end.result c.requires e.part e.other).within)

pub overflow_add-count : goal.overflow_add-count
overflow_add-count c =
    let l = c.args.layouts.now in
    let xs = listed l in
    let n = c.args.node in
    omega (arith, c.loop-child.invariant.counted, few_children n (suc n) (drop (suc n) xs), listed_length l, length-drop (suc n) xs, few_nodes l.version (noted_in l) l.sound)

pub loop-child-smaller : goal.loop-child-smaller
loop-child-smaller c =
    let l = c.args.layouts.now in
    let k = c.loop-child.child in
    let e = c.past-end.ensures in
    let lt : k < nodes (noted_in l) = omega (arith, c.loop-child-test.true, listed_length l, (behind l c.args.node c.past-end.result c.requires e.part e.other).within) in
    let f = c.past-child.ensures in
    omega (arith, c.loop-child-test.true, (behind l k c.past-child.result lt f.part f.other).ends)

pub loop-child-preserved : goal.loop-child-preserved
loop-child-preserved c =
    let l = c.args.layouts.now in
    let xs = listed l in
    let n = c.args.node in
    let k = c.loop-child.child in
    let e = c.past-end.ensures in
    let lt : k < nodes (noted_in l) = omega (arith, c.loop-child-test.true, listed_length l, (behind l c.args.node c.past-end.result c.requires e.part e.other).within) in
    let f = c.past-child.ensures in
    let b = behind l k c.past-child.result lt f.part f.other in
    let i = c.loop-child.invariant in
    record {
      behind = omega (arith, b.ends, i.behind);
      counted = elim c.if-node.branch [
        | then-node w ↦ omega (arith, w.count-is, i.counted, ap count (mine xs n k c.past-child.result b i.behind c.node.result c.node.ensures w.if-node.true))
        | else-node w ↦ omega (arith, w.count-is, i.counted, ap count (theirs xs n k c.past-child.result b i.behind c.node.result c.node.ensures w.if-node.false))
      ];
    }

pub returns : goal.returns
returns c =
    let l = c.args.layouts.now in
    let n = c.args.node in
    let k = c.loop-child.child in
    let e = c.past-end.ensures in
    omega (arith, c.loop-child.invariant.counted, ap count (no_more (listed l) n c.past-end.result k (behind l n c.past-end.result c.requires e.part e.other) c.loop-child-test.false))
