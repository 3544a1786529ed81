use Rattle.std.proofs.Common.{◌<◌, ◌++◌, arith, ap, sym, ◌∙◌, drop, append_assoc}
use Rattle.std.proofs.lemmas.List.{append-nil}
use Rattle.compact_wire.specs.Canon.{canon_pairs}
use Rattle.frozen_model.specs.Trees.{nodes}
use Rattle.layout_tree.specs.Nodes.{noted_in, listed}
use Rattle.layout_tree.proofs.Readings.{few_nodes}
use Rattle.layout_schema.specs.Schemas.{children_of}
use Rattle.layout_schema.specs.Pieces.{child_bytes, child_pairs}
use Rattle.layout_schema.proofs.Places.{behind, no_more, mine, theirs, listed_length}
use Rattle.layout_schema.proofs.Spelled.{child_spelled}
use Rattle.layout_schema.proofs.write.push_children.Goals as goal
use Rattle.layout_schema.proofs.write.push_children.Goals.{then-spec-node+in_ok-push_child, else-spec-node}

pub overflow_add-child : goal.overflow_add-child
overflow_add-child c = let l = c.args.layouts.now in omega (arith, c.requires, few_nodes l.version (noted_in l) l.sound)

pub node-spec-requires : goal.node-spec-requires
node-spec-requires c =
    let l = c.args.layouts.now in
    let e = c.past-end.ensures in
    omega (arith, c.loop-child-test.true, listed_length l, (behind l c.args.node c.past-end.result c.requires e.part e.other).within)

pub past-child-requires : goal.past-child-requires
past-child-requires c =
    let l = c.args.layouts.now in
    let e = c.past-end.ensures in
    omega (arith, c.loop-child-test.true, listed_length l, (behind l c.args.node c.past-end.result c.requires e.part e.other).within)

pub loop-child-smaller : goal.loop-child-smaller
loop-child-smaller c =
    let l = c.args.layouts.now in
    let k = c.loop-child.child in
    let e = c.past-end.ensures in
    let lt : k < nodes (noted_in l) = omega (arith, c.loop-child-test.true, listed_length l, (behind l c.args.node c.past-end.result c.requires e.part e.other).within) in
    let f = c.past-child.ensures in
    omega (arith, c.loop-child-test.true, (behind l k c.past-child.result lt f.part f.other).ends)

pub loop-child-preserved : goal.loop-child-preserved
loop-child-preserved c =
    let l = c.args.layouts.now in
    let xs = listed l in
    let n = c.args.node in
    let k = c.loop-child.child in
    let past = c.past-child.result in
    let x = c.node-spec.result in
    let e = c.past-end.ensures in
    let lt : k < nodes (noted_in l) = omega (arith, c.loop-child-test.true, listed_length l, (behind l n c.past-end.result c.requires e.part e.other).within) in
    let f = c.past-child.ensures in
    let b = behind l k past lt f.part f.other in
    let i = c.loop-child.invariant in
    let out = c.loop-child.out.items in
    let left = canon_pairs (child_pairs (children_of n past (drop past xs))) in
    record {
      behind = omega (arith, b.ends, i.behind);
      written = elim c.if-spec-node.branch [
        | then-spec-node+in_ok-push_child w ↦
            ap (λ r. r ++ left) (ap (λ v. v.items) w.out-is ∙ w.in_ok-push_child.ensures)
            ∙ append_assoc out (child_bytes k x) left
            ∙ ap (λ r. out ++ r) (sym (child_spelled k x left))
            ∙ ap (λ r. out ++ canon_pairs (child_pairs r)) (sym (mine xs n k past b i.behind x c.node-spec.ensures w.if-spec-node.true))
            ∙ i.written
        | else-spec-node w ↦
            ap (λ v. v.items ++ left) w.out-is
            ∙ ap (λ r. out ++ canon_pairs (child_pairs r)) (sym (theirs xs n k past b i.behind x c.node-spec.ensures w.if-spec-node.false))
            ∙ i.written
      ];
    }

pub returns : goal.returns
returns c =
    let l = c.args.layouts.now in
    let n = c.args.node in
    let k = c.loop-child.child in
    let e = c.past-end.ensures in
    let out = c.loop-child.out.items in
    sym (append-nil out)
    ∙ ap (λ r. out ++ canon_pairs (child_pairs r)) (sym (no_more (listed l) n c.past-end.result k (behind l n c.past-end.result c.requires e.part e.other) c.loop-child-test.false))
    ∙ c.loop-child.invariant.written
