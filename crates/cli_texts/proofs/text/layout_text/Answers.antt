use Rattle.std.specs.Prelude.{string_bytes}
use Rattle.std.proofs.Common.{◌≤◌, ◌∙◌, length, arith}
use Rattle.layout_tree.specs.declared.node.Kind.TheVariants as kinds
use Rattle.layout_tree.specs.Nodes.{layout_of, listed, noted_in}
use Rattle.layout_schema.proofs.Places.{listed_length}
use Rattle.cli_texts.proofs.Alike.{same_lines}
use Rattle.cli_texts.proofs.Lines.{next_line, all_lines}
use Rattle.cli_texts.proofs.text.layout_text.Goals as goal

pub loop-node-preserved : goal.loop-node-preserved
loop-node-preserved c =
    let l = c.args.layouts.now in
    next_line (layout_of l).version c.loop-node.node (listed l) c.node-spec.result
    (string_bytes c.loop-node.out) (string_bytes c.push_line.new.out)
    c.node-spec.ensures c.in_ok-push_line.ensures
    ∙ c.loop-node.invariant

pub returns : goal.returns
returns c =
    let l = c.args.layouts.now in
    let v = (layout_of l).version in
    let k = c.loop-node.node in
    let le : length (listed l) ≤ k =
    omega (arith, listed_length l, c.count-node-end.ensures, c.loop-node-test.false) in
    all_lines v k (listed l) (string_bytes c.loop-node.out) le ∙ c.loop-node.invariant
    ∙ same_lines v (noted_in l) kinds.Struct 0 0 0 0
