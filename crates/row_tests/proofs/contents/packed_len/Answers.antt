use Rattle.std.proofs.Common.{◌≡◌, ◌+◌, ◌/◌, drop, arith, ap, sym, ◌∙◌, subst}
use Rattle.frozen_model.specs.Layouts.{stride}
use Rattle.layout_tree.specs.Nodes.{layout_of, noted_in}
use Rattle.layout_tree.proofs.Children.{root_node}
use Rattle.measure_pass.specs.Spots.{spot}
use Rattle.measure_pass.proofs.Whole.{root_at}
use Rattle.row_tests.specs.Widths.{block_sum}
use Rattle.row_tests.proofs.Blocks.{LenLeft, len_step}
use Rattle.row_tests.proofs.contents.packed_len.Goals as goal

pub bits-requires : goal.bits-requires
bits-requires c = root_node (noted_in c.args.layouts.now)

pub loop-k-init : goal.loop-k-init
loop-k-init c =
    let l = c.args.layouts.now in
    let tree = (layout_of l).tree in
    let e : c.bits.result ≡ stride tree = c.bits.ensures.bits ∙ ap stride (root_at l) in
    record { each = c.requires.each; sum = ap (λ n. (n + 7) / 8 + block_sum tree (drop 1 c.args.spots.now)) e }

pub block_len-len-requires-clause-node : goal.block_len-len-requires-clause-node
block_len-len-requires-clause-node c =
    let s = len_step c.args.layouts.now c.args.spots.now c.loop-k.k c.loop-k.len (spot 0 0 0 0) (omega arith)
    c.loop-k.invariant in
    s.node

pub block_len-len-requires-clause-range : goal.block_len-len-requires-clause-range
block_len-len-requires-clause-range c =
    let s = len_step c.args.layouts.now c.args.spots.now c.loop-k.k c.loop-k.len (spot 0 0 0 0) (omega arith)
    c.loop-k.invariant in
    s.item_range

pub overflow_add-len-in-loop-k : goal.overflow_add-len-in-loop-k
overflow_add-len-in-loop-k c =
    let s = len_step c.args.layouts.now c.args.spots.now c.loop-k.k c.loop-k.len (spot 0 0 0 0) (omega arith)
    c.loop-k.invariant in
    omega (arith, s.room, c.requires.small, c.block_len-len.ensures)

pub loop-k-preserved : goal.loop-k-preserved
loop-k-preserved c =
    let l = c.args.layouts.now in
    let xs = c.args.spots.now in
    let s = len_step l xs c.loop-k.k c.loop-k.len (spot 0 0 0 0) (omega arith) c.loop-k.invariant in
    subst (λ n. LenLeft (layout_of l).tree xs (c.loop-k.k + 1) (c.loop-k.len + n))
    (sym c.block_len-len.ensures) s.next
