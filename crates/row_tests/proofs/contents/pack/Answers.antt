use Rattle.std.proofs.Common.{ℕ, length, arith, ap, ◌∙◌}
use Rattle.std.proofs.lemmas.List.{length-replicate}
use Rattle.block_region.specs.Space.{Space}
use Rattle.layout_tree.specs.Nodes.{layout_of, noted_in}
use Rattle.typed_tree.specs.References.{value_of_ref}
use Rattle.measure_pass.proofs.Within.{small_whole}
use Rattle.row_tests.proofs.Blocks.{gathered_sum}
use Rattle.row_tests.proofs.Settling.{rested_holds}
use Rattle.row_tests.proofs.contents.pack.Goals as goal

pub packed_len-len-requires-clause-each : goal.packed_len-len-requires-clause-each
packed_len-len-requires-clause-each c =
    let l = c.args.layouts.now in
    let v = value_of_ref c.args.v in
    let small = small_whole (layout_of l) v c.requires.form c.requires.few
    c.layouts_are_described.ensures.bits in
    let s = gathered_sum (layout_of l).tree v (noted_in l) c.spots.result.now c.requires.form small
    (c.spots.ensures ∙ c.in_ok-ranges.ensures) in
    s.each

pub packed_len-len-requires-clause-small : goal.packed_len-len-requires-clause-small
packed_len-len-requires-clause-small c =
    let l = c.args.layouts.now in
    let v = value_of_ref c.args.v in
    let small = small_whole (layout_of l) v c.requires.form c.requires.few
    c.layouts_are_described.ensures.bits in
    let s = gathered_sum (layout_of l).tree v (noted_in l) c.spots.result.now c.requires.form small
    (c.spots.ensures ∙ c.in_ok-ranges.ensures) in
    omega (arith, small, s.sum)

pub freeze_into-requires-clause-holds : goal.freeze_into-requires-clause-holds
freeze_into-requires-clause-holds c = rested_holds (layout_of c.args.layouts.now).tree (value_of_ref c.args.v) c.requires

pub freeze_into-requires-clause-left : goal.freeze_into-requires-clause-left
freeze_into-requires-clause-left c =
    let l = c.args.layouts.now in
    let v = value_of_ref c.args.v in
    let small = small_whole (layout_of l) v c.requires.form c.requires.few
    c.layouts_are_described.ensures.bits in
    let s = gathered_sum (layout_of l).tree v (noted_in l) c.spots.result.now c.requires.form small
    (c.spots.ensures ∙ c.in_ok-ranges.ensures) in
    let e = c.in_ok-region.ensures.blank in
    omega (
      arith,
      ap (λ (r : Space). length r.bytes) e,
      ap (λ (r : Space). r.taken) e,
      length-replicate {A = ℕ} c.packed_len-len.result 0,
      c.packed_len-len.ensures,
      s.sum,
    )
