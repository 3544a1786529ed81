use Rattle.std.proofs.Common.{◌+◌, arith, ap, sym, ◌∙◌}
use Rattle.layout_tree.proofs.Settling.{segment_in, below_of, below_in, part_settled, read_group, read_head}
use Rattle.layout_tree.proofs.Settling.{group_bytes_cases, group_holder_cases, group_struct_cases, bytes_step}
use Rattle.layout_tree.proofs.Settling.{range_below, optional_below, struct_below, first_field, fields_begin}
use Rattle.layout_tree.proofs.Settling.{fields_go_on, fields_over, below_light}
use Rattle.layout_tree.specs.Groups.{group}
use Rattle.layout_tree.proofs.settle.+settle.Goals as goal

pub settle_part-settle_below-bits-requires : goal.settle_part-settle_below-bits-requires
settle_part-settle_below-bits-requires t c = (omega (arith, c.decreases), below_of c.requires)

pub settle_part-bounds-nodes-i : goal.settle_part-bounds-nodes-i
settle_part-bounds-nodes-i t c = omega (arith, c.settle_below-bits.auto.nodes, segment_in c.requires)

pub settle_part-returns : goal.settle_part-returns
settle_part-returns t c g = part_settled g _ c.settle_below-bits.result c.args.offset _
    (c.settle_below-bits.ensures (below_of g))

pub settle_below-overflow_add-result : goal.settle_below-overflow_add-result
settle_below-overflow_add-result t c =
    let g = c.requires in
    let e = sym (read_group g _) ∙ group_bytes_cases _ c.in-Text.is in
    omega (
      arith,
      below_light g (c.settle_width-distance.result + c.settle_width.result)
          (bytes_step g e c.settle_width-distance.ensures c.settle_width.ensures).1,
    )

pub settle_below-settle_part-requires : goal.settle_below-settle_part-requires
settle_below-settle_part-requires t c =
    let g = c.requires in
    let r = range_below g (sym (read_group g _) ∙ group_holder_cases _ c.in-List.is) in
    (omega (arith, c.decreases, segment_in r.item), r.item)

pub settle_below-overflow_add-result-in-List : goal.settle_below-overflow_add-result-in-List
settle_below-overflow_add-result-in-List t c =
    let g = c.requires in
    let r = range_below g (sym (read_group g _) ∙ group_holder_cases _ c.in-List.is) in
    let done = r.step _ _ _ _ _ _ (c.settle_part.ensures r.item) c.settle_width-distance-in-List.ensures
    c.settle_width-in-List.ensures in
    omega (
      arith,
      below_light g (c.settle_width-distance-in-List.result + c.settle_width-in-List.result)
          done.1,
    )

pub settle_below-settle_part-requires-in-Optional : goal.settle_below-settle_part-requires-in-Optional
settle_below-settle_part-requires-in-Optional t c =
    let g = c.requires in
    let o = optional_below g (sym (read_group g _) ∙ ap group c.in-Optional.is) in
    let inner = o.inner _ _ c.settle_width-flag.ensures in
    (omega (arith, c.decreases, segment_in inner, c.settle_width-flag.auto.nodes), inner)

pub settle_below-overflow_add-result-in-Optional : goal.settle_below-overflow_add-result-in-Optional
settle_below-overflow_add-result-in-Optional t c =
    let g = c.requires in
    let o = optional_below g (sym (read_group g _) ∙ ap group c.in-Optional.is) in
    let done = o.step _ _ c.settle_width-flag.ensures _ _
    (c.settle_part-in-Optional.ensures (o.inner _ _ c.settle_width-flag.ensures)) in
    omega (arith, below_light g (c.settle_width-flag.result + c.settle_part-in-Optional.result) done.1)

pub settle_below-settle_fields-requires : goal.settle_below-settle_fields-requires
settle_below-settle_fields-requires t c =
    let g = c.requires in
    let s = struct_below g _ (ap (λ x. x.wide) (read_head g _))
    (sym (read_group g _) ∙ group_struct_cases _ c.in-Struct.is) in
    (omega (arith, c.decreases, below_in g), s.fields)

pub settle_below-returns-in-Text : goal.settle_below-returns-in-Text
settle_below-returns-in-Text t c g =
    bytes_step g (sym (read_group g _) ∙ group_bytes_cases _ c.in-Text.is) c.settle_width-distance.ensures
    c.settle_width.ensures

pub settle_below-returns-in-List : goal.settle_below-returns-in-List
settle_below-returns-in-List t c g =
    let r = range_below g (sym (read_group g _) ∙ group_holder_cases _ c.in-List.is) in
    r.step _ _ _ _ _ _ (c.settle_part.ensures r.item) c.settle_width-distance-in-List.ensures
    c.settle_width-in-List.ensures

pub settle_below-returns-in-Optional : goal.settle_below-returns-in-Optional
settle_below-returns-in-Optional t c g =
    let o = optional_below g (sym (read_group g _) ∙ ap group c.in-Optional.is) in
    o.step _ _ c.settle_width-flag.ensures _ _
    (c.settle_part-in-Optional.ensures (o.inner _ _ c.settle_width-flag.ensures))

pub settle_below-returns-in-Struct : goal.settle_below-returns-in-Struct
settle_below-returns-in-Struct t c g =
    let s = struct_below g _ (ap (λ x. x.wide) (read_head g _))
    (sym (read_group g _) ∙ group_struct_cases _ c.in-Struct.is) in
    s.step _ _ (c.settle_fields.ensures s.fields)

pub settle_fields-loop-next-init : goal.settle_fields-loop-next-init
settle_fields-loop-next-init t c = (omega arith, λ g. fields_begin g)

pub settle_fields-settle_part-bits-requires : goal.settle_fields-settle_part-bits-requires
settle_fields-settle_part-bits-requires t c =
    let r = c.loop-next.invariant.1 c.requires in
    let f = first_field r.left c.loop-next-test.true in
    (omega (arith, c.decreases, c.loop-next.invariant.0, c.loop-next.auto.nodes), f.first)

pub settle_fields-end_of-next-requires : goal.settle_fields-end_of-next-requires
settle_fields-end_of-next-requires t c =
    let r = c.loop-next.invariant.1 c.requires in
    let f = first_field r.left c.loop-next-test.true in
    f.next _ _ (c.settle_part-bits.ensures f.first)

pub settle_fields-overflow_add-sum : goal.settle_fields-overflow_add-sum
settle_fields-overflow_add-sum t c =
    let r = c.loop-next.invariant.1 c.requires in
    let f = first_field r.left c.loop-next-test.true in
    omega (arith, f.fits _ _ (c.settle_part-bits.ensures f.first))

pub settle_fields-loop-next-smaller : goal.settle_fields-loop-next-smaller
settle_fields-loop-next-smaller t c =
    let r = c.loop-next.invariant.1 c.requires in
    let lt = c.loop-next-test.true in
    let f = first_field r.left lt in
    let h = c.settle_part-bits.ensures f.first in
    omega (arith, lt, f.later _ _ _ h (c.end_of-next.ensures (f.next _ _ h)))

pub settle_fields-loop-next-preserved : goal.settle_fields-loop-next-preserved
settle_fields-loop-next-preserved t c =
    let lt = c.loop-next-test.true in
    let f0 = first_field (c.loop-next.invariant.1 c.requires).left lt in
    let h0 = c.settle_part-bits.ensures f0.first in (
      omega (arith, c.loop-next.invariant.0, f0.later _ _ _ h0 (c.end_of-next.ensures (f0.next _ _ h0))),
      λ g.
          let r = c.loop-next.invariant.1 g in
          let f = first_field r.left lt in
          let h = c.settle_part-bits.ensures f.first in
          fields_go_on g c.loop-next.nodes c.settle_part-bits.new.nodes c.loop-next.next c.loop-next.sum
          c.settle_part-bits.result c.end_of-next.result r lt h (c.end_of-next.ensures (f.next _ _ h)),
    )

pub settle_fields-returns : goal.settle_fields-returns
settle_fields-returns t c g = fields_over g c.loop-next.nodes c.loop-next.next c.loop-next.sum
    (c.loop-next.invariant.1 g) c.loop-next-test.false
